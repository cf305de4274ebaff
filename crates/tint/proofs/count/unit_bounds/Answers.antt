-- On each axis of accepted settings.
use Rattle.std.proofs.Common.{rules}
use Rattle.geometry.proofs.Laws.Ranges.{accepted, root_axes}
use Rattle.tint.specs.Counts.{unit_bounds}
use Rattle.tint.proofs.Laws.Units.{over-fits}
use Rattle.tint.proofs.count.unit_bounds.Goals as goal

pub overflow_sub-result : goal.overflow_sub-result
overflow_sub-result c = search (over-fits, (root_axes _ (accepted _ c.requires).root).0, rules)

pub unit_upto-requires : goal.unit_upto-requires
unit_upto-requires c = search ((root_axes _ (accepted _ c.requires).root).0, rules)

pub overflow_sub-result-2 : goal.overflow_sub-result-2
overflow_sub-result-2 c = search (over-fits, (root_axes _ (accepted _ c.requires).root).1, rules)

pub unit_upto-requires-2 : goal.unit_upto-requires-2
unit_upto-requires-2 c = search ((root_axes _ (accepted _ c.requires).root).1, rules)

pub returns : goal.returns
unfolding unit_bounds
returns c =
    let axes = root_axes _ (accepted _ c.requires).root in
    search (over-fits, axes.0, axes.1, c.unit_upto.ensures, c.unit_upto-2.ensures, rules)
