-- The number after the far edge fits, for an axis of accepted settings.
use Rattle.std.proofs.Common.{arith, rules, to_z-of_z, w32, ◌∙◌}
use Rattle.arithmetic.proofs.Laws.Linear.{got, min-is}
use Rattle.geometry.proofs.Laws.Ranges.{edge-fits}
use Rattle.tint.specs.Counts.{unit_upto}
use Rattle.tint.proofs.Laws.Units.{past_edge_fits}
use Rattle.tint.proofs.count.unit_upto.Goals as goal

pub overflow_add-low : goal.overflow_add-low
overflow_add-low c = search (edge-fits, rules)

pub overflow_add-low-2 : goal.overflow_add-low-2
overflow_add-low-2 c = search (edge-fits, past_edge_fits _ _ 1 c.requires (omega arith), rules)

pub returns : goal.returns
unfolding unit_upto
returns c =
    let edge = to_z-of_z (edge-fits _ _ c.requires) in
    let past = to_z-of_z (past_edge_fits _ _ 1 c.requires (omega arith)) in
    let least = rw (to_z-of_z c.ranges.low, to_z-of_z c.ranges.size, edge, past) at c.min.ensures.value in
    got w32 c.min.type_inv (least ∙ min-is _ _)
