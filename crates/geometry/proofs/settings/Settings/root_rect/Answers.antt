-- Each axis: the sum fits by Laws.Ranges.
use Rattle.std.proofs.Common.{rules}
use Rattle.geometry.proofs.Laws.Ranges.{root_axes, edge-fits}
use Rattle.geometry.specs.Settings.{root_rect}
use Rattle.geometry.proofs.settings.Settings.root_rect.Goals as goal

pub overflow_add-result : goal.overflow_add-result
overflow_add-result c = search (edge-fits, (root_axes _ c.requires).0, rules)

pub overflow_add-result-2 : goal.overflow_add-result-2
overflow_add-result-2 c = search (edge-fits, (root_axes _ c.requires).1, rules)

pub returns : goal.returns
unfolding root_rect
returns c = search (edge-fits, (root_axes _ c.requires).0, (root_axes _ c.requires).1, rules)
