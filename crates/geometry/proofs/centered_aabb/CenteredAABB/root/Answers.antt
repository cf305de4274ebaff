-- Each axis: the sum fits by Laws.Ranges.
use Rattle.std.proofs.Common.{rules}
use Rattle.arithmetic.proofs.Laws.Linear.{half-fits}
use Rattle.geometry.specs.Cells.{root_cell}
use Rattle.geometry.proofs.Laws.Ranges.{root_axes, root-fits}
use Rattle.geometry.proofs.centered_aabb.CenteredAABB.root.Goals as goal

pub overflow_add-result : goal.overflow_add-result
overflow_add-result c = search (root-fits, half-fits, (root_axes _ c.requires).0, rules)

pub overflow_add-result-2 : goal.overflow_add-result-2
overflow_add-result-2 c = search (root-fits, half-fits, (root_axes _ c.requires).1, rules)

pub returns : goal.returns
unfolding root_cell
returns c = search (root-fits, half-fits, (root_axes _ c.requires).0, (root_axes _ c.requires).1, rules)
