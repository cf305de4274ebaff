-- The walk of a node calls that of its group, which calls that of each child. Each way is a law of Laws.Trees and Laws.Groups.
-- The measure of a node is twice the levels that are left below it; of a group, one more than that of its children.
-- The loop's invariant: what is left to check leads to the whole (`Ahead`).
use Rattle.std.proofs.Common.{◌*◌, ◌+◌, ◌-◌}
use Rattle.memory.specs.Lent.{held}
use Rattle.tree_check.proofs.Laws.Regions.{levels}
use Rattle.tree_check.proofs.Laws.Groups.{Ahead}
use Rattle.tree_check.proofs.tree.+check_group_check_node.Given as goal

abbrev pub decreases-check_group : goal.decreases-check_group
decreases-check_group l = 2 * (levels l.region - 1) + 1

abbrev pub decreases-check_node : goal.decreases-check_node
decreases-check_node l = 2 * levels l.region

abbrev pub invariant-check_group-loop-child : goal.invariant-check_group-loop-child
invariant-check_group-loop-child l = Ahead l.region (held l.rows) l.group l.initial.marks l.marks l.child
