-- The cleanup's walk makes the words and the head that tree's Cleanup says, and counts the branches that it turns.
-- The node's walk hands its group on, the group's hands each child back, the last first.
-- The measure of a node is twice the levels; of a group, one more than that of its children.
-- The loop over the children: what it has left to do leads to the whole (`Ahead`).
use Rattle.std.proofs.Common.{◌*◌, ◌+◌}
use Rattle.tree_cleanup.proofs.Laws.Groups.{Ahead}
use Rattle.tree_cleanup.proofs.+clean_group_clean_node.Given as goal

abbrev pub decreases-clean_group : goal.decreases-clean_group
decreases-clean_group l = 2 * l.levels + 1

abbrev pub decreases-clean_node : goal.decreases-clean_node
decreases-clean_node l = 2 * l.levels

abbrev pub invariant-clean_group-loop-child : goal.invariant-clean_group-loop-child
invariant-clean_group-loop-child l = Ahead l.initial.nodes l.initial.next l.first l.levels l.nodes l.next l.child
