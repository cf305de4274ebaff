-- The walk writes the ids of all dots below a node. The node's walk hands its group on, the group's hands each child back.
-- The measure of a node is twice the levels; of a group, one more than that of its children.
-- The loop over the children: what it has left to do leads to the whole (`Ahead`).
use Rattle.std.proofs.Common.{◌*◌, ◌+◌}
use Rattle.tree_all.proofs.Laws.Groups.{Ahead}
use Rattle.tree_all.proofs.walk.+list_group_list_node.Given as goal

abbrev pub decreases-list_group : goal.decreases-list_group
decreases-list_group l = 2 * l.levels + 1

abbrev pub decreases-list_node : goal.decreases-list_node
decreases-list_node l = 2 * l.levels

abbrev pub invariant-list_group-loop-child : goal.invariant-list_group-loop-child
invariant-list_group-loop-child l = Ahead l.nodes l.dots l.initial.row l.initial.next l.first l.levels l.row l.next l.child
