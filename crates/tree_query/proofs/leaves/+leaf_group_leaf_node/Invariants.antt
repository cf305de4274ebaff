-- The walk over the leaves writes their numbers in the order of the walk. The node's walk hands its group on, the group's hands each child back,
-- children 0 skipped.
-- The measure of a node is twice the levels that are left below it; of a group, one more than that of its children.
-- The loop over the children: what it has left to do leads to the whole (`Ahead`).
use Rattle.std.proofs.Common.{◌*◌, ◌+◌}
use Rattle.tree_query.proofs.Laws.LeafGroups.{Ahead}
use Rattle.tree_query.proofs.leaves.+leaf_group_leaf_node.Given as goal

abbrev pub decreases-leaf_group : goal.decreases-leaf_group
decreases-leaf_group l = 2 * l.levels + 1

abbrev pub decreases-leaf_node : goal.decreases-leaf_node
decreases-leaf_node l = 2 * l.levels

abbrev pub invariant-leaf_group-loop-child : goal.invariant-leaf_group-loop-child
invariant-leaf_group-loop-child l = Ahead l.node_data l.nodes l.initial.row l.at l.first l.levels l.row l.next l.child
