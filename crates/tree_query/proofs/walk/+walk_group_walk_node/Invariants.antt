-- The query's walk lists what the query meets in the tree at a node, and counts the nodes opened. The node's walk hands its group on,
-- the group's hands each child back.
-- The measure of a node is twice the levels that are left below it; of a group, one more than that of its children.
-- The loop over the children: what it has left to do leads to the whole (`Ahead`).
use Rattle.std.proofs.Common.{◌*◌, ◌+◌}
use Rattle.tree_query.proofs.Laws.Groups.{Ahead}
use Rattle.tree_query.proofs.walk.+walk_group_walk_node.Given as goal

abbrev pub decreases-walk_group : goal.decreases-walk_group
decreases-walk_group l = 2 * l.group.levels + 1

abbrev pub decreases-walk_node : goal.decreases-walk_node
decreases-walk_node l = 2 * l.levels

abbrev pub invariant-walk_group-loop-child : goal.invariant-walk_group-loop-child
invariant-walk_group-loop-child l =
    Ahead l.query l.cell l.quadrants l.rows.nodes.now l.rows.dots.now l.rows.rects.now l.initial.row l.initial.met l.first l.levels l.row l.met l.child
