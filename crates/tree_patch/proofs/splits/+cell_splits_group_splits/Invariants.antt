-- The splits at a cell are its own and those of its children: the cell's count hands its group on, the group's hands each child back, child 0 left out.
-- The measure: twice the levels of the cell; in a group twice the levels of its children and one more.
-- The loop's invariant: what it has left to count leads to the whole (`Ahead`).
use Rattle.std.proofs.Common.{◌*◌, ◌+◌, ◌-◌, ◌≤◌}
use Rattle.tree_patch.proofs.Laws.GroupCounts.{Ahead}
use Rattle.tree_patch.proofs.splits.+cell_splits_group_splits.Given as goal

abbrev pub decreases-cell_splits : goal.decreases-cell_splits
decreases-cell_splits l = 2 * l.cell.levels

abbrev pub decreases-group_splits : goal.decreases-group_splits
decreases-group_splits l = 2 * (l.cell.levels - 1) + 1

abbrev pub invariant-group_splits-loop-child : goal.invariant-group_splits-loop-child
invariant-group_splits-loop-child l =
    (1 ≤ l.child) × Ahead l.settings l.rows.nodes.now l.rows.dots.now l.rows.rects.now l.cell l.tiled.patch l.splits (5 - l.child)
