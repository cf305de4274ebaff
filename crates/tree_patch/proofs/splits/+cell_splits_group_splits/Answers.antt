use Rattle.std.proofs.Common.{ap, arith, rules, ◌+◌, ◌≤◌}
use Rattle.tree.proofs.Laws.Trees.{node_in-row}
use Rattle.tree_patch.specs.declared.splits.Cell.{Cell}
use Rattle.tree_patch.specs.Counts.{most_splits}
use Rattle.tree_patch.proofs.Laws.CellCounts.{cell-none, branch-level, branch-group, branch-counted}
use Rattle.tree_patch.proofs.Laws.CellCounts.{leaf-filled, leaf-counted_none, leaf-level, leaf-group, leaf-fits, leaf-counted}
use Rattle.tree_patch.proofs.Laws.GroupCounts.{ahead-start, ahead-child, ahead-fits, ahead-next, ahead_end}
use Rattle.tree_patch.proofs.splits.+cell_splits_group_splits.Goals as goal

pub cell_splits-returns-then-laid-eq0 : goal.cell_splits-returns-then-laid-eq0
cell_splits-returns-then-laid-eq0 t c = search (cell-none, rules)

pub cell_splits-node_at-words-requires : goal.cell_splits-node_at-words-requires
cell_splits-node_at-words-requires t c = search (node_in-row, rules)

pub cell_splits-group_splits-requires : goal.cell_splits-group_splits-requires
cell_splits-group_splits-requires t c =
    let one : 1 ≤ c.args.cell.levels = search branch-level in
    (omega arith, search branch-group)

pub cell_splits-returns-then-is_branch : goal.cell_splits-returns-then-is_branch
cell_splits-returns-then-is_branch t c = search (branch-counted, rules)

pub cell_splits-is_overfull-requires : goal.cell_splits-is_overfull-requires
cell_splits-is_overfull-requires t c = search (leaf-filled, rules)

pub cell_splits-returns-then-not-is_overfull : goal.cell_splits-returns-then-not-is_overfull
cell_splits-returns-then-not-is_overfull t c = search (leaf-counted_none, rules)

pub cell_splits-group_splits-requires-2 : goal.cell_splits-group_splits-requires-2
cell_splits-group_splits-requires-2 t c =
    let one : 1 ≤ c.args.cell.levels = search leaf-level in
    (omega arith, search leaf-group)

pub cell_splits-overflow_add-result : goal.cell_splits-overflow_add-result
cell_splits-overflow_add-result t c =
    let fits : 1 + c.group_splits-2.result ≤ most_splits = search leaf-fits in
    omega arith

pub cell_splits-returns : goal.cell_splits-returns
cell_splits-returns t c = search (leaf-counted, rules)

pub group_splits-loop-child-init : goal.group_splits-loop-child-init
group_splits-loop-child-init t c = (omega arith, search (ahead-start, rules))

pub group_splits-cell_splits-splits-requires : goal.group_splits-cell_splits-splits-requires
group_splits-cell_splits-splits-requires t c =
    let lower = ap (λ (x : Cell). x.levels) c.child_cell-below.ensures in
    let ahead = c.loop-child.invariant.1 in
    (omega arith, ahead-child ahead c.loop-child.invariant.0 c.loop-child-test.true c.child_cell-below.ensures)

pub group_splits-overflow_add-splits : goal.group_splits-overflow_add-splits
group_splits-overflow_add-splits t c =
    let ahead = c.loop-child.invariant.1 in
    omega (arith, ahead-fits ahead c.loop-child.invariant.0 c.loop-child-test.true c.child_cell-below.ensures _ c.cell_splits-splits.ensures)

pub group_splits-loop-child-preserved : goal.group_splits-loop-child-preserved
group_splits-loop-child-preserved t c =
    let ahead = c.loop-child.invariant.1 in
    (omega arith, ahead-next ahead c.loop-child.invariant.0 c.loop-child-test.true c.child_cell-below.ensures _ c.cell_splits-splits.ensures)

pub group_splits-returns : goal.group_splits-returns
group_splits-returns t c = ahead_end c.loop-child.invariant.1 (omega arith)
