use Rattle.std.proofs.Common.{arith, rules, ◌≤◌}
use Rattle.tree.proofs.Laws.Trees.{node_in-row}
use Rattle.tree_query.proofs.Laws.LeafNodes.{leaf-asks, leaf_gives, branch-level, branch-asks, branch_gives}
use Rattle.tree_query.proofs.Laws.LeafGroups.{ahead-child, ahead-next, ahead_end}
use Rattle.tree_query.proofs.leaves.+leaf_group_leaf_node.Goals as goal

-- ---- a group

pub leaf_group-leaf_node-next-requires : goal.leaf_group-leaf_node-next-requires
leaf_group-leaf_node-next-requires t c = (omega arith, search (ahead-child, rules))

pub leaf_group-loop-child-preserved : goal.leaf_group-loop-child-preserved
leaf_group-loop-child-preserved t c = search (ahead-next, rules)

pub leaf_group-returns : goal.leaf_group-returns
leaf_group-returns t c = search (ahead_end, rules)

-- ---- a node

pub leaf_node-node_at-words-requires : goal.leaf_node-node_at-words-requires
leaf_node-node_at-words-requires t c = search (node_in-row, rules)

-- a leaf
pub leaf_node-keep_leaf-requires : goal.leaf_node-keep_leaf-requires
leaf_node-keep_leaf-requires t c = (omega arith, omega arith, search leaf-asks)

pub leaf_node-returns-then-not-is_branch : goal.leaf_node-returns-then-not-is_branch
leaf_node-returns-then-not-is_branch t c = search (leaf_gives, rules)

-- a branch
pub leaf_node-overflow_sub-levels : goal.leaf_node-overflow_sub-levels
leaf_node-overflow_sub-levels t c = search (branch-level, rules)

pub leaf_node-leaf_group-requires : goal.leaf_node-leaf_group-requires
leaf_node-leaf_group-requires t c =
    let one : 1 ≤ c.args.levels = search branch-level in
    (omega arith, search branch-asks)

pub leaf_node-returns : goal.leaf_node-returns
leaf_node-returns t c = search (branch_gives, rules)
