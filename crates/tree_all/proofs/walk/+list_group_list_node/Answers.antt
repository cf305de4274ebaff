use Rattle.std.proofs.Common.{arith, rules, ◌≤◌}
use Rattle.tree_all.proofs.Laws.Nodes.{node_in, leaf-asks, leaf_gives, branch-level, branch-asks, branch_gives}
use Rattle.tree_all.proofs.Laws.Groups.{ahead-child, ahead-next, ahead_end}
use Rattle.tree_all.proofs.walk.+list_group_list_node.Goals as goal

-- ---- a group

pub list_group-list_node-next-requires : goal.list_group-list_node-next-requires
list_group-list_node-next-requires t c = (omega arith, search (ahead-child, rules))

pub list_group-loop-child-preserved : goal.list_group-loop-child-preserved
list_group-loop-child-preserved t c = search (ahead-next, rules)

pub list_group-returns : goal.list_group-returns
list_group-returns t c = search (ahead_end, rules)

-- ---- a node

pub list_node-node_at-words-requires : goal.list_node-node_at-words-requires
list_node-node_at-words-requires t c = search (node_in, rules)

-- a leaf
pub list_node-list_chain-requires : goal.list_node-list_chain-requires
list_node-list_chain-requires t c = search (leaf-asks, rules)

pub list_node-returns-then-not-is_branch : goal.list_node-returns-then-not-is_branch
list_node-returns-then-not-is_branch t c = search (leaf_gives, rules)

-- a branch
pub list_node-overflow_sub-levels : goal.list_node-overflow_sub-levels
list_node-overflow_sub-levels t c = search (branch-level, rules)

pub list_node-list_group-requires : goal.list_node-list_group-requires
list_node-list_group-requires t c =
    let one : 1 ≤ c.args.levels = search branch-level in
    (omega arith, search branch-asks)

pub list_node-returns : goal.list_node-returns
list_node-returns t c = search (branch_gives, rules)
