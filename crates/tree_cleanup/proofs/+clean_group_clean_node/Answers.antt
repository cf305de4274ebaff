use Rattle.std.proofs.Common.{arith, rules, ◌≤◌}
use Rattle.tree_cleanup.proofs.Laws.Nodes.{walked_in, leaf-cleaned, branch_in, branch-first, branch-level, branch-group}
use Rattle.tree_cleanup.proofs.Laws.Nodes.{turned-cleaned, branch-cleaned}
use Rattle.tree_cleanup.proofs.Laws.Groups.{ahead-node, ahead-next, ahead_end}
use Rattle.tree_cleanup.proofs.+clean_group_clean_node.Goals as goal

-- ---- a group

pub clean_group-clean_node-next-requires : goal.clean_group-clean_node-next-requires
clean_group-clean_node-next-requires t c = (omega arith, search (ahead-node, rules))

pub clean_group-loop-child-preserved : goal.clean_group-loop-child-preserved
clean_group-loop-child-preserved t c = search (ahead-next, rules)

pub clean_group-returns : goal.clean_group-returns
clean_group-returns t c = search (ahead_end, rules)

-- ---- a node

pub clean_node-node_at-words-requires : goal.clean_node-node_at-words-requires
clean_node-node_at-words-requires t c = search (walked_in, rules)

pub clean_node-returns-then-not-is_branch : goal.clean_node-returns-then-not-is_branch
clean_node-returns-then-not-is_branch t c = search (leaf-cleaned, rules)

pub clean_node-is_empty_group-requires : goal.clean_node-is_empty_group-requires
clean_node-is_empty_group-requires t c = search (branch_in, rules)

pub clean_node-turn-requires : goal.clean_node-turn-requires
clean_node-turn-requires t c = search (walked_in, branch-first)

pub clean_node-returns-then-is_empty_group : goal.clean_node-returns-then-is_empty_group
clean_node-returns-then-is_empty_group t c = search (turned-cleaned, rules)

pub clean_node-overflow_sub-levels : goal.clean_node-overflow_sub-levels
clean_node-overflow_sub-levels t c = search (branch-level, rules)

pub clean_node-clean_group-requires : goal.clean_node-clean_group-requires
clean_node-clean_group-requires t c =
    let one : 1 ≤ c.args.levels = search branch-level in
    (omega arith, search branch-group)

pub clean_node-returns : goal.clean_node-returns
clean_node-returns t c = search (branch-cleaned, rules)
