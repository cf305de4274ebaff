use Rattle.std.proofs.Common.{arith, rules, ap, sym, Bool, eqb, ◌||◌, ◌∙◌, ◌≤◌}
use Rattle.tree.proofs.Laws.Trees.{node_in-row}
use Rattle.tree_query.proofs.Laws.Nodes.{leaf-asks, leaf_gives, branch-level, branch-asks, branch_gives}
use Rattle.tree_query.proofs.Laws.Groups.{ahead-child, ahead-next, ahead-skip, ahead_end}
use Rattle.tree_query.proofs.walk.+walk_group_walk_node.Goals as goal
use Rattle.tree_query.proofs.walk.+walk_group_walk_node.Goals.{walk_group-then-child-at, walk_group-else-child-at}

-- ---- a group

pub walk_group-walk_node-met-requires : goal.walk_group-walk_node-met-requires
walk_group-walk_node-met-requires t c = (omega arith, search (ahead-child, rules))

pub walk_group-loop-child-preserved : goal.walk_group-loop-child-preserved
walk_group-loop-child-preserved t c =
    let bit = ap (λ (b : Bool). eqb c.loop-child.child 0 || b) (sym c.at.ensures) in
    let ahead = c.loop-child.invariant in
    let more = c.loop-child-test.true in
    elim c.if-child-at.branch [
      | walk_group-then-child-at w ↦
          rw (w.row-is, w.met-is) (ahead-next ahead more w.split-below.ensures (bit ∙ w.if-child-at.true) w.walk_node-met.ensures)
      | walk_group-else-child-at w ↦ rw (w.row-is, w.met-is) (ahead-skip ahead more (bit ∙ w.if-child-at.false))
    ]

pub walk_group-returns : goal.walk_group-returns
walk_group-returns t c = search (ahead_end, rules)

-- ---- a node

pub walk_node-node_at-words-requires : goal.walk_node-node_at-words-requires
walk_node-node_at-words-requires t c = search (node_in-row, rules)

-- a leaf
pub walk_node-walk_chain-requires : goal.walk_node-walk_chain-requires
walk_node-walk_chain-requires t c = search (leaf-asks, rules)

pub walk_node-returns-then-not-is_branch : goal.walk_node-returns-then-not-is_branch
walk_node-returns-then-not-is_branch t c = search (leaf_gives, rules)

-- a branch
pub walk_node-overflow_sub-group : goal.walk_node-overflow_sub-group
walk_node-overflow_sub-group t c = search (branch-level, rules)

pub walk_node-walk_group-requires : goal.walk_node-walk_group-requires
walk_node-walk_group-requires t c =
    let one : 1 ≤ c.args.levels = search branch-level in
    (omega arith, search branch-asks)

pub walk_node-returns : goal.walk_node-returns
walk_node-returns t c = search (branch_gives, rules)
