use Rattle.std.proofs.Common.{rules, arith, ◌<◌, ◌≤◌, ◌+◌}
use Rattle.memory.specs.Lent.{held}
use Rattle.tree_check.specs.Trees.{GroupReady}
use Rattle.tree_check.proofs.Laws.Regions.{levels, sound-below, levels-below, levels-some, shallow-depth}
use Rattle.tree_check.proofs.Laws.Trees.{marked-ready, group-given, leaf-over, leaf-scanned, no-split, no-group, seen_group, branch-scanned}
use Rattle.tree_check.proofs.Laws.Groups.{ahead-empty, ahead-next, ahead_bad, ahead_end}
use Rattle.tree_check.proofs.tree.+check_group_check_node.Goals as goal

-- ---- a group

-- an empty leaf
pub check_group-loop-child-preserved-then-is_empty : goal.check_group-loop-child-preserved-then-is_empty
check_group-loop-child-preserved-then-is_empty t c =
    let some : 0 < c.loop-child.child = omega arith in
    search (ahead-empty, rules)

-- any other child
pub check_group-below-below-requires : goal.check_group-below-below-requires
check_group-below-below-requires t c = search (shallow-depth, rules)

pub check_group-check_node-requires : goal.check_group-check_node-requires
check_group-check_node-requires t c =
    let lower : 1 + levels c.below-below.result ≤ levels c.args.region = search levels-below in
    (omega arith, (search, search sound-below, omega arith))

pub check_group-returns-then-not-check_node : goal.check_group-returns-then-not-check_node
check_group-returns-then-not-check_node t c =
    let some : 0 < c.loop-child.child = omega arith in
    search (ahead_bad, rules)

pub check_group-loop-child-preserved : goal.check_group-loop-child-preserved
check_group-loop-child-preserved t c =
    let some : 0 < c.loop-child.child = omega arith in
    search (ahead-next, rules)

-- no child is left
pub check_group-returns : goal.check_group-returns
check_group-returns t c = search (ahead_end, rules)

-- ---- a node

-- a branch: it may split, has a group, one that was not seen
pub check_node-returns-then-not-splits : goal.check_node-returns-then-not-splits
check_node-returns-then-not-splits t c = search (no-split, rules)

pub check_node-returns-in_default : goal.check_node-returns-in_default
check_node-returns-in_default t c = let none_at = c.in_default.ensures in search (no-group, rules)

pub check_node-returns-then-not-mark : goal.check_node-returns-then-not-mark
check_node-returns-then-not-mark t c = search (seen_group, rules)

pub check_node-check_group-requires : goal.check_node-check_group-requires
check_node-check_group-requires t c =
    let at = c.in-Some.ensures in
    let given : GroupReady c.args.region (held c.args.rows) c.in-Some.group = search group-given in
    let one : 1 ≤ levels c.args.region = levels-some given in
    (omega arith, (marked-ready c.requires.0 at.0 (omega arith) c.mark.ensures c.if-not-mark.false, given))

-- a leaf: too many dots; its chain
pub check_node-returns-then-splits-words : goal.check_node-returns-then-splits-words
check_node-returns-then-splits-words t c = search (leaf-over, rules)

-- the two answers
pub check_node-returns-else-not-mark : goal.check_node-returns-else-not-mark
check_node-returns-else-not-mark t c = search (branch-scanned, rules)

pub check_node-returns-else-splits-words : goal.check_node-returns-else-splits-words
check_node-returns-else-splits-words t c =
    let small : c.node_at-words.result.count < 4294967296 = search rules in
    search (leaf-scanned, rules)
