-- The five ways: the live number, the tree, the free groups, the free places, and the marks of all of them.
use Rattle.std.proofs.Common.{arith, rules}
use Rattle.memory.specs.Lent.{held}
use Rattle.tree_check.specs.Regions.{is_blank}
use Rattle.tree_check.proofs.Laws.Regions.{root-sound}
use Rattle.tree_check.proofs.Laws.Checks.{Freed, no-live, no-tree, free-ready, no-groups, groups-found, places-ready, no-places, told}
use Rattle.tree_check.proofs.check.is_tree.Goals as goal
use Rattle.tree_check.proofs.check.is_tree.Goals.{Else-not-check_free}

freed : (c : Else-not-check_free) → Freed c.args.state (held c.args.rows) c.args.marks.now c.check_free.new.marks
freed c =
    groups-found c.requires c.root-root.ensures _ _ c.check_node.ensures c.if-not-check_node.false _ _ c.check_free.ensures c.if-not-check_free.false

pub returns-then-not-check_chain : goal.returns-then-not-check_chain
returns-then-not-check_chain c =
    let found = freed (goal.at.returns-then-not-check_chain c).Else-not-check_free in
    no-places found (omega arith) _ _ (c.check_chain.ensures is_blank (λ d b e. e.1)) c.if-not-check_chain.true

pub returns : goal.returns
returns c =
    let found = freed (goal.at.returns c).Else-not-check_free in
    told found (omega arith) _ _ (c.check_chain.ensures is_blank (λ d b e. e.1)) c.if-not-check_chain.false (omega arith) (omega arith) _ c.all_marked.ensures

pub returns-then-live-places : goal.returns-then-live-places
returns-then-live-places c = no-live c.requires (omega arith)

pub check_node-requires : goal.check_node-requires
check_node-requires c = (search, search root-sound, omega arith)

pub returns-then-not-check_node : goal.returns-then-not-check_node
returns-then-not-check_node c = search (rules, no-tree)

pub check_free-requires : goal.check_free-requires
check_free-requires c = search (rules, free-ready)

pub returns-then-not-check_free : goal.returns-then-not-check_free
returns-then-not-check_free c = search (rules, no-groups)

pub check_chain-requires-clause-ready : goal.check_chain-requires-clause-ready
check_chain-requires-clause-ready c = places-ready (freed (goal.at.check_chain-requires-clause-ready c).Else-not-check_free)
