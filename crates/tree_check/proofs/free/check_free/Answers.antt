use Rattle.std.proofs.Common.{arith, rules}
use Rattle.tree_check.proofs.Laws.Frees.{free-none, free_seen, free_bad, free-next, free_end, free-last}
use Rattle.tree_check.proofs.free.check_free.Goals as goal

pub returns-then-link : goal.returns-then-link
returns-then-link c = search (rules, free_end)

pub returns-in_default : goal.returns-in_default
returns-in_default c = free-none c.loop.invariant c.if-link.false c.in_default.ensures

pub returns-then-not-mark : goal.returns-then-not-mark
returns-then-not-mark c = free_seen c.loop.invariant c.if-link.false c.in-Some.ensures (omega arith) c.mark.ensures c.if-not-mark.true

pub returns-then-not-is_free : goal.returns-then-not-is_free
returns-then-not-is_free c =
    free_bad c.loop.invariant c.if-link.false c.in-Some.ensures (omega arith) c.mark.ensures c.is_free.ensures c.if-not-is_free.true

pub loop-preserved : goal.loop-preserved
loop-preserved c =
    free-next c.loop.invariant c.if-link.false c.in-Some.ensures (omega arith) c.mark.ensures c.is_free.ensures (omega arith)
    c.if-not-mark.false c.if-not-is_free.false c.node_at-link.ensures (omega arith)

pub returns : goal.returns
returns c = search (rules, free-last)
