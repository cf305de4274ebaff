use Rattle.std.proofs.Common.{arith}
use Rattle.tree_check.proofs.Laws.Chains.{left_far, left_seen, left_bad, left-next, left_end}
use Rattle.tree_check.proofs.chain.check_chain.Goals as goal

pub returns-then-place-places : goal.returns-then-place-places
returns-then-place-places g c = λ test tells. left_far (c.loop.invariant test tells) (omega arith) (omega arith)

pub returns-then-not-mark : goal.returns-then-not-mark
returns-then-not-mark g c = λ test tells.
    left_seen (c.loop.invariant test tells) (omega arith) (omega arith) c.mark.ensures c.if-not-mark.true

pub returns-then-not-passes : goal.returns-then-not-passes
returns-then-not-passes g c = λ test tells.
    left_bad (c.loop.invariant test tells) (omega arith) (omega arith) c.mark.ensures c.dot_at.ensures (tells _ _ c.passes.ensures) c.if-not-passes.true

pub loop-preserved : goal.loop-preserved
loop-preserved g c = λ test tells.
    left-next (c.loop.invariant test tells) (omega arith) (omega arith) c.mark.ensures c.dot_at.ensures (tells _ _ c.passes.ensures)
    (omega arith) c.requires.ready c.if-not-mark.false c.if-not-passes.false c.next_at-link.ensures

pub returns : goal.returns
returns g c = λ test tells. left_end (c.loop.invariant test tells) (omega arith)
