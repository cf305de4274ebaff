-- The loop's invariant: what is left is good just where the whole is (`ChainLeft`).
use Rattle.std.proofs.Common.{◌-◌, Bool}
use Rattle.model.specs.declared.Dot.{Dot}
use Rattle.memory.specs.Lent.{held}
use Rattle.tree_check.specs.Chains.{Tells}
use Rattle.tree_check.proofs.Laws.Chains.{ChainLeft}
use Rattle.tree_check.proofs.chain.check_chain.Given as goal

abbrev pub invariant-loop : goal.invariant-loop
invariant-loop g l =
    let chain = l.fn.chain in
    (test : Dot → Bool) → Tells (goal.F-post g l.passes) test
    → ChainLeft test (held l.rows) l.initial.marks chain.first chain.count l.marks l.link (chain.count - l.counter)
