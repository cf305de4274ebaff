-- The invariant: the words before i are right.
use Rattle.tint.proofs.Laws.Sums.{Filling}
use Rattle.tint.proofs.sums.fill_sums.Given as goal

abbrev pub invariant-loop-i : goal.invariant-loop-i
invariant-loop-i l = Filling l.tint l.sums l.i
