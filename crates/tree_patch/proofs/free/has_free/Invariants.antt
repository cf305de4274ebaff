-- A loop whose invariant is that of the walk along the free groups (`Walking`).
use Rattle.tree_insert.proofs.Laws.FreeGroups.{Walking}
use Rattle.tree_patch.proofs.free.has_free.Given as goal

abbrev pub invariant-loop : goal.invariant-loop
invariant-loop l = Walking l.nodes l.group l.at l.counter
