-- The invariant: the weight has been added from the first place on and before i.
use Rattle.tree_grid.proofs.Laws.Counts.{Adding}
use Rattle.tree_grid.proofs.counts.add_between.Given as goal

abbrev pub invariant-loop-i : goal.invariant-loop-i
invariant-loop-i l = Adding l.initial.row l.from l.to l.weight l.row l.i
