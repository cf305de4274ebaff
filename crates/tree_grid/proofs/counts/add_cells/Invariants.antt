-- The invariant: the weight has been added in the rows from the first on and before `line`.
use Rattle.tree_grid.proofs.Laws.Counts.{AddingRows}
use Rattle.tree_grid.proofs.counts.add_cells.Given as goal

abbrev pub invariant-loop-line : goal.invariant-loop-line
invariant-loop-line l = AddingRows l.initial.row l.columns l.fn.across l.fn.down l.weight l.row l.line
