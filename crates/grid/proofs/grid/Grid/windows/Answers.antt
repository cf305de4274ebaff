-- At most 64 × 64.
use Rattle.std.proofs.Common.{arith, ◌*◌}
use Rattle.grid.proofs.Laws.Windows.{sizes}
use Rattle.grid.proofs.Laws.Widths.{windows-few}
use Rattle.grid.proofs.grid.Grid.windows.Goals as goal

pub returns : goal.returns
returns c = λ i. c.column_count.ensures i * c.row_count.ensures i

pub overflow_mul-result : goal.overflow_mul-result
overflow_mul-result c = omega (arith, returns c, windows-few _ (sizes _ c.requires))
