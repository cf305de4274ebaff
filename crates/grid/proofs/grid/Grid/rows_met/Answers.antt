-- By the grid's own numbers on the axis.
use Rattle.std.proofs.Common.{rules}
use Rattle.grid.proofs.Laws.Windows.{sizes}
use Rattle.grid.proofs.grid.Grid.rows_met.Goals as goal

pub met-requires : goal.met-requires
met-requires c = search (rules, c.down.ensures, (sizes _ c.requires).high)
