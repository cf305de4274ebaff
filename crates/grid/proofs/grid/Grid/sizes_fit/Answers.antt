-- The four tests.
use Rattle.std.proofs.Common.{rules}
use Rattle.grid.specs.Grids.{sizes_fit}
use Rattle.grid.proofs.grid.Grid.sizes_fit.Goals as goal

pub returns : goal.returns
unfolding sizes_fit
returns c = search (rules, c.contains.ensures, c.contains-2.ensures)
