-- What the report leaves, for every marks and every shape that the words hold. The rectangles are enough: nodes, ids and inks are not looked at.
--     Totalled     the counts and the total
--     Reported     what the report leaves, by its rule
use Rattle.std.specs.Prelude.{◌≡◌, List, ◌++◌, ℕ, ℤ, length, drop, replicate}
use Rattle.grid.specs.declared.grid.Grid.{Grid}
use Rattle.grid.specs.Grids.{windows}
use Rattle.model.specs.declared.State.{State}
use Rattle.model.specs.Shapes.{Shape}
use Rattle.model.specs.Layout.{world, Holds}
use Rattle.model.specs.Grid.{grid_counts, grid_total}
use Rattle.model.specs.Calls.{Reply, exit, carried_out, grid_rule}

unfoldable pub Totalled : State → List ℤ → Grid → List ℕ → List ℕ → ℕ → Type 0
Totalled s rects g row row' total =
    (nodes dots marks : List ℕ) (x : Shape) → Holds (world s nodes dots rects marks) x
    → (row' ≡ grid_counts g x ++ drop (windows g) row) × (total ≡ grid_total g x)

unfoldable pub Reported : State → List ℤ → Grid → List ℕ → List ℕ → Reply ℕ → Type 0
Reported s rects g row row' reply =
    (nodes dots marks : List ℕ) (x : Shape) → Holds (world s nodes dots rects marks) x
    → exit (world s nodes dots rects (replicate (length marks) 0)) row' reply ≡ carried_out (world s nodes dots rects marks) row (grid_rule g (length row) x)
