-- What a rectangle, and all places, add to the counts of a grid's windows.
--     SameCounts   the same grid, and the same row lent
--     RectAdded, Stepped, Passed       what a rectangle adds, what one place adds, and all places
use Rattle.std.specs.Prelude.{◌≡◌, ℕ, ◌+◌, ◌*◌, ℤ, List}
use Rattle.geometry.specs.declared.aabb.AABB.{AABB}
use Rattle.model.specs.Sums.{sum_below}
use Rattle.model.specs.Memory.{rect_at}
use Rattle.tree_grid.specs.declared.counts.Counts.{Counts}
use Rattle.tree_grid.specs.declared.places.Pass.{Pass}
use Rattle.tree_grid.specs.Counts.{Added, weight_of, met_by, besides, zero_is, zeros_in}

-- A value that holds a `&mut` could be given another: each method says that it has the one it had.
pub record SameCounts (c c' : Counts) : Type 0 where
  pub grid : c'.grid ≡ c.grid
  pub row : c'.row.ghost_name ≡ c.row.ghost_name

pub record RectAdded (r : AABB) (weight : ℕ) (c c' : Counts) (met : ℕ) : Type 0 where
  pub same : SameCounts c c'
  pub counts : Added c.row.now (weight_of c.grid r weight) c'.row.now
  pub is_met : met ≡ weight * met_by c.grid r

-- what one place's rectangle adds
pub record Stepped (r : AABB) (c c' : Counts) (pass pass' : Pass) : Type 0 where
  pub same : SameCounts c c'
  pub counts : Added c.row.now (λ i. besides (λ q. weight_of c.grid q 1 i) r) c'.row.now
  pub totals : pass'.total ≡ pass.total + besides (met_by c.grid) r
  pub left_out : pass'.zeros ≡ pass.zeros + zero_is r

pub record Passed (rects : List ℤ) (places : ℕ) (c c' : Counts) (pass : Pass) : Type 0 where
  pub same : SameCounts c c'
  pub counts : Added c.row.now (λ i. sum_below places (λ p. besides (λ q. weight_of c.grid q 1 i) (rect_at rects p))) c'.row.now
  pub totals : pass.total ≡ sum_below places (λ p. besides (met_by c.grid) (rect_at rects p))
  pub left_out : pass.zeros ≡ zeros_in rects places
