-- Trials: 3 columns and 2 rows of windows, 10 by 10 each, from -10, 0.
use Rattle.std.specs.Prelude.{◌≡◌, refl, ℕ, ℤ, pos, negsuc}
use Rattle.geometry.specs.declared.aabb.AABB.{AABB}
use Rattle.geometry.specs.Rectangles.{flat}
use Rattle.grid.specs.declared.grid.Grid.{Grid}
use Rattle.grid.specs.declared.grid.Span.{Span}
use Rattle.grid.specs.Spans.{first_met, past_met, span_met, columns_met, rows_met}

abbrev trial : Grid
trial = record { x = negsuc 9; y = pos 0; width = pos 10; height = pos 10; columns = pos 3; rows = pos 2 }

abbrev met : ℤ → ℤ → ℤ → ℤ → Span × Span
met x1 y1 x2 y2 = let r : AABB = record { x1 = x1; y1 = y1; x2 = x2; y2 = y2 } in (columns_met trial r, rows_met trial r)

abbrev span : ℕ → ℕ → Span
span from to = record { from = from; to = to }

-- a dot that fills a window meets that window alone; with a unit more it meets the next column too
whole-trial : met (negsuc 9) (pos 0) (pos 0) (pos 10) ≡ (span 0 1, span 0 1)
unfolding span_met first_met past_met flat
whole-trial = refl

wider-trial : met (negsuc 9) (pos 0) (pos 1) (pos 10) ≡ (span 0 2, span 0 1)
unfolding span_met first_met past_met flat
wider-trial = refl

-- a flat dot on a shared edge meets both windows, also on the axis on which it is not flat; a point on a shared corner meets four
edge-trial : met (pos 0) (pos 5) (pos 4) (pos 5) ≡ (span 0 2, span 0 1)
unfolding span_met first_met past_met flat
edge-trial = refl

corner_trial : met (pos 0) (pos 10) (pos 0) (pos 10) ≡ (span 0 2, span 0 2)
unfolding span_met first_met past_met flat
corner_trial = refl

-- beyond the grid, on both sides: all columns; at its far edge without extent into it: none, or, flat, the last
all-trial : met (negsuc 99) (pos 3) (pos 100) (pos 4) ≡ (span 0 3, span 0 1)
unfolding span_met first_met past_met flat
all-trial = refl

far_trial : met (pos 20) (pos 3) (pos 21) (pos 4) ≡ (span 3 3, span 0 1)
unfolding span_met first_met past_met flat
far_trial = refl

far_flat_trial : met (pos 20) (pos 20) (pos 21) (pos 20) ≡ (span 2 3, span 1 2)
unfolding span_met first_met past_met flat
far_flat_trial = refl
