-- The window grid report (§19.2, §19.4).
--     live_dots                 the dots in the tree
--     over_windows              over all windows, in the report's order
--     count_of                  how many dots of a list intersect a window
--     Pair, pairs, total_of     the pairs of a dot and a window, and how many of them intersect
--     window_count, grid_total   of the live dots
--     grid_counts               the counts in that order; WindowLine, gridLines: the report's lines
--     dots_total                the total as it is worked out from the dots
--     GridOf                   what a report says of dots
use Rattle.std.specs.Prelude.{◌≡◌, List, [], ◌∷◌, map, Bool, ℕ, ◌+◌, ◌*◌, ◌<◌, length, get_or}
use Rattle.geometry.specs.Rectangles.{intersects}
use Rattle.grid.specs.declared.grid.Grid.{Grid}
use Rattle.grid.specs.Grids.{columns_of, rows_of, window}
use Rattle.grid.specs.Spans.{columns_met, rows_met, span_length}
use Rattle.model.specs.declared.Dot.{Dot}
use Rattle.model.specs.Lists.{join_below, join_over, filter}
use Rattle.model.specs.Trees.{dots, sum_dots}
use Rattle.model.specs.Shapes.{Shape}

abbrev pub live_dots : Shape → List Dot
live_dots x = map (λ d. d.dot) (dots x.tree)

-- §3.2, of any ink
abbrev pub meets_window : Grid → ℕ → ℕ → Dot → Bool
meets_window g column row d = intersects (window g column row) d.rect

-- §19.4: rows downward, columns rising within a row
abbrev pub over_windows : {A : Type 0} → Grid → (ℕ → ℕ → A) → List A
over_windows g f = join_below (rows_of g) (λ row. join_below (columns_of g) (λ column. f column row ∷ []))

-- §19.2: those that intersect the window
abbrev pub count_of : Grid → List Dot → ℕ → ℕ → ℕ
count_of g ds column row = length (filter (meets_window g column row) ds)

-- §19.2: a dot and a window
pub record Pair : Type 0 where
  pub dot : Dot
  pub column : ℕ
  pub row : ℕ

abbrev pub pairs : Grid → List Dot → List Pair
pairs g ds = join_over (λ d. over_windows g (λ column row. record { dot = d; column = column; row = row })) ds

-- §19.2: the pairs that intersect
abbrev pub total_of : Grid → List Dot → ℕ
total_of g ds = length (filter (λ p. meets_window g p.column p.row p.dot) (pairs g ds))

unfoldable pub window_count : Grid → Shape → ℕ → ℕ → ℕ
window_count g x column row = count_of g (live_dots x) column row

unfoldable pub grid_total : Grid → Shape → ℕ
grid_total g x = total_of g (live_dots x)

unfoldable pub grid_counts : Grid → Shape → List ℕ
grid_counts g x = over_windows g (window_count g x)

-- §19.6: column, row, count
pub record WindowLine : Type 0 where
  pub column : ℕ
  pub row : ℕ
  pub count : ℕ

unfoldable pub grid_lines : Grid → Shape → List WindowLine
grid_lines g x = over_windows g (λ column row. record { column = column; row = row; count = window_count g x column row })

-- §19.2: for each dot the columns that it meets times the rows
unfoldable pub dots_total : Grid → Shape → ℕ
dots_total g x = sum_dots (λ d. span_length (columns_met g d.dot.rect) * span_length (rows_met g d.dot.rect)) x.tree

-- §19.2, §19.4: each word is its window's count, and the total that of the pairs
pub record GridOf (g : Grid) (ds : List Dot) (row : List ℕ) (total : ℕ) : Type 0 where
  pub counts : (column line : ℕ) → column < columns_of g → line < rows_of g → get_or row (columns_of g * line + column) 0 ≡ count_of g ds column line
  pub pairs : total ≡ total_of g ds
