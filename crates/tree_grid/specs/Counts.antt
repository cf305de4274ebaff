-- What is added to the words of a row, word by word.
--     Added        each word of a row with its sum added
--     Room, Empty, Cleared     words that a weight can be added to; words that are 0; a row whose first words became 0
--     between, cells           a weight from a place on and before another; in these columns of these rows
--     weight_of, met_by          what a rectangle adds to each window, by its weight, and how many windows it meets
--     besides, zero_is, zeros_in         a weight of rectangles but the zero one; how many zero rectangles there are
use Rattle.std.specs.Prelude.{◌≡◌, List, ◌++◌, cond, ◌&&◌, ℕ, ◌+◌, ◌*◌, ◌/◌, ◌%◌, ◌≤◌, ◌<◌, leb, ltb, ℤ, length, get_or, drop, replicate}
use Rattle.geometry.specs.declared.aabb.AABB.{AABB}
use Rattle.geometry.specs.Rectangles.{same_rect, zero_rect}
use Rattle.grid.specs.declared.grid.Grid.{Grid}
use Rattle.grid.specs.declared.grid.Span.{Span}
use Rattle.grid.specs.Grids.{columns_of}
use Rattle.grid.specs.Spans.{in_span, columns_met, rows_met, span_length}
use Rattle.model.specs.Sums.{sum_below}
use Rattle.model.specs.Memory.{rect_at}

pub record Added (row : List ℕ) (sum : ℕ → ℕ) (row' : List ℕ) : Type 0 where
  pub same_length : length row' ≡ length row
  pub each : (i : ℕ) → i < length row → get_or row' i 0 ≡ get_or row i 0 + sum i

-- the words from a place on and before another leave room for the weight in 32 bits
abbrev pub Room : ℕ → ℕ → ℕ → List ℕ → Type 0
Room from to weight row = (i : ℕ) → from ≤ i → i < to → get_or row i 0 + weight ≤ 4294967295

abbrev pub Empty : ℕ → List ℕ → Type 0
Empty n row = (i : ℕ) → i < n → get_or row i 0 ≡ 0

abbrev pub zero_words : ℕ → List ℕ
zero_words n = replicate n 0

abbrev pub Cleared : List ℕ → ℕ → List ℕ → Type 0
Cleared row n row' = row' ≡ zero_words n ++ drop n row

abbrev pub between : ℕ → ℕ → ℕ → ℕ → ℕ
between from to weight i = cond (leb from i && ltb i to) weight 0

-- word i is that of the column i mod columns and the row i div columns
abbrev pub cells : ℕ → Span → Span → ℕ → ℕ → ℕ
cells columns across down weight i = cond (in_span across (i % columns) && in_span down (i / columns)) weight 0

abbrev pub weight_of : Grid → AABB → ℕ → ℕ → ℕ
weight_of g r weight i = cells (columns_of g) (columns_met g r) (rows_met g r) weight i

abbrev pub met_by : Grid → AABB → ℕ
met_by g r = span_length (columns_met g r) * span_length (rows_met g r)

-- ---- all places

abbrev pub besides : (AABB → ℕ) → AABB → ℕ
besides h r = cond (same_rect r zero_rect) 0 (h r)

-- 1 at the zero rectangle
abbrev pub zero_is : AABB → ℕ
zero_is r = cond (same_rect r zero_rect) 1 0

abbrev pub zeros_in : List ℤ → ℕ → ℕ
zeros_in rects places = sum_below places (λ p. zero_is (rect_at rects p))
