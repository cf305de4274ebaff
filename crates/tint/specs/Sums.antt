-- The dots of a tile, summed (§20.2): word 17 * r + c counts those left of column c and above row r, for c and r up to 16.
--     row_dots      the dots in the first columns of a row
--     sum_at        the word at a place
--     SumsBefore   of 289 words, those before a place are right
--     TileSums     all of them are
use Rattle.std.specs.Prelude.{◌≡◌, List, ℕ, ◌/◌, ◌%◌, ◌<◌, length, get_or}
use Rattle.model.specs.Sums.{sum_below}
use Rattle.model.specs.Shapes.{below}
use Rattle.model.specs.Thresholds.{threshold_at, count_before}

abbrev pub row_dots : ℕ → ℕ → ℕ → ℕ
row_dots tint row width = sum_below width (λ i. below (threshold_at i row) tint)

abbrev pub sum_at : ℕ → ℕ → ℕ
sum_at tint place = count_before tint (place % 17) (place / 17)

pub record SumsBefore (tint place : ℕ) (words : List ℕ) : Type 0 where
  pub whole : length words ≡ 289
  pub each : (i : ℕ) → i < place → get_or words i 0 ≡ sum_at tint i

abbrev pub TileSums : ℕ → List ℕ → Type 0
TileSums tint words = SumsBefore tint 289 words
