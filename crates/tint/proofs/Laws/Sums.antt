-- Laws of the dots of a tile, summed.
--     row-counted  the dots of a row, as the columns that have one
--     count-few    at most as many dots as corners
--     sum_top, sum-next, sum_fits  a word by the word of the row above
--     Filling, fill_start     the loop over the words
use Rattle.std.specs.Prelude.{◌≡◌, refl, List, ltb, length}
use Rattle.std.specs.List.{range_with_len, sum_by, filter}
use Rattle.std.proofs.lemmas.List.Sums.{length-filter}
use Rattle.std.proofs.lemmas.List.FromFn.{sum_by-map-range_with_len_more}
use Rattle.std.proofs.Math.Path.{ap, ap₂}
use Rattle.std.proofs.Common.{sym, ◌∙◌, add-one, map-id, mul-le-mul}
use Prim.Native.Nat.{ℕ, zero, suc, ◌+◌, ◌*◌, ◌-◌, ◌/◌, ◌%◌, ◌≤◌, ◌<◌}
use native.Mathlib.Omega.{arith}
use Rattle.std.proofs.Math.ListN.{get_or}
use Rattle.std.specs.Int.{w32}
use mir.Val.{Fits}
use Rattle.model.specs.Shapes.{below}
use Rattle.model.specs.Sums.{sum_below}
use Rattle.model.specs.Thresholds.{threshold_at, count_before}
use Rattle.model.proofs.Laws.Sums.{sum_below-le, sum_below-one, sum_below-mul}
use Rattle.model.proofs.Laws.Shapes.{below-le}
use Rattle.tint.specs.Sums.{row_dots, sum_at, SumsBefore}

-- ---- a row

row-few : (tint row width : ℕ) → row_dots tint row width ≤ width
row-few tint row width =
    omega (arith, sum_below-one width, sum_below-le width (λ i. below (threshold_at i row) tint) (λ i. 1) (λ i b. below-le (threshold_at i row) tint))

sum-range : (f : ℕ → ℕ) (n : ℕ) → sum_by f (range_with_len 0 n) ≡ sum_below n f
sum-range f zero = refl
sum-range f (suc n) =
    let more = simp map-id at (sum_by-map-range_with_len_more f (λ x. x) 0 n n (omega arith)) in
    omega (arith, rw add-one at more, sum-range f n)

-- the columns that have a dot, as a list
pub row-counted : (tint row n : ℕ) → length (filter (λ i. ltb (threshold_at i row) tint) (range_with_len 0 n)) ≡ row_dots tint row n
unfolding below
row-counted tint row n = length-filter (λ i. ltb (threshold_at i row) tint) (range_with_len 0 n) ∙ sum-range (λ i. below (threshold_at i row) tint) n

-- ---- a word

pub count-few : (tint column row : ℕ) → count_before tint column row ≤ row * column
unfolding count_before
count-few tint column row =
    let each = sum_below-le row (λ j. row_dots tint j column) (λ j. column * 1) (λ j b. omega (arith, row-few tint j column)) in
    omega (arith, each, sum_below-mul row column (λ j. 1), ap (λ (n : ℕ). column * n) (sum_below-one row))

-- above the first row
pub sum_top : (tint place : ℕ) → place < 17 → 0 ≡ sum_at tint place
unfolding count_before
sum_top tint place h =
    let row : place / 17 ≡ 0 = omega arith in
    sym (ap (count_before tint (place % 17)) row)

-- the word of the row above, and the dots of that row
module _ {tint place dots : ℕ} {words : List ℕ} (few : place < 289) (before : SumsBefore tint place words) (some : 17 ≤ place)
    (counted : dots ≡ row_dots tint (place / 17 - 1) (place % 17)) where
  pub sum-next : get_or words (place - 17) 0 + dots ≡ sum_at tint place
  unfolding count_before
  sum-next =
      let row = place / 17 - 1 in
      let column = place % 17 in
      let here : (place - 17) % 17 ≡ column = omega arith in
      let above : (place - 17) / 17 ≡ row = omega arith in
      let next : suc row ≡ place / 17 = omega arith in
      let word : get_or words (place - 17) 0 ≡ count_before tint column row = before.each (place - 17) (omega arith) ∙ ap₂ (count_before tint) here above in
      ap₂ ◌+◌ word counted ∙ ap (count_before tint column) next

  pub sum_fits : Fits w32 (get_or words (place - 17) 0 + dots)
  sum_fits =
      let most = mul-le-mul {n₁ = place / 17} {m₁ = place % 17} {n₂ = 17} {m₂ = 17} (omega arith) (omega arith) in
      record { fits = omega (arith, sum-next, count-few tint (place % 17) (place / 17), most) }

-- ---- the table

pub record Filling (tint : ℕ) (words : List ℕ) (i : ℕ) : Type 0 where
  pub within : i ≤ 289
  pub before : SumsBefore tint i words

pub fill_start : (tint : ℕ) (words : List ℕ) → length words ≡ 289 → Filling tint words 0
fill_start tint words e = record { within = omega arith; before = record { whole = e; each = λ i b. absurd (omega arith) } }
