-- Laws of the dots in a span of columns and a span of rows.
--     sum-span     a sum from a number on and before another
--     before-tiles, tiles          the dots left of a column and above a row, by the sums of a tile; the rules by which none of it wraps
--     empty_told           what `is_empty` says of a range
--     between-none_wide, between-none_high         an empty span has no dots
--     inside-fits, outside-fits, outside-less, between-rest        the dots in two spans, by four counts
use Rattle.std.specs.Prelude.{◌≡◌, refl, true, not, ◌&&◌, List, leb, ltb, get_or}
use Rattle.std.specs.Ordering.{nat_cmp, is_lt}
use Rattle.std.proofs.Common.{ap, ap₂, ◌∙◌, mul-le-mul, arith, le-leb, lt-ltb, le-ltb, Fits}
use Rattle.std.proofs.Math.Path.{sym}
use Rattle.std.proofs.Math.Bool.{cond}
use Prim.Native.Nat.{ℕ, zero, suc, ◌+◌, ◌*◌, ◌-◌, ◌/◌, ◌%◌, ◌≤◌, ◌<◌}
use Rattle.std.proofs.Math.Decide.{dec_le}
use Rattle.std.proofs.Math.ListN.{get_or-eq_default}
use Rattle.std.proofs.lemmas.Bool.{lt-leb}
use Rattle.std.proofs.lemmas.Bool.Decides.{nat_tests}
use Rattle.std.specs.Int.{w32}
use Rattle.arithmetic.proofs.Laws.Tests.{by_bool}
use Rattle.model.specs.Sums.{sum_below}
use Rattle.model.specs.Shapes.{below}
use Rattle.model.specs.Thresholds.{threshold_at, count_before}
use Rattle.model.proofs.Laws.Sums.{by_dec, sum_below_ext, sum_below-add, sum_below-zero, sum_below_plus}
use Rattle.model.proofs.Laws.Thresholds.{count-tiles, tile-dots}
use Rattle.std.specs.declared.ops.Range.{Range}
use Rattle.tint.specs.Sums.{TileSums}
use Rattle.tint.specs.Counts.{sum_from, dots_between}
use Rattle.tint.proofs.Laws.Sums.{count-few}

-- ---- a sum from a number on and before another

sum_from-none : (low high : ℕ) (f : ℕ → ℕ) → high ≤ low → sum_from low high f ≡ 0
sum_from-none low high f h = sum_below-zero high (λ i. cond (leb low i) (f i) 0) (λ i b. rw (lt-leb low i (omega arith)) refl)

sum-from : (low high : ℕ) (f : ℕ → ℕ) → low ≤ high → sum_from low high f + sum_below low f ≡ sum_below high f
sum-from low zero f h = let none : low ≡ 0 = omega arith in rw none refl
sum-from low (suc high) f h =
    by_dec (dec_le low high)
    (λ l. rw (le-leb low high l) (omega (arith, sum-from low high f l)))
    (λ g. let all : low ≡ suc high = omega arith in omega (arith, sum_from-none low (suc high) f (omega arith), ap (λ (n : ℕ). sum_below n f) all))

-- of the first n terms, those from low on and before high
pub sum-span : (n low high : ℕ) (f : ℕ → ℕ) → high ≤ n → sum_below n (λ i. cond (leb low i && ltb i high) (f i) 0) ≡ sum_from low high f
sum-span n low high f h =
    let g : ℕ → ℕ = λ i. cond (leb low i && ltb i high) (f i) 0 in
    let whole : n ≡ high + (n - high) = omega arith in
    let before : sum_below high g ≡ sum_from low high f =
    sum_below_ext high g (λ i. cond (leb low i) (f i) 0) (λ i b. by_bool (leb low i) (λ e. rw (e, lt-ltb i high b) refl) (λ e. rw e refl)) in
    let past : sum_below (n - high) (λ i. g (high + i)) ≡ 0 =
    sum_below-zero (n - high) (λ i. g (high + i))
    (λ i b. by_bool (leb low (high + i)) (λ e. rw (e, le-ltb (high + i) high (omega arith)) refl) (λ e. rw e refl)) in
    ap (λ (m : ℕ). sum_below m g) whole ∙ omega (arith, sum_below_plus high (n - high) g, before, past)

-- ---- left of a column and above a row

-- the word of a column and a row of the tile
tile-word : {tint : ℕ} {words : List ℕ} → TileSums tint words → (c r : ℕ) → c ≤ 16 → r ≤ 16 → get_or words (17 * r + c) 0 ≡ count_before tint c r
tile-word {tint} {words} sums c r cs rs =
    let here : (17 * r + c) % 17 ≡ c = omega arith in
    let above : (17 * r + c) / 17 ≡ r = omega arith in
    sums.each (17 * r + c) (omega arith) ∙ ap₂ (count_before tint) here above

pub before-tiles : (tint : ℕ) (words : List ℕ) (column row : ℕ) → TileSums tint words → tint ≤ 256
    → row / 16 * (column / 16 * tint + get_or words (272 + column % 16) 0)
    + (column / 16 * get_or words (17 * (row % 16) + 16) 0 + get_or words (17 * (row % 16) + column % 16) 0)
    ≡ count_before tint column row
before-tiles tint words column row sums few =
    let across = column / 16 in
    let down = row / 16 in
    let c = column % 16 in
    let r = row % 16 in
    let columns : 16 * across + c ≡ column = omega arith in
    let rows : 16 * down + r ≡ row = omega arith in
    let tile = tile-word sums c 16 (omega arith) (omega arith) in
    let side = tile-word sums 16 r (omega arith) (omega arith) in
    let corner = tile-word sums c r (omega arith) (omega arith) in
    let both : ℕ → ℕ → ℕ = λ a b. across * a + b in
    ap₂ (λ (a b : ℕ). down * a + b) (ap₂ both (sym (tile-dots tint few)) tile) (ap₂ both side corner)
    ∙ sym (count-tiles tint across down c r (omega arith) (omega arith))
    ∙ ap₂ (count_before tint) columns rows

-- ---- and no sum or product of it wraps

pub few-tiles : (n : ℕ) → n ≤ 1024 → n / 16 ≤ 64
few-tiles n h = omega arith

pub word-few : (tint : ℕ) (words : List ℕ) → TileSums tint words → (i : ℕ) → get_or words i 0 ≤ 256
word-few tint words sums i =
    by_dec (dec_le 289 i)
    (λ past. omega (arith, get_or-eq_default words 0 {n = i} (omega (arith, sums.whole))))
    (λ inside.
    let most = mul-le-mul {n₁ = i / 17} {m₁ = i % 17} {n₂ = 16} {m₂ = 16} (omega arith) (omega arith) in
    omega (arith, sums.each i (omega arith), count-few tint (i % 17) (i / 17), most))

-- a row of tiles, and rows of them
module _ (a t : ℕ) (few : a ≤ 64) (fewer : t ≤ 256) where
  row-few : a * t ≤ 16384
  row-few = mul-le-mul {n₁ = a} {m₁ = t} {n₂ = 64} {m₂ = 256} few fewer

  pub tiles-fit : Fits w32 (a * t)
  tiles-fit = record { fits = omega (arith, row-few) }

  module _ (w : ℕ) (some : w ≤ 256) where
    pub row_fits : Fits w32 (a * t + w)
    row_fits = record { fits = omega (arith, row-few) }

    module _ (d : ℕ) (down : d ≤ 64) where
      rows_few : d * (a * t + w) ≤ 1064960
      rows_few = mul-le-mul {n₁ = d} {m₁ = a * t + w} {n₂ = 64} {m₂ = 16640} down (omega (arith, row-few))

      pub rows_fit : Fits w32 (d * (a * t + w))
      rows_fit = record { fits = omega (arith, rows_few) }

pub all_fit : (a t w d t' w' : ℕ) → a ≤ 64 → t ≤ 256 → w ≤ 256 → d ≤ 64 → t' ≤ 256 → w' ≤ 256 → Fits w32 (d * (a * t + w) + (a * t' + w'))
all_fit a t w d t' w' few fewer some down side corner =
    record { fits = omega (arith, rows_few a t few fewer w some d down, row-few a t' few side) }

pub ruleset tiles = (few-tiles, word-few, tiles-fit, row_fits, rows_fit, all_fit)

-- ---- between

-- a range that `is_empty` calls empty
pub empty_told : (a b : ℕ) → not (is_lt (nat_cmp a b)) ≡ true → b ≤ a
empty_told a b e = grind (arith, nat_tests)

module _ (tint : ℕ) (across down : Range ℕ) where
  pub between-none_wide : across.end ≤ across.start → 0 ≡ dots_between tint across down
  unfolding dots_between
  between-none_wide h =
      let in_row : ℕ → ℕ = λ j. sum_from across.start across.end (λ i. below (threshold_at i j) tint) in
      sym (sum_below-zero down.end (λ j. cond (leb down.start j) (in_row j) 0)
      (λ j b. by_bool (leb down.start j) (λ e. rw e (sum_from-none across.start across.end (λ i. below (threshold_at i j) tint) h)) (λ e. rw e refl)))

  pub between-none_high : down.end ≤ down.start → 0 ≡ dots_between tint across down
  unfolding dots_between
  between-none_high h =
      sym (sum_from-none down.start down.end (λ j. sum_from across.start across.end (λ i. below (threshold_at i j) tint)) h)

  -- those left of the span and those above it, taken from all before its end; the ones that are both are taken once
  between-whole : across.start ≤ across.end → down.start ≤ down.end
      → dots_between tint across down + (count_before tint across.start down.end + count_before tint across.end down.start)
      ≡ count_before tint across.end down.end + count_before tint across.start down.start
  unfolding dots_between count_before
  between-whole wide high =
      let left = across.start in
      let right = across.end in
      let one : ℕ → ℕ → ℕ = λ j i. below (threshold_at i j) tint in
      let in_row : ℕ → ℕ = λ j. sum_from left right (one j) in
      let columns : (n : ℕ) → sum_below n in_row + sum_below n (λ j. sum_below left (one j)) ≡ sum_below n (λ j. sum_below right (one j)) = λ n.
      sym (sum_below-add n in_row (λ j. sum_below left (one j)))
      ∙ sum_below_ext n (λ j. in_row j + sum_below left (one j)) (λ j. sum_below right (one j)) (λ j b. sum-from left right (one j) wide) in
      omega (arith, sum-from down.start down.end in_row high, columns down.start, columns down.end)

before-most : (tint column row : ℕ) → column ≤ 1024 → row ≤ 1024 → count_before tint column row ≤ 1048576
before-most tint column row wide high =
    omega (arith, count-few tint column row, mul-le-mul {n₁ = row} {m₁ = column} {n₂ = 1024} {m₂ = 1024} high wide)

-- by the code's four counts: no sum of two wraps, and the difference is not negative
module _ (tint : ℕ) (across down : Range ℕ) (whole corner left above : ℕ)
    (wide : across.end ≤ 1024) (high : down.end ≤ 1024) (some : across.start < across.end) (more : down.start < down.end)
    (w : whole ≡ count_before tint across.end down.end) (c : corner ≡ count_before tint across.start down.start) where
  pub inside-fits : Fits w32 (whole + corner)
  inside-fits =
      let most-whole = before-most tint across.end down.end wide high in
      let most-corner = before-most tint across.start down.start (omega arith) (omega arith) in
      record { fits = omega arith }

  module _ (l : left ≡ count_before tint across.start down.end) (a : above ≡ count_before tint across.end down.start) where
    pub outside-less : left + above ≤ whole + corner
    outside-less = let law = between-whole tint across down (omega arith) (omega arith) in omega arith

    pub outside-fits : Fits w32 (left + above)
    outside-fits = let less = outside-less in let whole = inside-fits in record { fits = omega arith }

    pub between-rest : (whole + corner) - (left + above) ≡ dots_between tint across down
    between-rest = let law = between-whole tint across down (omega arith) (omega arith) in omega arith
