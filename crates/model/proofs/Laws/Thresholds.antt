-- The threshold table: what its rule makes of it, and the dots that a tile gets.
--     matrix-two   the matrix of size 2, entry by entry
--     thresholds-once      no number from 0 to 255 is missing or repeated in the table: a test that computes over all entries
--     thresholds-below     so k of its entries are below k
--     tile-dots    so a tile gets k dots
--     count-tiles, tiles-dots      the dots of whole tiles and the rest, and of whole tiles
use Rattle.std.specs.Prelude.{◌≡◌, refl, List, [], ◌∷◌, true, ℕ, ◌+◌, ◌*◌, ◌%◌, ◌≤◌, ◌<◌, length, get_or, eqb, ltb}
use Rattle.std.proofs.Common.{ap, ap₂, sym, ◌∙◌, arith, eqb-true, ltb-true, ltb-false}
use Rattle.arithmetic.proofs.Laws.Cases.{all_below, all-below}
use Rattle.arithmetic.proofs.Laws.Tests.{by_bool}
use Rattle.model.specs.Sums.{indicator, sum_over, sum_below}
use Rattle.model.specs.Lists.{count}
use Rattle.model.specs.Shapes.{below}
use Rattle.model.specs.Thresholds.{matrix, thresholds, threshold_at, count_before}
use Rattle.model.proofs.Laws.Sums.{indicator-same, indicator_other, sum_below_ext, sum_below-add, sum_below-mul, sum_below-one, sum_below-zero, sum_below-only}
use Rattle.model.proofs.Laws.Sums.{sum_below-blocks, sum_below_cycle, sum_below_entries}

-- ---- the rule

pub matrix-two : matrix 1 ≡ (0 ∷ 2 ∷ []) ∷ (3 ∷ 1 ∷ []) ∷ []
matrix-two = refl

-- ---- each number once

counted-once : all_below 256 (λ k. eqb (count k thresholds) 1) ≡ true
unfolding thresholds indicator
counted-once = refl

thresholds-length : length thresholds ≡ 256
unfolding thresholds
thresholds-length = refl

pub thresholds-once : (k : ℕ) → k < 256 → count k thresholds ≡ 1
thresholds-once k h = eqb-true (count k thresholds) 1 (all-below 256 (λ k. eqb (count k thresholds) 1) counted-once k h)

-- ---- the entries below k

below_indicators : (k t : ℕ) → sum_below k (λ j. indicator j t) ≡ below t k
unfolding below
below_indicators k t =
    by_bool (ltb t k)
    (λ e. rw e (sum_below-only k (λ j. indicator j t) t (ltb-true t k e) (λ j b ne. indicator_other j t ne) ∙ indicator-same t))
    (λ e. rw e (sum_below-zero k (λ j. indicator j t) (λ j b. indicator_other j t (λ same. omega (arith, ltb-false t k e)))))

counts-below : (k : ℕ) (ts : List ℕ) → sum_below k (λ j. count j ts) ≡ sum_over (λ t. below t k) ts
counts-below k [] = sum_below-zero k (λ j. 0) (λ j b. refl)
counts-below k (t ∷ ts) =
    sum_below-add k (λ j. indicator j t) (λ j. count j ts) ∙ omega (arith, below_indicators k t, counts-below k ts)

pub thresholds-below : (k : ℕ) → k ≤ 256 → sum_over (λ t. below t k) thresholds ≡ k
thresholds-below k h =
    sym (counts-below k thresholds) ∙ sum_below_ext k (λ j. count j thresholds) (λ j. 1) (λ j b. thresholds-once j (omega arith)) ∙ sum_below-one k

-- ---- the dots left of a column and above a row

-- §20.2: a tile gets as many dots as the tint says
pub tile-dots : (k : ℕ) → k ≤ 256 → count_before k 16 16 ≡ k
unfolding count_before threshold_at
tile-dots k h =
    let at : ℕ → ℕ = λ i. below (get_or thresholds i 0) k in
    sum_below_ext 16 (λ row. sum_below 16 (λ column. below (threshold_at column row) k)) (λ row. sum_below 16 (λ column. at (16 * row + column)))
    (λ row rb. sum_below_ext 16 (λ column. below (threshold_at column row) k) (λ column. at (16 * row + column)) (λ column cb. ap at (omega arith)))
    ∙ sum_below-blocks 16 16 at
    ∙ ap (λ (n : ℕ). sum_below n at) (sym thresholds-length)
    ∙ sum_below_entries (λ t. below t k) thresholds
    ∙ thresholds-below k h

-- the whole tiles, the columns and the rows beside them, and the corner
pub count-tiles : (tint across down column row : ℕ) → column ≤ 16 → row ≤ 16
    → count_before tint (16 * across + column) (16 * down + row)
    ≡ down * (across * count_before tint 16 16 + count_before tint column 16) + (across * count_before tint 16 row + count_before tint column row)
unfolding count_before threshold_at
count-tiles tint across down column row c r =
    let one : ℕ → ℕ → ℕ = λ i j. below (get_or thresholds (16 * j + i) 0) tint in
    let in_row : ℕ → ℕ → ℕ = λ n j. sum_below n (λ i. below (threshold_at i j) tint) in
    let each : (j : ℕ) → in_row (16 * across + column) j ≡ across * in_row 16 (j % 16) + in_row column (j % 16) = λ j.
    let same : (n : ℕ) → n ≤ 16 → sum_below n (λ i. one i (j % 16)) ≡ in_row n (j % 16) = λ n few.
    sum_below_ext n (λ i. one i (j % 16)) (λ i. below (threshold_at i (j % 16)) tint)
    (λ i b. ap (λ (k : ℕ). below (get_or thresholds k 0) tint) (omega arith)) in
    sum_below_cycle across column (λ i. one i (j % 16)) c ∙ ap₂ (λ (a b : ℕ). across * a + b) (same 16 (omega arith)) (same column c) in
    let g : ℕ → ℕ = λ j. across * in_row 16 j + in_row column j in
    let sums : (n : ℕ) → sum_below n g ≡ across * sum_below n (in_row 16) + sum_below n (in_row column) = λ n.
    omega (arith, sum_below-add n (λ j. across * in_row 16 j) (in_row column), sum_below-mul n across (in_row 16)) in
    sum_below_ext (16 * down + row) (in_row (16 * across + column)) (λ j. g (j % 16)) (λ j b. each j)
    ∙ sum_below_cycle down row g r
    ∙ ap₂ (λ (a b : ℕ). down * a + b) (sums 16) (sums row)

no_columns : (tint row : ℕ) → count_before tint 0 row ≡ 0
unfolding count_before
no_columns tint row = sum_below-zero row (λ j. 0) (λ j b. refl)

no_rows : (tint column : ℕ) → count_before tint column 0 ≡ 0
unfolding count_before
no_rows tint column = refl

-- whole tiles, each with as many dots as the tint says
pub tiles-dots : (tint across down : ℕ) → tint ≤ 256 → count_before tint (16 * across) (16 * down) ≡ down * (across * tint)
tiles-dots tint across down h =
    let wide : 16 * across ≡ 16 * across + 0 = omega arith in
    let high : 16 * down ≡ 16 * down + 0 = omega arith in
    ap₂ (count_before tint) wide high
    ∙ count-tiles tint across down 0 0 (omega arith) (omega arith)
    ∙ rw (no_columns tint 16, no_rows tint 16, no_rows tint 0, tile-dots tint h) (omega arith)
