-- Laws of the dots of a patch within bounds.
--     columns_within, rows_within    the columns and the rows of a patch whose dots lie within bounds
--     Sides, sides, tint-few   a patch's ranges
--     patch-within     the dots within bounds are those in these columns and rows
--     tile-row_fits, number_fits, dots-few, rects-few, within-few   at most 1048576 dots
--     ids-told         when their ids fit
use Rattle.std.specs.Prelude.{◌≡◌, refl, Bool, true, false, leb, ltb, ◌+ℤ◌, length}
use Rattle.std.proofs.Math.Path.{ap, ap₂, sym}
use Rattle.std.proofs.Common.{◌∙◌, mul-le-mul, arith, leb-true, Fits}
use Rattle.std.proofs.Math.Bool.{cond, ◌&&◌}
use Prim.Native.Nat.{ℕ, ◌+◌, ◌*◌, ◌≤◌, ◌<◌}
use Rattle.std.proofs.Math.IntN.{pos}
use Rattle.std.specs.Int.{w32}
use Rattle.arithmetic.proofs.Laws.Tests.{by_bool}
use Rattle.arithmetic.proofs.Laws.Linear.{and_t}
use Rattle.geometry.specs.declared.bounds.Bounds.{Bounds}
use Rattle.geometry.specs.Bounds.{in_bounds}
use Rattle.model.specs.declared.patch.Patch.{Patch}
use Rattle.model.specs.Sums.{sum_below}
use Rattle.model.specs.Shapes.{below}
use Rattle.model.specs.Thresholds.{threshold_at}
use Rattle.model.specs.Patch.{patch_fits, unit_rect, has_dot, patch_rects, patch_dots, ids_fit}
use Rattle.model.proofs.Laws.Sums.{sum_over-one, sum_below_ext, sum_below-zero}
use Rattle.model.proofs.Laws.Lists.{sum-filter}
use Rattle.model.proofs.Laws.Patch.{patch-sum, numbered-length, patch-number, ids-fit}
use Rattle.std.specs.declared.ops.Range.{Range}
use Rattle.tint.specs.Counts.{sum_from, dots_between, corners_within, within_bounds}
use Rattle.tint.proofs.Laws.Counts.{sum-span}
use Rattle.tint.proofs.Laws.Corners.{corner_within, corners-few}
use Rattle.tint.proofs.Laws.Filters.{filter-few}

abbrev pub columns_within : Bounds → Patch → Range ℕ
columns_within b p = corners_within p.x b.x_over b.x_upto (16 * p.columns)

abbrev pub rows_within : Bounds → Patch → Range ℕ
rows_within b p = corners_within p.y b.y_over b.y_upto (16 * p.rows)

-- ---- ranges

pub record Sides (p : Patch) : Type 0 where
  pub few_columns : p.columns ≤ 64
  pub few_rows : p.rows ≤ 64
  pub tint_fits : p.tint ≤ 256

pub sides : (p : Patch) → patch_fits p ≡ true → Sides p
unfolding patch_fits
sides p e =
    let across = leb 1 p.columns && leb p.columns 64 in
    let down = leb 1 p.rows && leb p.rows 64 in
    let both = and_t (across && down) (leb p.tint 256) e in
    let tiles = and_t across down both.0 in
    record {
      few_columns = leb-true _ _ (and_t (leb 1 p.columns) (leb p.columns 64) tiles.0).1;
      few_rows = leb-true _ _ (and_t (leb 1 p.rows) (leb p.rows 64) tiles.1).1;
      tint_fits = leb-true _ _ both.1;
    }

pub tint-few : (p : Patch) → patch_fits p ≡ true → p.tint ≤ 256
tint-few p e = (sides p e).tint_fits

-- ---- the dots

-- whether a span has a number
abbrev spans : Range ℕ → ℕ → Bool
spans s i = leb s.start i && ltb i s.end

-- a dot that is there and lies within the bounds counts 1
both-tests : (there across down : Bool) → ◌≡◌ {A = ℕ} (cond there (cond (across && down) 1 0) 0) (cond down (cond across (cond there 1 0) 0) 0)
both-tests there true true = refl
both-tests there true false = by_bool there (λ e. rw e refl) (λ e. rw e refl)
both-tests there false true = by_bool there (λ e. rw e refl) (λ e. rw e refl)
both-tests there false false = by_bool there (λ e. rw e refl) (λ e. rw e refl)

-- a test that does not depend on the column
sum_when : (t : Bool) (n : ℕ) (f : ℕ → ℕ) → sum_below n (λ i. cond t (f i) 0) ≡ cond t (sum_below n f) 0
sum_when true n f = refl
sum_when false n f = sum_below-zero n (λ i. 0) (λ i b. refl)

module _ (b : Bounds) (p : Patch) where
  unit_within : (column row : ℕ) → column < 16 * p.columns → row < 16 * p.rows
      → in_bounds b (unit_rect (p.x +ℤ pos column) (p.y +ℤ pos row)) ≡ spans (columns_within b p) column && spans (rows_within b p) row
  unfolding in_bounds
  unit_within column row cb rb =
      ap₂ ◌&&◌ (corner_within p.x b.x_over b.x_upto (16 * p.columns) column cb)
      (corner_within p.y b.y_over b.y_upto (16 * p.rows) row rb)

  pub patch-within : dots_between p.tint (columns_within b p) (rows_within b p) ≡ length (within_bounds b (patch_rects p))
  unfolding dots_between below
  patch-within =
      let across = columns_within b p in
      let down = rows_within b p in
      let columns = 16 * p.columns in
      let rows = 16 * p.rows in
      let one : ℕ → ℕ → ℕ = λ row column. below (threshold_at column row) p.tint in
      let counts : ℕ → ℕ → ℕ = λ row column. cond (has_dot p column row) (cond (in_bounds b (unit_rect (p.x +ℤ pos column) (p.y +ℤ pos row))) 1 0) 0 in
      let in_row : ℕ → ℕ = λ row. sum_from across.start across.end (one row) in
      let each : (row : ℕ) → row < rows → sum_below columns (counts row) ≡ cond (spans down row) (in_row row) 0 = λ row rb.
      sum_below_ext columns (counts row) (λ column. cond (spans down row) (cond (spans across column) (one row column) 0) 0)
      (λ column cb.
      ap (λ (t : Bool). cond (has_dot p column row) (cond t 1 0) 0) (unit_within column row cb rb)
      ∙ both-tests (has_dot p column row) (spans across column) (spans down row))
      ∙ sum_when (spans down row) columns (λ column. cond (spans across column) (one row column) 0)
      ∙ ap (λ (n : ℕ). cond (spans down row) n 0) (sum-span columns across.start across.end (one row) (corners-few p.x b.x_upto columns)) in
      sym (sym (sum_over-one (within_bounds b (patch_rects p)))
      ∙ sum-filter (λ r. 1) (in_bounds b) (patch_rects p)
      ∙ patch-sum (λ r. cond (in_bounds b r) 1 0) p
      ∙ sum_below_ext rows (λ row. sum_below columns (counts row)) (λ row. cond (spans down row) (in_row row) 0) each
      ∙ sum-span rows down.start down.end in_row (corners-few p.y b.y_upto rows))

-- ---- how many

module _ (p : Patch) (fits : patch_fits p ≡ true) where
  tile-row_few : p.columns * p.tint ≤ 16384
  tile-row_few = let few = sides p fits in mul-le-mul {n₁ = p.columns} {m₁ = p.tint} {n₂ = 64} {m₂ = 256} few.few_columns few.tint_fits

  number-few : p.rows * (p.columns * p.tint) ≤ 1048576
  number-few = mul-le-mul {n₁ = p.rows} {m₁ = p.columns * p.tint} {n₂ = 64} {m₂ = 16384} (sides p fits).few_rows tile-row_few

  pub tile-row_fits : Fits w32 (p.columns * p.tint)
  tile-row_fits = record { fits = omega (arith, tile-row_few) }

  pub number_fits : Fits w32 (p.rows * (p.columns * p.tint))
  number_fits = record { fits = omega (arith, number-few) }

  pub dots-few : length (patch_dots p) ≤ 1048576
  dots-few = omega (arith, patch-number p (sides p fits).tint_fits, number-few)

  pub rects-few : length (patch_rects p) ≤ 1048576
  unfolding patch_dots
  rects-few = omega (arith, dots-few, numbered-length p.first_id (patch_rects p))

  pub within-few : (b : Bounds) → length (within_bounds b (patch_rects p)) ≤ 1048576
  within-few b = omega (arith, rects-few, filter-few (in_bounds b) (patch_rects p))

  pub ids-told : (number : ℕ) → number ≡ length (patch_dots p) → Fits w32 p.first_id → leb (p.first_id + number) 4294967296 ≡ ids_fit (patch_dots p)
  ids-told number e first =
      let few = (sides p fits).tint_fits in
      ap (λ (n : ℕ). leb (p.first_id + n) 4294967296) (e ∙ patch-number p few) ∙ sym (ids-fit p (omega (arith, first.fits)) few)
