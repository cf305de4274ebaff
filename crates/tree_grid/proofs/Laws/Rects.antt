-- One rectangle: what it adds to the counts, and how many windows it meets.
--     weight_le, columns_few, rows_few, met-few        how large the numbers are
--     rect-asks    the columns and the rows that it meets, as the code has them
--     rect-meets, rect_weighs      how many windows these are, and that the words hold the numbers
use Rattle.std.specs.Prelude.{◌≡◌, List, Bool, true, false, cond, ◌&&◌, ℕ, ◌*◌, ◌/◌, ◌%◌, ◌^◌, ◌≤◌, ◌<◌, length}
use Rattle.std.proofs.Common.{ap, ap₂, ◌∙◌, mul-le-mul, mul-le-mul_left, arith}
use Rattle.arithmetic.proofs.Laws.Tests.{by_bool}
use Rattle.geometry.specs.declared.aabb.AABB.{AABB}
use Rattle.geometry.specs.Rectangles.{flat, same_rect, zero_rect}
use Rattle.grid.specs.declared.grid.Grid.{Grid}
use Rattle.grid.specs.declared.grid.Span.{Span}
use Rattle.grid.specs.Grids.{across, down, columns_of, rows_of, windows, sizes_fit}
use Rattle.grid.specs.Spans.{in_span, columns_met, rows_met, span_length}
use Rattle.grid.proofs.Laws.Windows.{sizes, span_met-within}
use Rattle.tree_grid.specs.Counts.{Room, weight_of, met_by, besides}

-- it adds at most 1 to a word
pub weight_le : (g : Grid) (i : ℕ) (r : AABB) → besides (λ q. weight_of g q 1 i) r ≤ 1
weight_le g i r =
    by_bool (same_rect r zero_rect)
    (λ e. rw e (omega arith))
    (λ e. rw e (cond-le (in_span (columns_met g r) (i % columns_of g) && in_span (rows_met g r) (i / columns_of g))))
  where
    cond-le : (b : Bool) → cond b 1 0 ≤ 1
    cond-le true = omega arith
    cond-le false = omega arith

module _ (g : Grid) (fits : sizes_fit g ≡ true) (r : AABB) where
  columns_within_lem : (columns_met g r).to ≤ columns_of g
  columns_within_lem = (span_met-within (flat r) g.x (across g) (columns_of g) r.x1 r.x2).0

  rows_within_lem : (rows_met g r).to ≤ rows_of g
  rows_within_lem = (span_met-within (flat r) g.y (down g) (rows_of g) r.y1 r.y2).0

  columns_few : span_length (columns_met g r) ≤ 64
  columns_few = omega (arith, (sizes g fits).few_columns, columns_within_lem)

  rows_few : span_length (rows_met g r) ≤ 64
  rows_few = omega (arith, (sizes g fits).few_rows, rows_within_lem)

  pub met-few : met_by g r ≤ 4096
  met-few = mul-le-mul {n₁ = span_length (columns_met g r)} {m₁ = span_length (rows_met g r)} {n₂ = 64} {m₂ = 64} columns_few rows_few

-- a, d and n: the columns, the rows and the number of columns that the code has found
module _ (g : Grid) (r : AABB) {a d : Span} {n : ℕ} (is-across : a ≡ columns_met g r) (is_down : d ≡ rows_met g r) where
  pub rect-asks : (row : List ℕ) (weight : ℕ) → n ≡ columns_of g → sizes_fit g ≡ true → windows g ≤ length row → Room 0 (windows g) weight row
      → (1 ≤ n) × (a.to ≤ n) × (n * d.to ≤ length row) × Room 0 (n * d.to) weight row
  rect-asks row weight columns fits room free =
      let far : d.to ≤ rows_of g = omega (arith, ap (λ (s : Span). s.to) is_down, rows_within_lem g fits r) in
      let inside : n * d.to ≤ windows g =
      omega (arith, mul-le-mul_left (columns_of g) far, ap (λ (k : ℕ). k * d.to) columns) in (
        omega (arith, (sizes g fits).some_columns),
        omega (arith, ap (λ (s : Span). s.to) is-across, columns_within_lem g fits r),
        omega arith,
        λ i l b. free i l (omega arith),
      )

-- c and l: how many columns and rows it meets
module _ (g : Grid) (r : AABB) {a d : Span} {c l : ℕ} (is-across : a ≡ columns_met g r) (is_down : d ≡ rows_met g r)
    (e : c ≡ span_length a) (f : l ≡ span_length d) where
  pub rect-meets : c * l ≡ met_by g r
  rect-meets = ap₂ ◌*◌ (e ∙ ap span_length is-across) (f ∙ ap span_length is_down)

  pub rect_weighs : {weight : ℕ} → sizes_fit g ≡ true → weight ≤ 65536 → weight * (c * l) < 2 ^ 64
  rect_weighs {weight} fits light =
      omega (arith, mul-le-mul {n₁ = weight} {m₁ = c * l} {n₂ = 65536} {m₂ = 4096} light (omega (arith, rect-meets, met-few g fits r)))
