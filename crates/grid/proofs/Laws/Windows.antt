-- The windows that a rectangle intersects (§19.2).
--     side_by_side     a window ends where the next one begins
--     window-met       window k meets an interval exactly if k is from first_met on and before past_met, by either rule
--     Sizes, sizes     what refusal 11 leaves
--     window_axes      a rectangle intersects a window exactly if its spans have the window's column and row
--     span_met-within   a span has no window that the grid has not
use Rattle.std.specs.Prelude.{◌≡◌, refl, ◌↔◌, Bool, true, false, ◌&&◌, ℕ, suc, ◌*◌, ◌/◌, ◌≤◌, ◌<◌, min, ℤ, negsuc, ◌+ℤ◌, ◌-ℤ◌, leb, ltb}
use Rattle.std.proofs.Common.{sym, ◌∙◌, ap₂, suc-mul, arith, leb-true, ltb-true, ltb-false, le-leb, lt-ltb, le-ltb}
use Rattle.std.proofs.Math.IntN.{pos}
use Rattle.std.specs.Int.Signed.{lt_z, le_z}
use Rattle.arithmetic.specs.Ints.{eq_z, natural, least_step}
use Rattle.arithmetic.proofs.Laws.Tests.{by_bool, true_false}
use Rattle.arithmetic.proofs.Laws.Linear.{ints, sum, dif, and_t, same_test}
use Rattle.arithmetic.proofs.Laws.Divisions.{ended_by, least_step_lem}
use Rattle.geometry.specs.declared.aabb.AABB.{AABB}
use Rattle.geometry.specs.Rectangles.{flat, intersects, share_axis, inverted}
use Rattle.geometry.proofs.Laws.Axes.{touch_axis, overlap_axis, intersects_axes, ordered}
use Rattle.grid.specs.declared.grid.Grid.{Grid}
use Rattle.grid.specs.Grids.{across, down, columns_of, rows_of, edge, window, sizes_fit}
use Rattle.grid.specs.Spans.{first_met, past_met, span_met, columns_met, rows_met, in_span}

-- ---- one axis

-- a test that says what an order of natural numbers says, or the contrary
at_least : (m k : ℕ) (t : Bool) → (m ≤ k) ↔ (t ≡ true) → t ≡ leb m k
at_least m k t law = same_test t (leb m k) (λ h. le-leb m k (law.1 h)) (λ h. law.0 (leb-true m k h))

below : (k m : ℕ) (s t : Bool) → (m ≤ k) ↔ (s ≡ true) → (s ≡ true → t ≡ false) → (s ≡ false → t ≡ true) → t ≡ ltb k m
below k m s t law other same =
    by_bool s
    (λ e. other e ∙ sym (le-ltb k m (law.1 e)))
    (λ e. same e ∙ sym (by_bool (ltb k m) (λ l. l) (λ l. true_false (sym (law.0 (omega (arith, ltb-false k m l))) ∙ e))))

module _ (first : ℤ) (size k : ℕ) (one : 1 ≤ size) where
  edges_apart : lt_z (edge first size k) (edge first size (suc k)) ≡ true
  edges_apart = omega (arith, ints, sum first (pos (k * size)), sum first (pos (suc k * size)), suc-mul k size)

  edges_differ : eq_z (edge first size k) (edge first size (suc k)) ≡ false
  edges_differ =
      let l = edges_apart in
      by_bool (eq_z (edge first size k) (edge first size (suc k))) (λ e. absurd (omega (arith, ints))) (λ e. e)

  begin_touch : (a : ℤ) → le_z a (edge first size (suc k)) ≡ leb (first_met true first size a) k
  unfolding first_met
  begin_touch a =
      let z = (a -ℤ first) -ℤ pos 1 in
      let law = ended_by z size k one in
      at_least (natural z / size) k (le_z a (edge first size (suc k))) (
        λ h. let l = law.0 h in omega (arith, ints, dif a first, dif (a -ℤ first) (pos 1), sum first (pos (suc k * size))),
        λ h. law.1 (omega (arith, ints, dif a first, dif (a -ℤ first) (pos 1), sum first (pos (suc k * size)))),
      )

  begin_overlap : (a : ℤ) → lt_z a (edge first size (suc k)) ≡ leb (first_met false first size a) k
  unfolding first_met
  begin_overlap a =
      let z = a -ℤ first in
      let law = ended_by z size k one in
      at_least (natural z / size) k (lt_z a (edge first size (suc k))) (
        λ h. let l = law.0 h in omega (arith, ints, dif a first, sum first (pos (suc k * size))),
        λ h. law.1 (omega (arith, ints, dif a first, sum first (pos (suc k * size)))),
      )

  end_touch : (b : ℤ) → le_z (edge first size k) b ≡ ltb k (past_met true first size b)
  unfolding past_met
  end_touch b =
      let z = (b -ℤ first) +ℤ pos 1 in
      below k (least_step z size) (le_z z (pos (k * size))) (le_z (edge first size k) b) (least_step_lem z size k one)
      (λ h. omega (arith, ints, dif b first, sum (b -ℤ first) (pos 1), sum first (pos (k * size))))
      (λ h. omega (arith, ints, dif b first, sum (b -ℤ first) (pos 1), sum first (pos (k * size))))

  end_overlap : (b : ℤ) → lt_z (edge first size k) b ≡ ltb k (past_met false first size b)
  unfolding past_met
  end_overlap b =
      let z = b -ℤ first in
      below k (least_step z size) (le_z z (pos (k * size))) (lt_z (edge first size k) b) (least_step_lem z size k one)
      (λ h. omega (arith, ints, dif b first, sum first (pos (k * size))))
      (λ h. omega (arith, ints, dif b first, sum first (pos (k * size))))

  pub window-met : (touching : Bool) (a b : ℤ) → le_z a b ≡ true → (touching ≡ false → lt_z a b ≡ true)
      → share_axis touching (edge first size k) (edge first size (suc k)) a b
      ≡ leb (first_met touching first size a) k && ltb k (past_met touching first size b)
  window-met true a b order strict =
      let own : le_z (edge first size k) (edge first size (suc k)) ≡ true = let l = edges_apart in omega (arith, ints) in
      touch_axis (edge first size k) (edge first size (suc k)) a b own order ∙ ap₂ ◌&&◌ (begin_touch a) (end_touch b)
  window-met false a b order strict =
      overlap_axis (edge first size k) (edge first size (suc k)) a b edges_apart (strict refl) ∙ ap₂ ◌&&◌ (begin_overlap a) (end_overlap b)

-- ---- of so many windows

pub span_met-within : (touching : Bool) (first : ℤ) (size number : ℕ) (a b : ℤ)
    → let s = span_met touching first size number a b in (s.to ≤ number) × (s.from ≤ number)
unfolding span_met
span_met-within touching first size number a b = (omega arith, omega arith)

clip_from : (m n k : ℕ) → k < n → leb m k ≡ leb (min m n) k
clip_from m n k h =
    same_test (leb m k) (leb (min m n) k)
    (λ e. le-leb (min m n) k (omega (arith, leb-true m k e)))
    (λ e. le-leb m k (omega (arith, leb-true (min m n) k e)))

clip_to : (m n k : ℕ) → k < n → ltb k m ≡ ltb k (min m n)
clip_to m n k h =
    same_test (ltb k m) (ltb k (min m n))
    (λ e. lt-ltb k (min m n) (omega (arith, ltb-true k m e)))
    (λ e. lt-ltb k m (omega (arith, ltb-true k (min m n) e)))

axis-met : (first : ℤ) (size number k : ℕ) → 1 ≤ size → k < number → (touching : Bool) (a b : ℤ) → le_z a b ≡ true → (touching ≡ false → lt_z a b ≡ true)
    → share_axis touching (edge first size k) (edge first size (suc k)) a b ≡ in_span (span_met touching first size number a b) k
unfolding span_met
axis-met first size number k one few touching a b order strict =
    window-met first size k one touching a b order strict
    ∙ ap₂ ◌&&◌ (clip_from (first_met touching first size a) number k few) (clip_to (past_met touching first size b) number k few)

-- ---- both axes

pub record Sizes (g : Grid) : Type 0 where
  pub wide : 1 ≤ across g
  pub high : 1 ≤ down g
  pub some_columns : 1 ≤ columns_of g
  pub few_columns : columns_of g ≤ 64
  pub some_rows : 1 ≤ rows_of g
  pub few_rows : rows_of g ≤ 64

pub sizes : (g : Grid) → sizes_fit g ≡ true → Sizes g
unfolding sizes_fit
sizes g e =
    let w = g.width in
    let h = g.height in
    let c = g.columns in
    let r = g.rows in
    let p = and_t (le_z (pos 1) w && le_z (pos 1) h) ((le_z (pos 1) c && le_z c (pos 64)) && (le_z (pos 1) r && le_z r (pos 64))) e in
    let size = and_t (le_z (pos 1) w) (le_z (pos 1) h) p.0 in
    let number = and_t (le_z (pos 1) c && le_z c (pos 64)) (le_z (pos 1) r && le_z r (pos 64)) p.1 in
    let columns = and_t (le_z (pos 1) c) (le_z c (pos 64)) number.0 in
    let rows = and_t (le_z (pos 1) r) (le_z r (pos 64)) number.1 in
    record {
      wide = some w size.0;
      high = some h size.1;
      some_columns = some c columns.0;
      few_columns = few c columns.1;
      some_rows = some r rows.0;
      few_rows = few r rows.1;
    }
  where
    some : (z : ℤ) → le_z (pos 1) z ≡ true → 1 ≤ natural z
    some (pos n) t = leb-true 1 n t
    some (negsuc n) t = true_false (sym t)

    few : (z : ℤ) → le_z z (pos 64) ≡ true → natural z ≤ 64
    few (pos n) t = leb-true n 64 t
    few (negsuc n) t = omega arith

-- §19.1
pub side_by_side : (g : Grid) (column row : ℕ)
    → ((window g column row).x2 ≡ (window g (suc column) row).x1) × ((window g column row).y2 ≡ (window g column (suc row)).y1)
side_by_side g column row = (refl, refl)

-- a window has extent
window-flat : (g : Grid) → Sizes g → (column row : ℕ) → flat (window g column row) ≡ false
unfolding flat
window-flat g fits column row =
    rw (edges_differ g.x (across g) column fits.wide, edges_differ g.y (down g) row fits.high) refl

pub window_axes : (g : Grid) → Sizes g → (r : AABB) → inverted r ≡ false → (column row : ℕ) → column < columns_of g → row < rows_of g
    → intersects (window g column row) r ≡ (in_span (columns_met g r) column && in_span (rows_met g r) row)
window_axes g fits r fine column row c d =
    let o = ordered r fine in
    intersects_axes (window g column row) r
    ∙ rw (window-flat g fits column row)
    (ap₂ ◌&&◌
    (axis-met g.x (across g) (columns_of g) column fits.wide c (flat r) r.x1 r.x2 o.touch_x o.overlap_x)
    (axis-met g.y (down g) (rows_of g) row fits.high d (flat r) r.y1 r.y2 o.touch_y o.overlap_y))
