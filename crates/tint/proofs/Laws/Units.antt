-- Laws of one-unit dots, and of the dots of a patch, which are such.
--     unit_upright, patch-upright      none is inverted
--     over-fits, past_edge_fits        the numbers before and after a root's axis fit an i32
--     unit_acceptable  a one-unit dot lies within unit_bounds exactly if it is acceptable
--     all-within, within_all   so the dots of a patch are all acceptable exactly if all lie within them
use Rattle.std.specs.Prelude.{◌≡◌, refl, Bool, true, false, not, ◌&&◌, ℕ, ◌*◌, ◌≤◌, ℤ, pos, negsuc, ◌+ℤ◌, ◌-ℤ◌, length}
use Rattle.std.proofs.Common.{ap, ap₂, sym, ◌∙◌, arith, SFits}
use Rattle.std.specs.Int.Signed.{lt_z, le_z, shr_z}
use Rattle.std.specs.Int.{w32}
use Rattle.arithmetic.specs.Ints.{min_z}
use Rattle.arithmetic.proofs.Laws.Tests.{by_bool}
use Rattle.arithmetic.proofs.Laws.Linear.{ints, sum, dif, half-lo, half-hi, nat_eq, fits32, min-below, same_test, and_t}
use Rattle.geometry.specs.declared.aabb.AABB.{AABB}
use Rattle.geometry.specs.declared.settings.Settings.{Settings}
use Rattle.geometry.specs.Rectangles.{inverted, near, far_out, middle, within}
use Rattle.geometry.specs.Settings.{axis_fits, in_range, contains, acceptable}
use Rattle.geometry.specs.Bounds.{in_span, in_bounds}
use Rattle.geometry.proofs.Laws.Ranges.{accepted, root_axes}
use Rattle.model.specs.declared.patch.Patch.{Patch}
use Rattle.model.specs.Lists.{join_below, filter, All}
use Rattle.model.specs.Patch.{unit_rect, has_dot, rects_at, patch_rects}
use Rattle.model.proofs.Laws.Lists.{filter_ext, all-join_below}
use Rattle.tint.specs.Counts.{within_bounds, unit_upto, unit_bounds}
use Rattle.tint.proofs.Laws.Filters.{filter-all, all_filter}

-- ---- upright

pub unit_upright : (x y : ℤ) → inverted (unit_rect x y) ≡ false
unfolding inverted
unit_upright x y =
    let across : lt_z (x +ℤ pos 1) x ≡ false = omega (arith, ints, sum x (pos 1)) in
    let down : lt_z (y +ℤ pos 1) y ≡ false = omega (arith, ints, sum y (pos 1)) in
    rw (across, down) refl

-- what holds of every one-unit dot holds of all dots of a patch
patch-all : (P : AABB → Type 0) (p : Patch) → ((x y : ℤ) → P (unit_rect x y)) → All P (patch_rects p)
unfolding patch_rects
patch-all P p each =
    all-join_below P (16 * p.rows) (λ row. join_below (16 * p.columns) (λ column. rects_at p column row))
    (λ row rb. all-join_below P (16 * p.columns) (λ column. rects_at p column row)
    (λ column cb. by_bool (has_dot p column row) (λ e. rw e (each (p.x +ℤ pos column) (p.y +ℤ pos row), tt)) (λ e. rw e tt)))

pub patch-upright : (p : Patch) → All (λ r. inverted r ≡ false) (patch_rects p)
patch-upright p = patch-all (λ r. inverted r ≡ false) p unit_upright

-- ---- acceptable

-- a root's axis, by its three tests
record Axis (low size : ℤ) : Type 0 where
  lowest : le_z (negsuc 1073741823) low ≡ true
  extent : le_z (pos 0) size ≡ true
  highest : le_z (low +ℤ size) (pos 1073741823) ≡ true

axis : (low size : ℤ) → axis_fits low size ≡ true → Axis low size
unfolding axis_fits
axis low size e =
    let p = and_t (le_z (negsuc 1073741823) low && le_z (pos 0) size) (le_z (low +ℤ size) (pos 1073741823)) e in
    let q = and_t (le_z (negsuc 1073741823) low) (le_z (pos 0) size) p.0 in
    record { lowest = q.0; extent = q.1; highest = p.1 }

pub over-fits : (low size : ℤ) → axis_fits low size ≡ true → SFits w32 (low -ℤ pos 1)
over-fits low size e = let a = axis low size e in fits32 _ (omega (arith, ints, dif low (pos 1), sum low size))

pub past_edge_fits : (low size : ℤ) (n : ℕ) → axis_fits low size ≡ true → n ≤ 1 → SFits w32 ((low +ℤ size) +ℤ pos n)
past_edge_fits low size n e h = let a = axis low size e in fits32 _ (omega (arith, ints, sum low size, sum (low +ℤ size) (pos n)))

unit_middle : (z : ℤ) → middle z (z +ℤ pos 1) ≡ z
unfolding middle
unit_middle z =
    let twice = z +ℤ (z +ℤ pos 1) in
    nat_eq (shr_z twice 2) z (omega (arith, sum z (pos 1), sum z (z +ℤ pos 1), half-lo twice, half-hi twice))

le-smaller : (c a b : ℤ) → le_z c a ≡ true → le_z c b ≡ true → le_z c (min_z a b) ≡ true
unfolding min_z
le-smaller c a b p q = by_bool (lt_z b a) (λ e. rw e q) (λ e. rw e p)

-- a one-unit dot on one axis: its two corners are in range, and its middle, which is its corner, lies on the root
unit_axis : (low size z : ℤ) → axis_fits low size ≡ true
    → in_span (low -ℤ pos 1) (unit_upto low size) z (z +ℤ pos 1) ≡ (near z && near (z +ℤ pos 1)) && within low size z
unfolding unit_upto near within
unit_axis low size z e =
    let most = pos 1073741823 in
    let least = negsuc 1073741823 in
    let edge = (low +ℤ size) +ℤ pos 1 in
    let next = z +ℤ pos 1 in
    let root = axis low size e in
    let end = sum low size in
    let past = sum (low +ℤ size) (pos 1) in
    let after = sum z (pos 1) in
    let before = dif low (pos 1) in
    let smaller = min-below edge most in
    same_test (in_span (low -ℤ pos 1) (unit_upto low size) z next) ((near z && near next) && within low size z)
    (λ t.
    let h = and_t (lt_z (low -ℤ pos 1) z) (le_z next (min_z edge most)) t in
    let a : le_z least z ≡ true = omega (arith, ints) in
    let b : le_z z most ≡ true = omega (arith, ints) in
    let c : le_z least next ≡ true = omega (arith, ints) in
    let d : le_z next most ≡ true = omega (arith, ints) in
    let f : le_z low z ≡ true = omega (arith, ints) in
    let g : le_z z (low +ℤ size) ≡ true = omega (arith, ints) in
    rw (a, b, c, d, f, g) refl)
    (λ t.
    let h = and_t (near z && near next) (within low size z) t in
    let n = and_t (near z) (near next) h.0 in
    let d = (and_t (le_z least next) (le_z next most) n.1).1 in
    let w = and_t (le_z low z) (le_z z (low +ℤ size)) h.1 in
    let a : lt_z (low -ℤ pos 1) z ≡ true = omega (arith, ints) in
    let b : le_z next edge ≡ true = omega (arith, ints) in
    rw a (le-smaller next edge most b d))

axis-by_axis : (a b c d e f : Bool) → not (not (a && b && c && d)) && (e && f) ≡ ((a && c) && e) && ((b && d) && f)
axis-by_axis false b c d e f = refl
axis-by_axis true false false d e f = refl
axis-by_axis true false true d false f = refl
axis-by_axis true false true d true f = refl
axis-by_axis true true false d e f = refl
axis-by_axis true true true false false f = refl
axis-by_axis true true true false true f = refl
axis-by_axis true true true true e f = refl

pub unit_acceptable : (s : Settings) → in_range s ≡ true → (x y : ℤ) → in_bounds (unit_bounds s) (unit_rect x y) ≡ acceptable s (unit_rect x y)
unfolding unit_bounds in_bounds acceptable contains far_out
unit_acceptable s ok x y =
    let axes = root_axes s (accepted s ok).root in
    ap₂ ◌&&◌ (unit_axis s.left s.width x axes.0) (unit_axis s.top s.height y axes.1)
    ∙ sym (rw (unit_upright x y, unit_middle x, unit_middle y)
    (axis-by_axis (near x) (near y) (near (x +ℤ pos 1)) (near (y +ℤ pos 1)) (within s.left s.width x) (within s.top s.height y)))

-- ---- all of them

module _ (s : Settings) (ok : in_range s ≡ true) (p : Patch) where
  same_length : length (within_bounds (unit_bounds s) (patch_rects p)) ≡ length (filter (acceptable s) (patch_rects p))
  same_length =
      ap length (filter_ext (in_bounds (unit_bounds s)) (acceptable s) (patch_rects p)
      (patch-all (λ r. in_bounds (unit_bounds s) r ≡ acceptable s r) p (unit_acceptable s ok)))

  pub all-within : All (λ r. acceptable s r ≡ true) (patch_rects p) → length (within_bounds (unit_bounds s) (patch_rects p)) ≡ length (patch_rects p)
  all-within a = same_length ∙ filter-all (acceptable s) (patch_rects p) a

  pub within_all : length (within_bounds (unit_bounds s) (patch_rects p)) ≡ length (patch_rects p) → All (λ r. acceptable s r ≡ true) (patch_rects p)
  within_all e = all_filter (acceptable s) (patch_rects p) (sym same_length ∙ e)
