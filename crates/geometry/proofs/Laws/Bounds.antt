-- What bounds are for.
--     bounds-below     of a rectangle that is not inverted: to lie within the bounds of a child 1 to 4 is to lie within the parent's
--                      and to be routed to that child
--     bounds-all       a rectangle that is not far out lies within the root's bounds
use Rattle.std.specs.Prelude.{◌≡◌, refl, Bool, true, false, not, cond, ◌&&◌, ◌||◌, ℕ, zero, suc, ◌≤◌, ◌<◌, ℤ, pos, negsuc, eqb, leb}
use Rattle.std.proofs.Common.{sym, ◌∙◌, ap, ap₂, arith, ne_eqb}
use Rattle.std.specs.Int.Signed.{lt_z, le_z}
use Rattle.std.proofs.lemmas.Bool.{not-false}
use Rattle.arithmetic.specs.Ints.{max_z, min_z}
use Rattle.arithmetic.proofs.Laws.Tests.{by_bool}
use Rattle.arithmetic.proofs.Laws.Cases.{all-four, same_bool, same_bool_lem}
use Rattle.arithmetic.proofs.Laws.Linear.{ints, and_t, or_f}
use Rattle.geometry.specs.declared.aabb.AABB.{AABB}
use Rattle.geometry.specs.declared.centered_aabb.CenteredAABB.{CenteredAABB}
use Rattle.geometry.specs.declared.bounds.Bounds.{Bounds}
use Rattle.geometry.specs.Rectangles.{inverted, near, far_out}
use Rattle.geometry.specs.Cells.{quadrant, route_cell}
use Rattle.geometry.specs.Bounds.{all_bounds, quarter_bounds, bounds_below, in_span, in_bounds}

-- ---- one axis

-- of two tests, one that implies the other is both
and_left : (s t : Bool) → (s ≡ true → t ≡ true) → s ≡ s && t
and_left true t f = sym (f refl)
and_left false t f = refl

and_right : (s t : Bool) → (t ≡ true → s ≡ true) → t ≡ s && t
and_right s true f = rw (f refl) refl
and_right true false f = refl
and_right false false f = refl

lt-max : (a b c : ℤ) → lt_z (max_z a b) c ≡ lt_z a c && lt_z b c
unfolding max_z
lt-max a b c =
    by_bool (lt_z a b) (λ e. rw e (and_right (lt_z a c) (lt_z b c) (λ h. omega (arith, ints))))
    (λ e. rw e (and_left (lt_z a c) (lt_z b c) (λ h. omega (arith, ints))))

le-min : (a b c : ℤ) → le_z c (min_z a b) ≡ le_z c a && le_z c b
unfolding min_z
le-min a b c =
    by_bool (lt_z b a) (λ e. rw e (and_right (le_z c a) (le_z c b) (λ h. omega (arith, ints))))
    (λ e. rw e (and_left (le_z c a) (le_z c b) (λ h. omega (arith, ints))))

-- on one side of the centre
abbrev on_side : Bool → ℤ → ℤ → ℤ → Bool
on_side upper centre first second = cond upper (lt_z centre first) (le_z second centre)

regroup : (a b c d : Bool) → (a && b) && (c && d) ≡ (a && c) && (b && d)
regroup a b c d = same_bool_lem _ _ (all-four (λ a b c d. same_bool ((a && b) && (c && d)) ((a && c) && (b && d))) refl a b c d)

span_side : (upper : Bool) (over upto centre first second : ℤ)
    → in_span (cond upper (max_z over centre) over) (cond upper upto (min_z upto centre)) first second
    ≡ in_span over upto first second && on_side upper centre first second
span_side true over upto centre first second =
    ap (λ (t : Bool). t && le_z second upto) (lt-max over centre first)
    ∙ same_bool_lem _ _ (all-four (λ a b c d. same_bool ((a && b) && c) ((a && c) && b)) refl (lt_z over first) (lt_z centre first) (le_z second upto) true)
span_side false over upto centre first second =
    ap (λ (t : Bool). lt_z over first && t) (le-min upto centre second)
    ∙ same_bool_lem _ _ (all-four (λ a b c d. same_bool (a && (b && c)) ((a && b) && c)) refl (lt_z over first) (le_z second upto) (le_z second centre) true)

-- ---- both axes

-- of a rectangle that is not inverted one of left and right is true, and one of top and bottom: the child that it goes to is told by the tests that are false
sided : ℕ → Bool → Bool → Bool → Bool → Bool
sided i l r t b = cond (eqb i 2 || eqb i 4) (not l) (not r) && cond (leb 3 i) (not t) (not b)

abbrev told : ℕ → Bool → Bool → Bool → Bool → Bool
told i l r t b = not ((l || r) && (t || b)) || same_bool (eqb (quadrant l r t b) i) (sided i l r t b)

child-told : (i : ℕ) → 1 ≤ i → i < 5 → (l r t b : Bool) → told i l r t b ≡ true
unfolding quadrant sided
child-told zero one five l r t b = absurd (omega arith)
child-told (suc zero) one five l r t b = all-four (told 1) refl l r t b
child-told (suc (suc zero)) one five l r t b = all-four (told 2) refl l r t b
child-told (suc (suc (suc zero))) one five l r t b = all-four (told 3) refl l r t b
child-told (suc (suc (suc (suc zero)))) one five l r t b = all-four (told 4) refl l r t b
child-told (suc (suc (suc (suc (suc i))))) one five l r t b = absurd (omega arith)

child-sided : (i : ℕ) → 1 ≤ i → i < 5 → (l r t b : Bool) → l || r ≡ true → t || b ≡ true → eqb (quadrant l r t b) i ≡ sided i l r t b
child-sided i one five l r t b x y =
    same_bool_lem _ _ (rw (x, y) at (child-told i one five l r t b))

lt_not : (a b : ℤ) → lt_z b a ≡ not (le_z a b)
lt_not a b = by_bool (le_z a b) (λ e. rw e (omega (arith, ints))) (λ e. rw e (omega (arith, ints)))

le_not : (a b : ℤ) → le_z b a ≡ not (lt_z a b)
le_not a b = by_bool (lt_z a b) (λ e. rw e (omega (arith, ints))) (λ e. rw e (omega (arith, ints)))

side_not : (upper : Bool) (centre first second : ℤ) → on_side upper centre first second ≡ cond upper (not (le_z first centre)) (not (lt_z centre second))
side_not true centre first second = lt_not first centre
side_not false centre first second = le_not centre second

one_side : (centre first second : ℤ) → lt_z second first ≡ false → le_z first centre || lt_z centre second ≡ true
one_side centre first second e =
    by_bool (le_z first centre) (λ h. rw h refl) (λ h. let k : lt_z centre second ≡ true = omega (arith, ints) in rw (h, k) refl)

pub bounds-below : (b : Bounds) (c : CenteredAABB) (i : ℕ) → 1 ≤ i → i < 5 → (r : AABB) → inverted r ≡ false
    → in_bounds (bounds_below b c i) r ≡ in_bounds b r && eqb (route_cell c r) i
unfolding bounds_below quarter_bounds in_bounds route_cell inverted sided
bounds-below b c i one five r up =
    let x = c.center_x in
    let y = c.center_y in
    let right = eqb i 2 || eqb i 4 in
    let low = leb 3 i in
    let upright = or_f (lt_z r.x2 r.x1) (lt_z r.y2 r.y1) up in
    let other : eqb i 0 ≡ false = ne_eqb i 0 (λ e. omega arith) in
    let across = one_side x r.x1 r.x2 upright.0 in
    let down = one_side y r.y1 r.y2 upright.1 in
    let child = child-sided i one five (le_z r.x1 x) (lt_z x r.x2) (le_z r.y1 y) (lt_z y r.y2) across down in
    let span_x = in_span b.x_over b.x_upto r.x1 r.x2 in
    let span_y = in_span b.y_over b.y_upto r.y1 r.y2 in
    rw other
    (ap₂ ◌&&◌ (span_side right b.x_over b.x_upto x r.x1 r.x2) (span_side low b.y_over b.y_upto y r.y1 r.y2)
    ∙ regroup span_x (on_side right x r.x1 r.x2) span_y (on_side low y r.y1 r.y2)
    ∙ ap (λ (t : Bool). in_bounds b r && t) (ap₂ ◌&&◌ (side_not right x r.x1 r.x2) (side_not low y r.y1 r.y2) ∙ sym child))

-- ---- the root

near-span : (z : ℤ) → near z ≡ true → (lt_z (negsuc 1073741824) z ≡ true) × (le_z z (pos 1073741823) ≡ true)
unfolding near
near-span z e = let n = and_t (le_z (negsuc 1073741823) z) (le_z z (pos 1073741823)) e in (omega (arith, ints), n.1)

pub bounds-all : (r : AABB) → far_out r ≡ false → in_bounds all_bounds r ≡ true
unfolding far_out in_bounds all_bounds
bounds-all r e =
    let all = and_t (near r.x1 && near r.y1 && near r.x2) (near r.y2) (not-false _ e) in
    let three = and_t (near r.x1 && near r.y1) (near r.x2) all.0 in
    let two = and_t (near r.x1) (near r.y1) three.0 in
    rw ((near-span r.x1 two.0).0, (near-span r.x2 three.1).1, (near-span r.y1 two.1).0, (near-span r.y2 all.1).1) refl
