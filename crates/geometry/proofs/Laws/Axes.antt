-- Rectangles axis by axis.
--     touch_axis, overlap_axis     what two intervals with their ends in order share, without the larger and the smaller
--     intersects-flat, intersects_thick    to intersect is to touch where either is flat, and to overlap where neither is
--     intersects_axes      two rectangles intersect exactly if they share both axes; a point is enough where either is flat
--     Ordered, ordered     what a rectangle that is not inverted has on each axis
use Rattle.std.specs.Prelude.{◌≡◌, refl, true, false, ◌&&◌, ◌||◌, ℤ}
use Rattle.std.proofs.Common.{sym, ◌∙◌, arith}
use Rattle.std.proofs.Math.Bool.{and-true, and_comm}
use Rattle.std.specs.Int.Signed.{lt_z, le_z}
use Rattle.arithmetic.specs.Ints.{eq_z, max_z, min_z}
use Rattle.arithmetic.proofs.Laws.Tests.{by_bool, true_false}
use Rattle.arithmetic.proofs.Laws.Linear.{ints, max-above, min-below, same_test, and_t, or_f}
use Rattle.geometry.specs.declared.aabb.AABB.{AABB}
use Rattle.geometry.specs.Rectangles.{flat, overlaps, intersects, touches, share_axis, inverted}
use Rattle.geometry.proofs.Laws.Geometry.{overlap_tests, overlaps-intersects, only-touches, intersects-touches}

-- ---- one axis

pub touch_axis : (a b c d : ℤ) → le_z a b ≡ true → le_z c d ≡ true → share_axis true a b c d ≡ le_z c b && le_z a d
unfolding share_axis max_z min_z
touch_axis a b c d own other = same_test (le_z (max_z a c) (min_z b d)) (le_z c b && le_z a d) there back
  where
    there : le_z (max_z a c) (min_z b d) ≡ true → le_z c b && le_z a d ≡ true
    there h =
        let cb : le_z c b ≡ true = omega (arith, ints, max-above a c, min-below b d) in
        let ad : le_z a d ≡ true = omega (arith, ints, max-above a c, min-below b d) in
        rw (cb, ad) refl

    back : le_z c b && le_z a d ≡ true → le_z (max_z a c) (min_z b d) ≡ true
    back h =
        let p = and_t (le_z c b) (le_z a d) h in
        by_bool (lt_z a c)
        (λ s. by_bool (lt_z d b) (λ t. rw (s, t) other) (λ t. rw (s, t) p.0))
        (λ s. by_bool (lt_z d b) (λ t. rw (s, t) p.1) (λ t. rw (s, t) own))

pub overlap_axis : (a b c d : ℤ) → lt_z a b ≡ true → lt_z c d ≡ true → share_axis false a b c d ≡ lt_z c b && lt_z a d
unfolding share_axis
overlap_axis a b c d own other =
    sym (overlap_tests a b c d) ∙ rw (own, other) (and-true (lt_z a d && lt_z c b) ∙ and_comm (lt_z a d) (lt_z c b))

-- ---- both axes

pub intersects-flat : (a b : AABB) → flat a || flat b ≡ true → intersects a b ≡ touches a b
intersects-flat a b z =
    by_bool (overlaps a b)
    (λ o. let meets = sym (overlaps-intersects a b o) in meets ∙ sym (intersects-touches a b meets))
    (λ o. sym (only-touches a b o) ∙ rw z refl)

pub intersects_thick : (a b : AABB) → flat a || flat b ≡ false → intersects a b ≡ overlaps a b
intersects_thick a b z =
    by_bool (overlaps a b) (λ o. sym (overlaps-intersects a b o) ∙ sym o) (λ o. sym (only-touches a b o) ∙ rw z (sym o))

pub intersects_axes : (a b : AABB)
    → intersects a b
    ≡ share_axis (flat a || flat b) a.x1 a.x2 b.x1 b.x2 && share_axis (flat a || flat b) a.y1 a.y2 b.y1 b.y2
unfolding share_axis touches overlaps
intersects_axes a b =
    by_bool (flat a || flat b) (λ z. intersects-flat a b z ∙ rw z refl) (λ z. intersects_thick a b z ∙ rw z refl)

-- ---- ends in order

pub record Ordered (r : AABB) : Type 0 where
  pub touch_x : le_z r.x1 r.x2 ≡ true
  pub touch_y : le_z r.y1 r.y2 ≡ true
  pub overlap_x : flat r ≡ false → lt_z r.x1 r.x2 ≡ true
  pub overlap_y : flat r ≡ false → lt_z r.y1 r.y2 ≡ true

pub ordered : (r : AABB) → inverted r ≡ false → Ordered r
unfolding inverted flat
ordered r e =
    let p = or_f (lt_z r.x2 r.x1) (lt_z r.y2 r.y1) e in
    record {
      touch_x = omega (arith, ints);
      touch_y = omega (arith, ints);
      overlap_x = λ z. differ r.x1 r.x2 p.0 (or_f (eq_z r.x1 r.x2) (eq_z r.y1 r.y2) z).0;
      overlap_y = λ z. differ r.y1 r.y2 p.1 (or_f (eq_z r.x1 r.x2) (eq_z r.y1 r.y2) z).1;
    }
  where
    differ : (a b : ℤ) → lt_z b a ≡ false → eq_z a b ≡ false → lt_z a b ≡ true
    differ a b g n = by_bool (lt_z a b) (λ e. e) (λ e. let same : eq_z a b ≡ true = omega (arith, ints) in true_false (sym same ∙ n))
