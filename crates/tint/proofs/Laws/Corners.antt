-- Laws of the corners first, first + 1 .. on an axis.
--     corner_below     which of them lie below a limit: the first ones
--     corner_within    which of them lie within the bounds of an axis: those of a span
--     corners-few, below-few       how many lie below a limit: at most their number
--     past-over, past_fits     the distance of the corner after a bound, and that it fits an i64
use Rattle.std.specs.Prelude.{◌≡◌, true, false, ◌&&◌, ℕ, ◌≤◌, ◌<◌, leb, ltb, ℤ, pos, ◌+ℤ◌, ◌-ℤ◌}
use Rattle.std.proofs.Common.{ap₂, sym, ◌∙◌, arith, ltb-true, ltb-false, lt-ltb, le-leb, SFits}
use Rattle.std.proofs.Math.Logic.{⊎_elim}
use Rattle.std.specs.Int.Signed.{lt_z, le_z}
use Rattle.std.proofs.lemmas.Bool.{lt-leb}
use Rattle.std.specs.Int.{w32, w64}
use Rattle.arithmetic.proofs.Laws.Tests.{by_bool}
use Rattle.arithmetic.proofs.Laws.Linear.{ints, sum, dif, known, fits64, nat_eq, same_test}
use Rattle.arithmetic.proofs.Laws.Divisions.{up-natural, one-zero}
use Rattle.geometry.specs.Bounds.{in_span}
use Rattle.tint.specs.Counts.{corners_below, corners_within}

-- ---- which

pub corner_below : (first limit : ℤ) (number i : ℕ) → i < number → ltb i (corners_below first limit number) ≡ lt_z (first +ℤ pos i) limit
unfolding corners_below
corner_below first limit number i h =
    let z = limit -ℤ first in
    let law = dif limit first in
    let here = sum first (pos i) in
    let is = up-natural z in
    same_test (ltb i (corners_below first limit number)) (lt_z (first +ℤ pos i) limit)
    (λ e.
    let below : i < corners_below first limit number = ltb-true i (corners_below first limit number) e in
    ⊎_elim (λ none. omega (arith, ints)) (λ none. omega (arith, ints)) (one-zero z))
    (λ e. lt-ltb i (corners_below first limit number) (omega (arith, ints)))

module _ (first over upto : ℤ) (number i : ℕ) (h : i < number) where
  corner_over : lt_z over (first +ℤ pos i) ≡ leb (corners_below first (over +ℤ pos 1) number) i
  corner_over =
      let from = corners_below first (over +ℤ pos 1) number in
      let law = corner_below first (over +ℤ pos 1) number i h in
      by_bool (ltb i from)
      (λ t.
      let below : lt_z (first +ℤ pos i) (over +ℤ pos 1) ≡ true = sym law ∙ t in
      let outside : lt_z over (first +ℤ pos i) ≡ false = omega (arith, ints, sum over (pos 1)) in
      outside ∙ sym (lt-leb from i (ltb-true i from t)))
      (λ t.
      let past : lt_z (first +ℤ pos i) (over +ℤ pos 1) ≡ false = sym law ∙ t in
      let inside : lt_z over (first +ℤ pos i) ≡ true = omega (arith, ints, sum over (pos 1)) in
      inside ∙ sym (le-leb from i (ltb-false i from t)))

  corner_upto : le_z ((first +ℤ pos i) +ℤ pos 1) upto ≡ ltb i (corners_below first upto number)
  corner_upto =
      let z = first +ℤ pos i in
      same_test (le_z (z +ℤ pos 1) upto) (lt_z z upto) (λ e. omega (arith, ints, sum z (pos 1))) (λ e. omega (arith, ints, sum z (pos 1)))
      ∙ sym (corner_below first upto number i h)

  -- the one-unit dot at a corner lies within the bounds of an axis
  pub corner_within : let s = corners_within first over upto number in
      in_span over upto (first +ℤ pos i) ((first +ℤ pos i) +ℤ pos 1) ≡ leb s.start i && ltb i s.end
  corner_within = ap₂ ◌&&◌ corner_over corner_upto

-- ---- how many

pub corners-few : (first limit : ℤ) (number : ℕ) → corners_below first limit number ≤ number
unfolding corners_below
corners-few first limit number = omega arith

-- of at most 1024 columns or rows
pub below-few : (first limit : ℤ) (number : ℕ) {below : ℕ} → below ≡ corners_below first limit number → number ≤ 1024 → below ≤ 1024
below-few first limit number e h = omega (arith, corners-few first limit number)

-- the distance of the corner after a bound
module _ (over first : ℤ) where
  pub past-over : (over -ℤ first) +ℤ pos 1 ≡ (over +ℤ pos 1) -ℤ first
  past-over = nat_eq _ _ (omega (arith, dif over first, sum (over -ℤ first) (pos 1), sum over (pos 1), dif (over +ℤ pos 1) first))

  pub past_fits : SFits w32 over → SFits w32 first → SFits w64 ((over -ℤ first) +ℤ pos 1)
  past_fits f g = fits64 _ (omega (arith, dif over first, sum (over -ℤ first) (pos 1), known f, known g))
