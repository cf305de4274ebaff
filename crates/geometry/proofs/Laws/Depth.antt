-- The bit length, and D.
--     bit_length-leading   leading zeros and bit length make the width
--     halvings-is          2^k ≤ q < 2^(k+1) for the halvings k of q > 0
--     bit_length-is        2^k ≤ q < 2^(k+1) for k one less than the bit length
--     deepest-none, deepest-small, leading-few, deepest-found     D by the cases of the code that finds it
use Rattle.std.specs.Prelude.{◌≡◌, refl, ℕ, zero, suc, ◌+◌, ◌-◌, ◌/◌, ◌^◌, ◌≤◌, ◌<◌, min}
use Rattle.std.proofs.Common.{ap, sym, ◌∙◌, div-le_self}
use Rattle.std.proofs.Math.Nat.{two-pow-succ, div-zero}
use borrow.Author.Tests.{eq-eqb, ne_eqb}
use native.Mathlib.Omega.{arith}
use Rattle.std.specs.Int.Count.{count_leading_zeros}
use Rattle.std.proofs.lemmas.Nat.{leading_top}
use Rattle.geometry.specs.Settings.{bits_within, bit_length, W, halvings, D}
use Rattle.geometry.specs.declared.settings.Settings.{Settings}
use Rattle.geometry.proofs.Laws.Geometry.{bits-half}

bits-leading : (k n q : ℕ) → q < 2 ^ k → q ≤ n → count_leading_zeros k q + bits_within n q ≡ k
unfolding count_leading_zeros bits_within
bits-leading zero zero zero h l = refl
bits-leading zero zero (suc q) h l = absurd (omega arith)
bits-leading zero (suc n) zero h l = refl
bits-leading zero (suc n) (suc q) h l = absurd (omega arith)
bits-leading (suc k) zero zero h l = omega arith
bits-leading (suc k) zero (suc q) h l = absurd (omega arith)
bits-leading (suc k) (suc n) zero h l = omega arith
bits-leading (suc k) (suc n) (suc q) h l = omega (arith, bits-leading k n (suc q / 2) (omega (arith, two-pow-succ k)) (omega arith))

pub bit_length-leading : (k q : ℕ) → q < 2 ^ k → count_leading_zeros k q + bit_length q ≡ k
unfolding bit_length
bit_length-leading k q h = bits-leading k q q h (omega arith)

below_power : (n : ℕ) → n < 2 ^ n
below_power zero = omega arith
below_power (suc n) = omega (arith, below_power n, two-pow-succ n)

pub bit_length-is : (q : ℕ) → 1 ≤ q → (2 ^ (bit_length q - 1) ≤ q) × (q < 2 ^ bit_length q)
bit_length-is q h =
    let t = leading_top q q (omega arith) (below_power q) in
    let b = bit_length-leading q q (below_power q) in
    let e : bit_length q ≡ suc t.0 = omega (arith, t.1) in
    let d : bit_length q - 1 ≡ t.0 = omega arith in
    (rw d t.2, rw e t.3)

-- the quotient by which the halvings are found
abbrev pub quotient : Settings → ℕ
quotient s = W s / s.smallest_cell

-- the halvings k are the place of the quotient's highest bit: 2^k ≤ q < 2^(k + 1)
pub halvings-is : (s : Settings) → 1 ≤ quotient s → (2 ^ halvings s ≤ quotient s) × (quotient s < 2 ^ (halvings s + 1))
unfolding halvings
halvings-is s h =
    let q = W s / s.smallest_cell in
    let b = bit_length-is q h in
    let some : 1 ≤ bit_length q = omega (arith, bits-half q h) in
    let up : bit_length q - 1 + 1 ≡ bit_length q = omega arith in
    rw (ne_eqb q 0 (λ e. omega arith)) (b.0, rw up b.1)

-- D, as it is found from the larger side w
pub deepest-none : (s : Settings) → s.smallest_cell ≡ 0 → 0 ≡ D s
unfolding D halvings
deepest-none s e =
    let none : W s / s.smallest_cell ≡ 0 = ap (λ (k : ℕ). W s / k) e ∙ div-zero (W s) in
    rw (eq-eqb (W s / s.smallest_cell) 0 none) (omega arith)

module _ (s : Settings) (w : ℕ) (e : w ≡ W s) where
  pub deepest-small : w / s.smallest_cell ≡ 0 → 0 ≡ D s
  unfolding D halvings
  deepest-small z = rw (eq-eqb (W s / s.smallest_cell) 0 (ap (λ (x : ℕ). x / s.smallest_cell) (sym e) ∙ z)) (omega arith)

  module _ (some : w / s.smallest_cell ≡ 0 → ⊥) (fits : w < 2 ^ 32) where
    leading : count_leading_zeros 32 (w / s.smallest_cell) + bit_length (w / s.smallest_cell) ≡ 32
    leading = bit_length-leading 32 (w / s.smallest_cell) (omega (arith, div-le_self w s.smallest_cell))

    pub leading-few : count_leading_zeros 32 (w / s.smallest_cell) ≤ 31
    leading-few = omega (arith, leading, bits-half (w / s.smallest_cell) (omega arith))

    pub deepest-found : min s.depth_limit (31 - count_leading_zeros 32 (w / s.smallest_cell)) ≡ D s
    unfolding D halvings
    deepest-found = rw (← e, ne_eqb (w / s.smallest_cell) 0 some) (omega (arith, leading, leading-few))
