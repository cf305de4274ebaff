-- Codes of quadrants, read as the four tests they are made of.
--     code-number  the place of the code's lowest bit is the child that the tests route to
--     code-opens   the code's bit at a child from 1 on is both tests of that child
--     route-code, opens-code       the same of a cell and a rectangle
--     route_halves which half a child from 1 on lies in, by the tests
--     zero-or_one, quadrants_le, code_sum, place-number    what the functions that make and read a code lean on
use Rattle.std.specs.Prelude.{◌≡◌, refl, Bool, true, false, ◌&&◌, ◌||◌, ℕ, zero, suc, ◌+◌, ◌-◌, ◌*◌, ◌/◌, ◌%◌, ◌^◌, ◌≤◌, ◌<◌, eqb, leb}
use Rattle.std.proofs.Common.{◌∙◌, mod-eq_of_lt, mul-le-mul_left, arith, eqb-true, ne_eqb, leb-true}
use Rattle.std.proofs.Math.Nat.{two-pow-succ}
use Rattle.std.proofs.lemmas.Bool.{eqb-false}
use Rattle.std.specs.Int.Count.{count_trailing_zeros, trailing_of_zero}
use Rattle.arithmetic.specs.Bits.{bit_at}
use Rattle.arithmetic.proofs.Laws.Bits.{high_bit}
use Rattle.arithmetic.proofs.Laws.Tests.{by_bool}
use Rattle.arithmetic.proofs.Laws.Cases.{all-four, same_bool, same_bool_lem}
use Rattle.arithmetic.proofs.Laws.Linear.{and_t}
use Rattle.geometry.specs.declared.aabb.AABB.{AABB}
use Rattle.geometry.specs.declared.centered_aabb.CenteredAABB.{CenteredAABB}
use Rattle.geometry.specs.Cells.{left_of, right_of, top_of, bottom_of, bit, code_of, cell_code, bit_place, quadrant, route_cell, both_tests, opens_cell}

bit_le : (b : Bool) → bit b ≤ 1
bit_le true = omega arith
bit_le false = omega arith

-- tests as numbers are 0 or 1, and so are the products of both tests of an axis; the product of all four is no larger
pub record ZeroOrOne (l r t b : Bool) : Type 0 where
  pub left : bit l ≤ 1
  pub right : bit r ≤ 1
  pub top : bit t ≤ 1
  pub bottom : bit b ≤ 1
  pub across : bit l * bit r ≤ 1
  pub down : bit t * bit b ≤ 1
  pub four : bit l * bit r * (bit t * bit b) ≤ bit l * bit r

pub zero-or_one : (l r t b : Bool) → ZeroOrOne l r t b
zero-or_one l r t b =
    let pair : (x y : Bool) → bit x * bit y ≤ 1 = λ x y. omega (arith, bit_le x, mul-le-mul_left (bit x) (bit_le y)) in
    record {
      left = bit_le l;
      right = bit_le r;
      top = bit_le t;
      bottom = bit_le b;
      across = pair l r;
      down = pair t b;
      four = omega (arith, mul-le-mul_left (bit l * bit r) (pair t b));
    }

-- the sum of the products of numbers across and down is the product of their sums, which is small
pub quadrants_le : (l r t b : ℕ) → l + r ≤ 3 → t + b ≤ 10 → t * l + t * r + b * l + b * r ≤ 30
quadrants_le l r t b across down = omega (arith, mul-le-mul_left (t + b) across, down)

-- the code as the sum that is computed: a product for each quadrant, and bit 0
abbrev sum_of : ℕ → ℕ → ℕ → ℕ → ℕ
sum_of l r t b = t * 2 * l + t * 2 * (r * 2) + b * 8 * l + b * 8 * (r * 2) + ((l * r + t * b) - l * r * (t * b))

pub code_sum : (l r t b : Bool) → sum_of (bit l) (bit r) (bit t) (bit b) ≡ code_of l r t b
code_sum l r t b = eqb-true _ _ (all-four (λ l r t b. eqb (sum_of (bit l) (bit r) (bit t) (bit b)) (code_of l r t b)) refl l r t b)

pub code-number : (l r t b : Bool) → bit_place (code_of l r t b) ≡ quadrant l r t b
unfolding bit_place quadrant count_trailing_zeros
code-number l r t b = eqb-true _ _ (all-four (λ l r t b. eqb (bit_place (code_of l r t b)) (quadrant l r t b)) refl l r t b)

-- a number from 1 on has its lowest bit below 2^k, if it is
trailing_lt : (k n : ℕ) → 1 ≤ n → n < 2 ^ k → count_trailing_zeros k n < k
unfolding count_trailing_zeros
trailing_lt zero n p l = absurd (omega (arith, p, l))
trailing_lt (suc k) n p l =
    by_bool (eqb (n % 2) 0)
    (λ e. let z = eqb-true (n % 2) 0 e in rw z (let t = trailing_lt k (n / 2) (omega (arith, p, z)) (omega (arith, l, two-pow-succ k)) in omega (arith, t)))
    (λ e. let one : n % 2 ≡ 1 = omega (arith, eqb-false (n % 2) 0 e) in rw one (omega arith))

-- the place of a code's lowest bit; a count of 32 says that there is none
pub place-number : (code : ℕ) → code < 2 ^ 32 → count_trailing_zeros 32 code % 32 ≡ bit_place code
unfolding bit_place
place-number code l =
    by_bool (eqb code 0)
    (λ e. rw (eqb-true code 0 e, trailing_of_zero 32) refl)
    (λ e. rw e (mod-eq_of_lt (trailing_lt 32 code (omega (arith, eqb-false code 0 e)) l)))

-- of a rectangle that goes to a child from 1 on, the child tells the tests right and bottom
abbrev in_halves : ℕ → Bool → Bool → Bool
in_halves child right bottom = eqb child 0 || (same_bool right (eqb child 2 || eqb child 4) && same_bool bottom (leb 3 child))

quadrant_halves : (l r t b : Bool) → (quadrant l r t b ≡ 0 → ⊥)
    → (r ≡ (eqb (quadrant l r t b) 2 || eqb (quadrant l r t b) 4)) × (b ≡ leb 3 (quadrant l r t b))
unfolding quadrant
quadrant_halves l r t b ne =
    let halves : in_halves (quadrant l r t b) r b ≡ true = all-four (λ l r t b. in_halves (quadrant l r t b) r b) refl l r t b in
    let both = and_t _ _ (rw (ne_eqb _ 0 ne) at halves) in
    (same_bool_lem _ _ both.0, same_bool_lem _ _ both.1)

pub route_halves : (c : CenteredAABB) (r : AABB) (i : ℕ) → i ≡ route_cell c r → (i ≡ 0 → ⊥)
    → (right_of c r ≡ (eqb i 2 || eqb i 4)) × (bottom_of c r ≡ leb 3 i)
unfolding route_cell
route_halves c r i e ne = rw e (quadrant_halves (left_of c r) (right_of c r) (top_of c r) (bottom_of c r) (λ z. ne (e ∙ z)))

code-le : (l r t b : Bool) → code_of l r t b ≤ 31
code-le l r t b = leb-true _ _ (all-four (λ l r t b. leb (code_of l r t b) 31) refl l r t b)

abbrev opens_at : ℕ → Bool → Bool → Bool → Bool → Bool
opens_at i l r t b = same_bool (bit_at (code_of l r t b) i) (both_tests l r t b i)

pub code-opens : (l r t b : Bool) (i : ℕ) → 1 ≤ i → bit_at (code_of l r t b) i ≡ both_tests l r t b i
unfolding bit_at both_tests
code-opens l r t b zero h = absurd (omega arith)
code-opens l r t b (suc zero) h = same_bool_lem _ _ (all-four (opens_at 1) refl l r t b)
code-opens l r t b (suc (suc zero)) h = same_bool_lem _ _ (all-four (opens_at 2) refl l r t b)
code-opens l r t b (suc (suc (suc zero))) h = same_bool_lem _ _ (all-four (opens_at 3) refl l r t b)
code-opens l r t b (suc (suc (suc (suc zero)))) h = same_bool_lem _ _ (all-four (opens_at 4) refl l r t b)
code-opens l r t b (suc (suc (suc (suc (suc n))))) h =
    let i = suc (suc (suc (suc (suc n)))) in
    let other : (k : ℕ) → k ≤ 4 → eqb i k ≡ false = λ k h. ne_eqb i k (λ e. omega arith) in
    rw (other 0 (omega arith), other 1 (omega arith), other 2 (omega arith), other 3 (omega arith), other 4 (omega arith))
    (high_bit 5 (code_of l r t b) i (omega (arith, code-le l r t b)) (omega arith))

pub route-code : (c : CenteredAABB) (r : AABB) → bit_place (cell_code c r) ≡ route_cell c r
unfolding route_cell
route-code c r = code-number (left_of c r) (right_of c r) (top_of c r) (bottom_of c r)

pub opens-code : (c : CenteredAABB) (q : AABB) (i : ℕ) → (eqb i 0 || bit_at (cell_code c q) i) ≡ opens_cell c q i
unfolding both_tests
opens-code c q i =
    by_bool (eqb i 0)
    (λ e. rw e refl)
    (λ e. (λ j. e j || bit_at (cell_code c q) i) ∙ code-opens (left_of c q) (right_of c q) (top_of c q) (bottom_of c q) i (omega (arith, eqb-false i 0 e)))
