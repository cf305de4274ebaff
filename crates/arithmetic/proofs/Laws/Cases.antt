-- A law of four Bools, or of the numbers below a bound, by a test that computes over all choices.
--     all-four, all-below  what the test holds of each choice
--     same_bool_lem    a test that two Bools are one, as an equation
use Rattle.std.specs.Prelude.{◌≡◌, refl, Bool, true, false, not, cond, ◌&&◌, ℕ, zero, suc, ◌<◌, eqb}
use Rattle.std.proofs.Common.{ap, sym, ◌∙◌, arith, eqb-true}
use Rattle.std.proofs.lemmas.Bool.{eqb-false}
use Rattle.arithmetic.proofs.Laws.Tests.{by_bool}
use Rattle.arithmetic.proofs.Laws.Linear.{and_t}

abbrev pub both : (Bool → Bool) → Bool
both f = f true && f false

both_at : (f : Bool → Bool) → both f ≡ true → (a : Bool) → f a ≡ true
both_at f e true = (and_t (f true) (f false) e).0
both_at f e false = (and_t (f true) (f false) e).1

abbrev pub all_four : (Bool → Bool → Bool → Bool → Bool) → Bool
all_four f = both (λ a. both (λ b. both (λ c. both (f a b c))))

pub all-four : (f : Bool → Bool → Bool → Bool → Bool) → all_four f ≡ true → (a b c d : Bool) → f a b c d ≡ true
all-four f e a b c d =
    let at_a = both_at (λ a. both (λ b. both (λ c. both (f a b c)))) e a in
    let at_b = both_at (λ b. both (λ c. both (f a b c))) at_a b in
    let at_c = both_at (λ c. both (f a b c)) at_b c in
    both_at (f a b c) at_c d

abbrev pub all_below : ℕ → (ℕ → Bool) → Bool
all_below zero f = true
all_below (suc n) f = f n && all_below n f

pub all-below : (n : ℕ) (f : ℕ → Bool) → all_below n f ≡ true → (k : ℕ) → k < n → f k ≡ true
all-below zero f e k h = absurd (omega arith)
all-below (suc n) f e k h =
    let p = and_t (f n) (all_below n f) e in
    by_bool (eqb k n) (λ t. ap f (eqb-true k n t) ∙ p.0) (λ t. all-below n f p.1 k (omega (arith, eqb-false k n t)))

abbrev pub same_bool : Bool → Bool → Bool
same_bool a b = cond a b (not b)

pub same_bool_lem : (a b : Bool) → same_bool a b ≡ true → a ≡ b
same_bool_lem true true e = refl
same_bool_lem true false e = sym e
same_bool_lem false true e = e
same_bool_lem false false e = refl
