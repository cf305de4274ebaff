-- One floor division of natural numbers, for integers; `natural` is 0 for a negative one.
--     up-natural, one-zero     `natural` by `up`, for `omega`; of a number's `up` and `dn` one is 0
--     ended_by     the multiples (k + 1) × size that are no larger than z are those with k below natural z / size
--     least_step_lem   least_step z size is the least k with z ≤ k × size
use Rattle.std.specs.Prelude.{◌≡◌, refl, ◌↔◌, ◌⊎◌, true, ℕ, suc, ◌*◌, ◌-◌, ◌/◌, ◌≤◌, ◌<◌, ℤ, pos, negsuc, ◌+ℤ◌}
use Rattle.std.proofs.Common.{inl, inr, ⊎_elim, suc-mul, div-lt_iff_lt-mul, arith}
use Rattle.std.specs.Int.Signed.{lt_z, le_z}
use Rattle.arithmetic.specs.Ints.{natural, least_step}
use Rattle.arithmetic.proofs.Laws.Linear.{up, dn, ints, sum}

pub up-natural : (z : ℤ) → natural z ≡ up z
up-natural (pos n) = refl
up-natural (negsuc n) = refl

pub one-zero : (z : ℤ) → (up z ≡ 0) ⊎ (dn z ≡ 0)
one-zero (pos n) = inr refl
one-zero (negsuc n) = inl refl

pub ended_by : (z : ℤ) (size k : ℕ) → 1 ≤ size → (natural z / size ≤ k) ↔ (lt_z z (pos (suc k * size)) ≡ true)
ended_by z size k one =
    let n = natural z in
    let is : n ≡ up z = up-natural z in
    let next = suc-mul k size in (
      λ h. let below : n < suc k * size = (div-lt_iff_lt-mul one).0 (omega arith) in omega (arith, ints),
      λ h.
          let below : n < suc k * size = ⊎_elim (λ e. omega (arith, ints)) (λ e. omega (arith, ints)) (one-zero z) in
          let quotient : n / size < suc k = (div-lt_iff_lt-mul one).1 below in
          omega arith,
    )

pub least_step_lem : (z : ℤ) (size k : ℕ) → 1 ≤ size → (least_step z size ≤ k) ↔ (le_z z (pos (k * size)) ≡ true)
least_step_lem z size k one =
    let raised = z +ℤ pos (size - 1) in
    let law = sum z (pos (size - 1)) in
    let next = suc-mul k size in
    let ended = ended_by raised size k one in
    (λ h. let e = ended.0 h in omega (arith, ints), λ h. ended.1 (omega (arith, ints)))
