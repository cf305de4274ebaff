-- How many elements a filter keeps.
--     filter-few           at most all
--     filter-all, all_filter       all exactly if each has the property
use Rattle.std.specs.Prelude.{◌≡◌, refl, Bool, true, List, [], ◌∷◌, suc, ◌≤◌, length}
use Rattle.std.proofs.Common.{ap, arith}
use Rattle.arithmetic.proofs.Laws.Tests.{by_bool}
use Rattle.model.specs.Lists.{filter, All}

module _ {A : Type 0} (p : A → Bool) where
  pub filter-few : (xs : List A) → length (filter p xs) ≤ length xs
  filter-few [] = omega arith
  filter-few (x ∷ xs) = by_bool (p x) (λ e. rw e (omega (arith, filter-few xs))) (λ e. rw e (omega (arith, filter-few xs)))

  pub filter-all : (xs : List A) → All (λ x. p x ≡ true) xs → length (filter p xs) ≡ length xs
  filter-all [] a = refl
  filter-all (x ∷ xs) a = rw a.0 (ap suc (filter-all xs a.1))

  pub all_filter : (xs : List A) → length (filter p xs) ≡ length xs → All (λ x. p x ≡ true) xs
  all_filter [] e = tt
  all_filter (x ∷ xs) e =
      by_bool (p x)
      (λ t. let rest : length (filter p xs) ≡ length xs = omega (arith, rw t at e) in (t, all_filter xs rest))
      (λ t. absurd (omega (arith, rw t at e, filter-few xs)))
