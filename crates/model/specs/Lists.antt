-- Lists in the order of a walk: joined over the numbers below n, filtered, and what holds of every element.
--     join_below n f    f 0, f 1 .. f (n - 1), one after another
--     join_over f xs    f of each element, one after another
--     filter p xs      the elements with p, in order
--     All P xs         P of every element
--     up_to n           0, 1 .. n - 1
--     count k xs       how often k stands in xs
--     Permutation xs ys    each number stands as often in both
--     Sublist xs ys    xs is ys with some elements left out
use Rattle.std.specs.Prelude.{◌≡◌, List, [], ◌∷◌, ◌++◌, Bool, cond, ℕ, zero, suc}
use Rattle.model.specs.Sums.{indicator, sum_over}

module _ {ℓ} {A : Type ℓ} where
  abbrev pub join_below : ℕ → (ℕ → List A) → List A
  join_below zero f = []
  join_below (suc n) f = join_below n f ++ f n

  abbrev pub filter : (A → Bool) → List A → List A
  filter p [] = []
  filter p (x ∷ xs) = cond (p x) (x ∷ filter p xs) (filter p xs)

  abbrev pub All : (A → Type 0) → List A → Type 0
  All P [] = Unit {0}
  All P (x ∷ xs) = P x × All P xs

abbrev pub join_over : {A B : Type 0} → (A → List B) → List A → List B
join_over f [] = []
join_over f (x ∷ xs) = f x ++ join_over f xs

abbrev pub up_to : ℕ → List ℕ
up_to n = join_below n (λ k. k ∷ [])

abbrev pub count : ℕ → List ℕ → ℕ
count k xs = sum_over (indicator k) xs

abbrev pub Permutation : List ℕ → List ℕ → Type 0
Permutation xs ys = (k : ℕ) → count k xs ≡ count k ys

pub data Sublist {A : Type 0} : List A → List A → Type 0 where
  empty : Sublist [] []
  taken : {x : A} {xs ys : List A} → Sublist xs ys → Sublist (x ∷ xs) (x ∷ ys)
  left_out : {y : A} {xs ys : List A} → Sublist xs ys → Sublist xs (y ∷ ys)
