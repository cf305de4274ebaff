-- Laws of lists in the order of a walk.
--     join_below_ext, length-join_below, length-join, length-up_to    lists joined
--     filter-append, filter_none, filter_ext, filter_twice, filter-join_below, filter-le, sum-filter    lists filtered
--     all_map, all_append, all-join_below       what holds of every element
--     sum_over-join_below, sum_over-join_over, sum_over-zero, sum_over-all       a sum over a joined list; weights that are 0, or agree, throughout
--     join_over-append, join_over-join_below      lists joined over a joined list
--     filter_any, filter-sublist, sublist-map  what every element passes; a filtered list is a sublist
--     map-append, length-map
use Rattle.std.specs.Prelude.{◌≡◌, refl, List, [], ◌∷◌, ◌++◌, map, Bool, true, false, cond, ◌&&◌, ℕ, zero, suc, ◌*◌, ◌≤◌, ◌<◌, length}
use Rattle.std.proofs.Common.{ap, ap₂, sym, ◌∙◌, append_assoc, le_refl, zero-mul, suc-mul, arith, length-append}
use Rattle.arithmetic.proofs.Laws.Tests.{by_bool}
use Rattle.model.specs.Sums.{sum_over, sum_below}
use Rattle.model.specs.Lists.{join_below, join_over, filter, All, up_to, Sublist, empty, taken, left_out}
use Rattle.model.proofs.Laws.Sums.{sum_over-append}

module _ {ℓ} {A : Type ℓ} where
  pub join_below_ext : (n : ℕ) (f g : ℕ → List A) → ((i : ℕ) → i < n → f i ≡ g i) → join_below n f ≡ join_below n g
  join_below_ext zero f g e = refl
  join_below_ext (suc n) f g e = ap₂ (λ (x y : List A). x ++ y) (join_below_ext n f g (λ i h. e i (omega arith))) (e n (le_refl (suc n)))

  pub filter-append : (p : A → Bool) (xs ys : List A) → filter p (xs ++ ys) ≡ filter p xs ++ filter p ys
  filter-append p [] ys = refl
  filter-append p (x ∷ xs) ys = go (p x) (filter-append p xs ys)
    where
      go : (b : Bool) → filter p (xs ++ ys) ≡ filter p xs ++ filter p ys
          → cond b (x ∷ filter p (xs ++ ys)) (filter p (xs ++ ys)) ≡ cond b (x ∷ filter p xs) (filter p xs) ++ filter p ys
      go true e = ap (λ (r : List A). x ∷ r) e
      go false e = e

  pub filter_none : (p : A → Bool) (xs : List A) → All (λ x. p x ≡ false) xs → filter p xs ≡ []
  filter_none p [] a = refl
  filter_none p (x ∷ xs) a = rw a.0 (filter_none p xs a.1)

  pub filter_ext : (p r : A → Bool) (xs : List A) → All (λ x. p x ≡ r x) xs → filter p xs ≡ filter r xs
  filter_ext p r [] a = refl
  filter_ext p r (x ∷ xs) a = rw (a.0, filter_ext p r xs a.1) refl

  pub filter_twice : (p r : A → Bool) (xs : List A) → filter (λ x. p x && r x) xs ≡ filter r (filter p xs)
  filter_twice p r [] = refl
  filter_twice p r (x ∷ xs) = by_bool (p x) (λ e. rw (e, filter_twice p r xs) refl) (λ e. rw (e, filter_twice p r xs) refl)

  pub filter-join_below : (p : A → Bool) (n : ℕ) (f : ℕ → List A) → filter p (join_below n f) ≡ join_below n (λ i. filter p (f i))
  filter-join_below p zero f = refl
  filter-join_below p (suc n) f = filter-append p (join_below n f) (f n) ∙ ap (λ (r : List A). r ++ filter p (f n)) (filter-join_below p n f)

  pub all_map : (P Q : A → Type 0) → ((x : A) → P x → Q x) → (xs : List A) → All P xs → All Q xs
  all_map P Q f [] a = tt
  all_map P Q f (x ∷ xs) a = (f x a.0, all_map P Q f xs a.1)

  pub all_append : (P : A → Type 0) (xs ys : List A) → All P xs → All P ys → All P (xs ++ ys)
  all_append P [] ys a b = b
  all_append P (x ∷ xs) ys a b = (a.0, all_append P xs ys a.1 b)

  pub all-join_below : (P : A → Type 0) (n : ℕ) (f : ℕ → List A) → ((i : ℕ) → i < n → All P (f i)) → All P (join_below n f)
  all-join_below P zero f a = tt
  all-join_below P (suc n) f a = all_append P (join_below n f) (f n) (all-join_below P n f (λ i h. a i (omega arith))) (a n (le_refl (suc n)))

  pub sum_over-join_below : (h : A → ℕ) (n : ℕ) (f : ℕ → List A) → sum_over h (join_below n f) ≡ sum_below n (λ i. sum_over h (f i))
  sum_over-join_below h zero f = refl
  sum_over-join_below h (suc n) f = omega (arith, sum_over-append h (join_below n f) (f n), sum_over-join_below h n f)

  pub sum_over-zero : (h : A → ℕ) (xs : List A) → All (λ x. h x ≡ 0) xs → sum_over h xs ≡ 0
  sum_over-zero h [] a = refl
  sum_over-zero h (x ∷ xs) a = omega (arith, a.0, sum_over-zero h xs a.1)

  -- two weights that agree on what holds of every element
  pub sum_over-all : {P : A → Type 0} (h k : A → ℕ) (xs : List A) → ((x : A) → P x → h x ≡ k x) → All P xs → sum_over h xs ≡ sum_over k xs
  sum_over-all h k [] e a = refl
  sum_over-all h k (x ∷ xs) e a = omega (arith, e x a.0, sum_over-all h k xs e a.1)

  pub filter-le : (h : A → ℕ) (p : A → Bool) (xs : List A) → sum_over h (filter p xs) ≤ sum_over h xs
  filter-le h p [] = omega arith
  filter-le h p (x ∷ xs) = by_bool (p x) (λ e. rw e (omega (arith, filter-le h p xs))) (λ e. rw e (omega (arith, filter-le h p xs)))

  pub sum-filter : (h : A → ℕ) (p : A → Bool) (xs : List A) → sum_over h (filter p xs) ≡ sum_over (λ x. cond (p x) (h x) 0) xs
  sum-filter h p [] = refl
  sum-filter h p (x ∷ xs) = by_bool (p x) (λ e. rw e (omega (arith, sum-filter h p xs))) (λ e. rw e (omega (arith, sum-filter h p xs)))

pub filter_any : {A : Type 0} (xs : List A) → filter (λ x. true) xs ≡ xs
filter_any [] = refl
filter_any (x ∷ xs) = ap (λ r. x ∷ r) (filter_any xs)

pub filter-sublist : {A : Type 0} (p : A → Bool) (xs : List A) → Sublist (filter p xs) xs
filter-sublist p [] = empty
filter-sublist p (x ∷ xs) = by_bool (p x) (λ e. rw e (taken (filter-sublist p xs))) (λ e. rw e (left_out (filter-sublist p xs)))

pub sublist-map : {A B : Type 0} (f : A → B) {xs ys : List A} → Sublist xs ys → Sublist (map f xs) (map f ys)
sublist-map f empty = empty
sublist-map f (taken s) = taken (sublist-map f s)
sublist-map f (left_out s) = left_out (sublist-map f s)

pub map-append : {A B : Type 0} (f : A → B) (xs ys : List A) → map f (xs ++ ys) ≡ map f xs ++ map f ys
map-append f [] ys = refl
map-append f (x ∷ xs) ys = ap (λ r. f x ∷ r) (map-append f xs ys)

pub sum_over-join_over : {A B : Type 0} (h : B → ℕ) (f : A → List B) (xs : List A) → sum_over h (join_over f xs) ≡ sum_over (λ a. sum_over h (f a)) xs
sum_over-join_over h f [] = refl
sum_over-join_over h f (x ∷ xs) = omega (arith, sum_over-append h (f x) (join_over f xs), sum_over-join_over h f xs)

pub join_over-append : {A B : Type 0} (h : A → List B) (xs ys : List A) → join_over h (xs ++ ys) ≡ join_over h xs ++ join_over h ys
join_over-append h [] ys = refl
join_over-append {B = B} h (x ∷ xs) ys =
    ap (λ (r : List B). h x ++ r) (join_over-append h xs ys) ∙ sym (append_assoc (h x) (join_over h xs) (join_over h ys))

pub join_over-join_below : {A B : Type 0} (h : A → List B) (n : ℕ) (f : ℕ → List A) → join_over h (join_below n f) ≡ join_below n (λ i. join_over h (f i))
join_over-join_below h zero f = refl
join_over-join_below {B = B} h (suc n) f =
    join_over-append h (join_below n f) (f n) ∙ ap (λ (r : List B). r ++ join_over h (f n)) (join_over-join_below h n f)

pub length-map : {A B : Type 0} (f : A → B) (xs : List A) → length (map f xs) ≡ length xs
length-map f [] = refl
length-map f (x ∷ xs) = ap suc (length-map f xs)

pub length-join : {A : Type 0} (n : ℕ) (f : ℕ → List A) → length (join_below n f) ≡ sum_below n (λ i. length (f i))
length-join zero f = refl
length-join (suc n) f = omega (arith, length-append (join_below n f) (f n), length-join n f)

-- rows of equal length, joined
pub length-join_below : {A : Type 0} (n k : ℕ) (f : ℕ → List A) → ((i : ℕ) → length (f i) ≡ k) → length (join_below n f) ≡ n * k
length-join_below zero k f e = sym (zero-mul k)
length-join_below (suc n) k f e = omega (arith, length-append (join_below n f) (f n), length-join_below n k f e, e n, suc-mul n k)

pub length-up_to : (n : ℕ) → length (up_to n) ≡ n
length-up_to zero = refl
length-up_to (suc n) = omega (arith, length-append (up_to n) (n ∷ []), length-up_to n)
