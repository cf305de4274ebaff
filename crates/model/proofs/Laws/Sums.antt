-- Laws of sums and of the indicator.
--     by_dec        by cases on a decision
--     indicator-.. 1 at its number, 0 at any other
--     sumOver-..   a sum over a list
--     sumBelow-..  a sum over the numbers below n: its terms, sums of sums, multiples, swapped with a sum over a list, in parts, over a list's entries
--     changed-..   one place of a function is changed, and what that does to a sum
use Rattle.std.specs.Prelude.{◌≡◌, ◌≢◌, List, [], ◌∷◌, ◌++◌, map, ℕ, zero, suc, ◌+◌, ◌*◌, ◌≤◌, ◌<◌, ◌-◌, ◌%◌, length, get_or}
use Rattle.std.proofs.Math.Path.{refl}
use Rattle.std.proofs.Common.{ap, sym, ◌∙◌, subst, not-suc-le-zero, le_refl, add-zero, add-suc, mul-add, mul-zero, mul-suc, arith, eq-eqb, ne_eqb}
use Rattle.std.proofs.Math.Decide.{ℕ_discrete, dec_le}
use Rattle.model.specs.Sums.{indicator, sum_over, sum_below, changed}

-- where a `where` helper could not make the recursive call
pub by_dec {ℓ κ} : {A : Type ℓ} {B : Type κ} → Dec A → (A → B) → ((A → ⊥) → B) → B
by_dec (yes a) f g = f a
by_dec (no n) f g = g n

-- ---- the indicator

pub indicator-same : (k : ℕ) → indicator k k ≡ 1
unfolding indicator
indicator-same k = rw (eq-eqb k k refl) refl

pub indicator_other : (k x : ℕ) → k ≢ x → indicator k x ≡ 0
unfolding indicator
indicator_other k x ne = rw (ne_eqb k x ne) refl

pub indicator-eq : (k x : ℕ) → 1 ≤ indicator k x → k ≡ x
indicator-eq k x h = go (ℕ_discrete k x)
  where
    go : Dec (k ≡ x) → k ≡ x
    go (yes e) = e
    go (no ne) = absurd (omega (arith, indicator_other k x ne))

pub indicator-le : (k x : ℕ) → indicator k x ≤ 1
indicator-le k x = go (ℕ_discrete k x)
  where
    go : Dec (k ≡ x) → indicator k x ≤ 1
    go (yes e) = rw e (omega (arith, indicator-same x))
    go (no ne) = omega (arith, indicator_other k x ne)

-- ---- a sum over a list

module _ {ℓ} {A : Type ℓ} where
  pub sum_over-append : (h : A → ℕ) (xs ys : List A) → sum_over h (xs ++ ys) ≡ sum_over h xs + sum_over h ys
  sum_over-append h [] ys = omega arith
  sum_over-append h (x ∷ xs) ys = omega (arith, sum_over-append h xs ys)

  pub sum_over-one : (xs : List A) → sum_over (λ x. 1) xs ≡ length xs
  sum_over-one [] = refl
  sum_over-one (x ∷ xs) = omega (arith, sum_over-one xs)

  pub sum_over-le : (h k : A → ℕ) (xs : List A) → ((x : A) → h x ≤ k x) → sum_over h xs ≤ sum_over k xs
  sum_over-le h k [] e = omega arith
  sum_over-le h k (x ∷ xs) e = omega (arith, e x, sum_over-le h k xs e)

pub sum_over-map : {A B : Type 0} (h : B → ℕ) (f : A → B) (xs : List A) → sum_over h (map f xs) ≡ sum_over (λ x. h (f x)) xs
sum_over-map h f [] = refl
sum_over-map h f (x ∷ xs) = omega (arith, sum_over-map h f xs)

pub sum_over-mul : {A : Type 0} (n : ℕ) (h : A → ℕ) (xs : List A) → sum_over (λ x. n * h x) xs ≡ n * sum_over h xs
sum_over-mul n h [] = sym (mul-zero n)
sum_over-mul n h (x ∷ xs) = omega (arith, sum_over-mul n h xs, mul-add n (h x) (sum_over h xs))

-- ---- a sum over the numbers below n

pub sum_below_ext : (n : ℕ) (f g : ℕ → ℕ) → ((i : ℕ) → i < n → f i ≡ g i) → sum_below n f ≡ sum_below n g
sum_below_ext zero f g e = refl
sum_below_ext (suc n) f g e = omega (arith, e n (le_refl (suc n)), sum_below_ext n f g (λ i h. e i (omega arith)))

pub sum_below-le : (n : ℕ) (f g : ℕ → ℕ) → ((i : ℕ) → i < n → f i ≤ g i) → sum_below n f ≤ sum_below n g
sum_below-le zero f g e = omega arith
sum_below-le (suc n) f g e = omega (arith, e n (le_refl (suc n)), sum_below-le n f g (λ i h. e i (omega arith)))

pub sum_below-add : (n : ℕ) (f g : ℕ → ℕ) → sum_below n (λ i. f i + g i) ≡ sum_below n f + sum_below n g
sum_below-add zero f g = refl
sum_below-add (suc n) f g = omega (arith, sum_below-add n f g)

pub sum_below-mul : (k n : ℕ) (f : ℕ → ℕ) → sum_below k (λ i. n * f i) ≡ n * sum_below k f
sum_below-mul zero n f = sym (mul-zero n)
sum_below-mul (suc k) n f = omega (arith, sum_below-mul k n f, mul-add n (sum_below k f) (f k))

pub sum_below-one : (n : ℕ) → sum_below n (λ k. 1) ≡ n
sum_below-one zero = refl
sum_below-one (suc n) = omega (arith, sum_below-one n)

-- a term is at most the sum, and two different terms are
pub sum_below_term : (n : ℕ) (f : ℕ → ℕ) (c : ℕ) → c < n → f c ≤ sum_below n f
sum_below_term zero f c h = omega arith
sum_below_term (suc n) f c h =
    by_dec (ℕ_discrete c n) (λ e. omega (arith, ap f e)) (λ ne. omega (arith, sum_below_term n f c (omega arith)))

-- the last term, and the others
pub sum_below-last : (n : ℕ) → ¬ (n ≡ 0) → (f : ℕ → ℕ) → sum_below n f ≡ f (n - 1) + sum_below (n - 1) f
sum_below-last n some f = let e : n ≡ suc (n - 1) = omega arith in omega (arith, ap (λ (k : ℕ). sum_below k f) e)

pub sum_below-two : (n : ℕ) (f : ℕ → ℕ) (c j : ℕ) → c < n → j < n → c ≢ j → f c + f j ≤ sum_below n f
sum_below-two zero f c j h k ne = omega arith
sum_below-two (suc n) f c j h k ne =
    by_dec (ℕ_discrete c n)
    (λ e. by_dec (ℕ_discrete j n) (λ e'. absurd (ne (e ∙ sym e'))) (λ m. omega (arith, ap f e, sum_below_term n f j (omega arith))))
    (λ m. by_dec (ℕ_discrete j n)
    (λ e. omega (arith, ap f e, sum_below_term n f c (omega arith)))
    (λ m'. omega (arith, sum_below-two n f c j (omega arith) (omega arith) ne)))

-- a positive sum has a positive term
pub sum_below-some : (n : ℕ) (f : ℕ → ℕ) → 1 ≤ sum_below n f → (i : ℕ) × (i < n) × (1 ≤ f i)
sum_below-some zero f h = absurd (omega arith)
sum_below-some (suc n) f h =
    by_dec (dec_le 1 (f n))
    (λ p. (n, omega arith, p))
    (λ p. let r = sum_below-some n f (omega arith) in (r.0, omega arith, r.2))

pub sum_below-zero : (n : ℕ) (f : ℕ → ℕ) → ((j : ℕ) → j < n → f j ≡ 0) → sum_below n f ≡ 0
sum_below-zero zero f z = refl
sum_below-zero (suc n) f z = omega (arith, z n (le_refl (suc n)), sum_below-zero n f (λ j h. z j (omega arith)))

-- all terms but one are 0
pub sum_below-only : (n : ℕ) (f : ℕ → ℕ) (c : ℕ) → c < n → ((j : ℕ) → j < n → j ≢ c → f j ≡ 0) → sum_below n f ≡ f c
sum_below-only zero f c h z = absurd (not-suc-le-zero h)
sum_below-only (suc n) f c h z =
    by_dec (ℕ_discrete c n)
    (λ e. omega (arith, ap f e, sum_below-zero n f (λ j b. z j (omega arith) (λ e'. omega arith))))
    (λ ne. omega (arith, sum_below-only n f c (omega arith) (λ j b. z j (omega arith)), z n (le_refl (suc n)) (λ e. ne (sym e))))

-- two sums, swapped
pub sum_below_swap : {A : Type 0} (n : ℕ) (h : ℕ → A → ℕ) (xs : List A)
    → sum_below n (λ k. sum_over (h k) xs) ≡ sum_over (λ a. sum_below n (λ k. h k a)) xs
sum_below_swap n h [] = sum_below-zero n (λ k. 0) (λ j b. refl)
sum_below_swap n h (x ∷ xs) = omega (arith, sum_below-add n (λ k. h k x) (λ k. sum_over (h k) xs), sum_below_swap n h xs)

-- ---- a sum in parts

pub sum_below_plus : (a b : ℕ) (f : ℕ → ℕ) → sum_below (a + b) f ≡ sum_below a f + sum_below b (λ i. f (a + i))
sum_below_plus a zero f = rw (add-zero a) (omega arith)
sum_below_plus a (suc b) f = rw (add-suc a b) (omega (arith, sum_below_plus a b f))

-- n terms at a time
pub sum_below-blocks : (n m : ℕ) (f : ℕ → ℕ) → sum_below m (λ j. sum_below n (λ i. f (n * j + i))) ≡ sum_below (n * m) f
sum_below-blocks n zero f = rw (mul-zero n) refl
sum_below-blocks n (suc m) f = rw (mul-suc n m) (omega (arith, sum_below-blocks n m f, sum_below_plus (n * m) n f))

-- terms that repeat every 16
pub sum_below_cycle : (m rest : ℕ) (g : ℕ → ℕ) → rest ≤ 16 → sum_below (16 * m + rest) (λ i. g (i % 16)) ≡ m * sum_below 16 g + sum_below rest g
sum_below_cycle m rest g short =
    let whole : sum_below (16 * m) (λ i. g (i % 16)) ≡ m * sum_below 16 g =
    sym (sum_below-blocks 16 m (λ i. g (i % 16)))
    ∙ sum_below_ext m (λ j. sum_below 16 (λ i. g ((16 * j + i) % 16))) (λ j. sum_below 16 g * 1)
    (λ j b. sum_below_ext 16 (λ i. g ((16 * j + i) % 16)) g (λ i h. ap g (omega arith)) ∙ omega arith)
    ∙ sum_below-mul m (sum_below 16 g) (λ j. 1)
    ∙ ap (λ (k : ℕ). sum_below 16 g * k) (sum_below-one m)
    ∙ omega arith in
    let end : sum_below rest (λ i. g ((16 * m + i) % 16)) ≡ sum_below rest g =
    sum_below_ext rest (λ i. g ((16 * m + i) % 16)) g (λ i h. ap g (omega arith)) in
    omega (arith, sum_below_plus (16 * m) rest (λ i. g (i % 16)), whole, end)

-- over the entries of a list
pub sum_below_entries : (h : ℕ → ℕ) (ts : List ℕ) → sum_below (length ts) (λ i. h (get_or ts i 0)) ≡ sum_over h ts
sum_below_entries h [] = refl
sum_below_entries h (t ∷ ts) = first (length ts) (λ i. h (get_or (t ∷ ts) i 0)) ∙ ap (λ (k : ℕ). h t + k) (sum_below_entries h ts)
  where
    first : (n : ℕ) (f : ℕ → ℕ) → sum_below (suc n) f ≡ f 0 + sum_below n (λ i. f (suc i))
    first zero f = omega arith
    first (suc n) f = omega (arith, first n f)

-- ---- one place of a function is changed

module _ {ℓ} {A : Type ℓ} where
  pub changed-same : (f : ℕ → A) (c : ℕ) (a : A) → changed f c a c ≡ a
  unfolding changed
  changed-same f c a = rw (eq-eqb c c refl) refl

  pub changed_other : (f : ℕ → A) (c : ℕ) (a : A) (j : ℕ) → j ≢ c → changed f c a j ≡ f j
  unfolding changed
  changed_other f c a j ne = rw (ne_eqb j c ne) refl

  -- what a property of each place needs of the changed function
  pub changed-all : (P : ℕ → A → Type 0) (f : ℕ → A) (c : ℕ) (a : A) (j : ℕ) → (j ≡ c → P j a) → (j ≢ c → P j (f j)) → P j (changed f c a j)
  changed-all P f c a j p q = go (ℕ_discrete j c)
    where
      go : Dec (j ≡ c) → P j (changed f c a j)
      go (yes e) = subst (λ (x : A). P j x) (sym (ap (changed f c a) e ∙ changed-same f c a)) (p e)
      go (no ne) = subst (λ (x : A). P j x) (sym (changed_other f c a j ne)) (q ne)

  -- the sum over the places, before and after
  pub sum_below-changed : (n : ℕ) (v : ℕ → A → ℕ) (f : ℕ → A) (c : ℕ) (a : A) → c < n
      → sum_below n (λ i. v i (changed f c a i)) + v c (f c) ≡ sum_below n (λ i. v i (f i)) + v c a
  sum_below-changed zero v f c a h = absurd (not-suc-le-zero h)
  sum_below-changed (suc n) v f c a h =
      by_dec (ℕ_discrete c n)
      (λ e.
      let same : sum_below n (λ i. v i (changed f c a i)) ≡ sum_below n (λ i. v i (f i)) =
      sum_below_ext n _ _ (λ i k. ap (v i) (changed_other f c a i (λ e'. omega arith))) in
      let here : v n (changed f c a n) ≡ v c a = subst (λ (m : ℕ). v m (changed f c a m) ≡ v c a) e (ap (v c) (changed-same f c a)) in
      let old : v n (f n) ≡ v c (f c) = ap (λ (m : ℕ). v m (f m)) (sym e) in
      omega arith)
      (λ ne. omega (arith, sum_below-changed n v f c a (omega arith), ap (v n) (changed_other f c a n (λ e. ne (sym e)))))
