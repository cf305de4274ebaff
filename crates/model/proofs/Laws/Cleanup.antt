-- Laws of the cleanup: it keeps dots, groups and rules; it says no just on clean trees; on a tree at most n high the (n + 1)th in a row says no.
--     clean-sum, clean-groups      every weight sums to the same over the dots, and over the groups in the tree and free together
--     clean_all, clean-valid       what it keeps
--     no-clean, clean-no   it says no if and only if the tree is clean
--     Tidy, shallow-tidy, tidy-clean, tidy-zero    every branch with no dot is at most n high; a cleanup takes a level off
use Rattle.std.specs.Prelude.{◌≡◌, refl, List, [], ◌∷◌, true, false, ℕ, zero, suc, ◌+◌, ◌≤◌, ◌<◌}
use Rattle.std.proofs.Common.{ap, sym, ◌∙◌, le_refl, arith}
use Rattle.std.proofs.Math.Decide.{dec_le}
use Rattle.geometry.specs.declared.settings.Settings.{Settings}
use Rattle.geometry.specs.declared.node_data.NodeData.{NodeData}
use Rattle.model.specs.Sums.{sum_over, sum_below}
use Rattle.model.proofs.Laws.Sums.{sum_over-one, sum_below_ext, sum_below_term, sum_below-zero, sum_below-some, by_dec}
use Rattle.arithmetic.proofs.Laws.Tests.{by_bool, true_false}
use Rattle.model.specs.Trees.{Placed, Tree, leaf, branch, sum_dots, sum_groups, AllDots, Shallow, size}
use Rattle.model.specs.Insert.{route_dot}
use Rattle.geometry.specs.Cells.{child_data}
use Rattle.model.specs.Cleanup.{is_zero, busy, all_empty, clean_tree, down_from, freed_by, turned}
use Rattle.model.proofs.Laws.Trees.{shallow-le}
use Rattle.model.proofs.Laws.Query.{Clean, clean-live}
use Rattle.model.specs.Shapes.{WellFormed}

pub zero_is : (n : ℕ) → is_zero n ≡ true → n ≡ 0
zero_is zero e = refl
zero_is (suc n) e = true_false (sym e)

pub zero-not : (n : ℕ) → is_zero n ≡ false → 1 ≤ n
zero-not zero e = true_false e
zero-not (suc n) e = omega arith

busy-zero : (t : Tree) → busy t ≡ 0 → t ≡ leaf []
busy-zero (leaf []) e = refl
busy-zero (leaf (d ∷ c)) e = absurd (omega arith)
busy-zero (branch g f) e = absurd (omega arith)

pub children-empty : (f : ℕ → Tree) → sum_below 5 (λ i. busy (f i)) ≡ 0 → (i : ℕ) → i < 5 → f i ≡ leaf []
children-empty f e i b = busy-zero (f i) (omega (arith, sum_below_term 5 (λ j. busy (f j)) i b))

-- ---- the dots stay

pub clean-sum : (h : Placed → ℕ) (t : Tree) → sum_dots h (clean_tree t) ≡ sum_dots h t
clean-sum h (leaf c) = refl
clean-sum h (branch g f) =
    by_bool (all_empty f)
    (λ e. rw e (sym (sum_below-zero 5 (λ i. sum_dots h (f i)) (λ i b. ap (sum_dots h) (children-empty f (zero_is _ e) i b)))))
    (λ e. rw e (sum_below_ext 5 (λ i. sum_dots h (clean_tree (f i))) (λ i. sum_dots h (f i)) (λ i b. clean-sum h (f i))))

-- ---- saying no, and how soon

pub no-clean : (t : Tree) → turned t ≡ 0 → Clean t
no-clean (leaf c) e = tt
no-clean (branch g f) e =
    by_bool (all_empty f)
    (λ z. absurd (omega (arith, rw z at e)))
    (λ z. let s : sum_below 5 (λ i. turned (f i)) ≡ 0 = rw z at e in
    (zero-not _ z, λ i b. no-clean (f i) (omega (arith, sum_below_term 5 (λ j. turned (f j)) i b))))

pub clean-no : (t : Tree) → Clean t → turned t ≡ 0
clean-no (leaf c) k = refl
clean-no (branch g f) k =
    by_bool (all_empty f)
    (λ z. absurd (omega (arith, zero_is (sum_below 5 (λ i. busy (f i))) z, k.0)))
    (λ z. rw z (sum_below-zero 5 (λ i. turned (f i)) (λ i b. clean-no (f i) (k.1 i b))))

-- every branch with no dot is at most n high
abbrev pub Tidy : ℕ → Tree → Type 0
Tidy n (leaf c) = Unit {0}
Tidy n (branch g f) = (size (branch g f) ≡ 0 → Shallow n (branch g f)) × ((i : ℕ) → i < 5 → Tidy n (f i))

pub tidy-suc : (n : ℕ) (t : Tree) → Tidy n t → Tidy (suc n) t
tidy-suc n (leaf c) s = tt
tidy-suc n (branch g f) s = (λ z. shallow-le n (suc n) (branch g f) (omega arith) (s.0 z), λ i b. tidy-suc n (f i) (s.1 i b))

pub tidy_any : (n : ℕ) (t : Tree) → Tidy 0 t → Tidy n t
tidy_any zero t s = s
tidy_any (suc n) t s = tidy-suc n t (tidy_any n t s)

pub shallow-tidy : (n : ℕ) (t : Tree) → Shallow n t → Tidy n t
shallow-tidy n (leaf c) s = tt
shallow-tidy zero (branch g f) s = absurd s
shallow-tidy (suc n) (branch g f) s = (λ z. s, λ i b. tidy-suc n (f i) (shallow-tidy n (f i) (s i b)))

dead_child : (f : ℕ → Tree) → sum_below 5 (λ i. size (f i)) ≡ 0 → (i : ℕ) → i < 5 → size (f i) ≡ 0
dead_child f z i b = omega (arith, sum_below_term 5 (λ j. size (f j)) i b)

flat-busy : (t : Tree) → Shallow 0 t → size t ≡ 0 → busy t ≡ 0
flat-busy (leaf c) s z = omega (arith, sum_over-one c)
flat-busy (branch g f) s z = absurd s

shrink : (n : ℕ) (t : Tree) → Shallow (suc n) t → size t ≡ 0 → Shallow n (clean_tree t)
shrink n (leaf c) s z = tt
shrink zero (branch g f) s z =
    rw (ap is_zero (sum_below-zero 5 (λ i. busy (f i)) (λ i b. flat-busy (f i) (s i b) (dead_child f z i b)))) tt
shrink (suc n) (branch g f) s z =
    by_bool (all_empty f)
    (λ e. rw e tt)
    (λ e. rw e (λ i b. shrink n (f i) (s i b) (dead_child f z i b)))

pub tidy-clean : (n : ℕ) (t : Tree) → Tidy (suc n) t → Tidy n (clean_tree t)
tidy-clean n (leaf c) d = tt
tidy-clean n (branch g f) d =
    by_bool (all_empty f)
    (λ e. rw e tt)
    (λ e.
    let same : size (branch g (λ i. clean_tree (f i))) ≡ size (branch g f) =
    sum_below_ext 5 (λ i. size (clean_tree (f i))) (λ i. size (f i)) (λ i b. clean-sum (λ x. 1) (f i)) in
    let k : Shallow (suc n) (branch g f) → size (branch g f) ≡ 0 → Shallow n (branch g (λ i. clean_tree (f i))) = λ s z. rw e at (shrink n (branch g f) s z) in
    rw e ((λ z. k (d.0 (sym same ∙ z)) (sym same ∙ z)), λ i b. tidy-clean n (f i) (d.1 i b)))

pub tidy-zero : (t : Tree) → Tidy 0 t → Clean t
tidy-zero (leaf c) d = tt
tidy-zero (branch g f) d =
    let live : 1 ≤ sum_below 5 (λ i. size (f i)) =
    by_dec (dec_le 1 (sum_below 5 (λ i. size (f i)))) (λ h. h) (λ h. absurd (d.0 (omega arith))) in
    let s = sum_below-some 5 (λ i. size (f i)) live in
    (omega (arith, sum_below_term 5 (λ i. busy (f i)) s.0 s.1, size-busy (f s.0) s.2), λ i b. tidy-zero (f i) (d.1 i b))
  where
    size-busy : (t : Tree) → 1 ≤ size t → 1 ≤ busy t
    size-busy (leaf c) h = omega (arith, sum_over-one c)
    size-busy (branch g f) h = omega arith

down-sum : (h : ℕ → ℕ) (n : ℕ) (f : ℕ → Tree) (free : List ℕ)
    → ((i : ℕ) (x : List ℕ) → sum_groups h (clean_tree (f i)) + sum_over h (freed_by (f i) x) ≡ sum_groups h (f i) + sum_over h x)
    → sum_below n (λ i. sum_groups h (clean_tree (f i))) + sum_over h (down_from n (λ i x. freed_by (f i) x) free)
    ≡ sum_below n (λ i. sum_groups h (f i)) + sum_over h free
down-sum h zero f free ih = omega arith
down-sum h (suc n) f free ih = omega (arith, down-sum h n f (freed_by (f n) free) ih, ih n free)

pub clean-groups : (h : ℕ → ℕ) (t : Tree) (free : List ℕ) → sum_groups h (clean_tree t) + sum_over h (freed_by t free) ≡ sum_groups h t + sum_over h free
clean-groups h (leaf c) free = refl
clean-groups h (branch g f) free =
    by_bool (all_empty f)
    (λ e. rw e (omega (arith, sum_below-zero 5 (λ i. sum_groups h (f i)) (λ i b. ap (sum_groups h) (children-empty f (zero_is _ e) i b)))))
    (λ e. rw e (omega (arith, down-sum h 5 f free (λ i x. clean-groups h (f i) x))))

pub clean_all : (P : Placed → Type 0) (t : Tree) → AllDots P t → AllDots P (clean_tree t)
clean_all P (leaf c) a = a
clean_all P (branch g f) a = by_bool (all_empty f) (λ e. rw e tt) (λ e. rw e (λ i b. clean_all P (f i) (a i b)))

pub clean-tidy : (t : Tree) → Clean t → Tidy 0 t
clean-tidy (leaf c) k = tt
clean-tidy (branch g f) k = ((λ z. absurd (omega (arith, clean-live (branch g f) k (le_refl 1)))), λ i b. clean-tidy (f i) (k.1 i b))

module _ (S : Settings) where
  pub clean-valid : (c : NodeData) (t : Tree) → WellFormed S c t → WellFormed S c (clean_tree t)
  clean-valid c (leaf ds) v = v
  clean-valid c (branch g f) v =
      by_bool (all_empty f)
      (λ e. rw e (tt, λ m. omega arith))
      (λ e.
      let child : (i : ℕ) → i < 5 → AllDots (λ d. route_dot c d ≡ i) (clean_tree (f i)) × WellFormed S (child_data c i) (clean_tree (f i)) =
      λ i b. (clean_all (λ d. route_dot c d ≡ i) (f i) (v.1 i b).0, clean-valid (child_data c i) (f i) (v.1 i b).1) in
      rw e (v.0, child, λ i b. ap clean_tree (v.2 i b)))
