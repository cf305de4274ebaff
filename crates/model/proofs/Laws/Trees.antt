-- Laws of trees.
--     sum_dots-dots, all_dots-dots, all_dots-map      a weight over all dots, and what holds of each; length-dots: how many there are
--     shallow-le   a tree is no higher than a greater height
use Rattle.std.specs.Prelude.{◌≡◌, refl, ℕ, zero, suc, ◌≤◌, length}
use Rattle.std.proofs.Common.{sym, ◌∙◌, arith}
use Rattle.model.specs.Sums.{sum_over}
use Rattle.model.specs.Lists.{All}
use Rattle.model.specs.Trees.{Placed, Tree, leaf, branch, sum_dots, size, AllDots, dots, Shallow}
use Rattle.model.proofs.Laws.Sums.{sum_over-one, sum_below_ext}
use Rattle.model.proofs.Laws.Lists.{sum_over-join_below, all_map, all-join_below}

pub sum_dots-dots : (h : Placed → ℕ) (t : Tree) → sum_over h (dots t) ≡ sum_dots h t
sum_dots-dots h (leaf c) = refl
sum_dots-dots h (branch g f) =
    sum_over-join_below h 5 (λ i. dots (f i)) ∙ sum_below_ext 5 (λ i. sum_over h (dots (f i))) (λ i. sum_dots h (f i)) (λ i b. sum_dots-dots h (f i))

pub length-dots : (t : Tree) → length (dots t) ≡ size t
length-dots t = sym (sum_over-one (dots t)) ∙ sum_dots-dots (λ d. 1) t

pub all_dots-dots : (P : Placed → Type 0) (t : Tree) → AllDots P t → All P (dots t)
all_dots-dots P (leaf c) a = a
all_dots-dots P (branch g f) a = all-join_below P 5 (λ i. dots (f i)) (λ i b. all_dots-dots P (f i) (a i b))

pub all_dots-map : (P Q : Placed → Type 0) → ((d : Placed) → P d → Q d) → (t : Tree) → AllDots P t → AllDots Q t
all_dots-map P Q f (leaf c) a = all_map P Q f c a
all_dots-map P Q f (branch g k) a = λ i b. all_dots-map P Q f (k i) (a i b)

pub shallow-le : (n k : ℕ) (t : Tree) → n ≤ k → Shallow n t → Shallow k t
shallow-le n k (leaf c) l s = tt
shallow-le zero k (branch g f) l s = absurd s
shallow-le (suc n) zero (branch g f) l s = absurd (omega arith)
shallow-le (suc n) (suc k) (branch g f) l s = λ i b. shallow-le n k (f i) (omega arith) (s i b)
