-- Cleanup on the tree (§7): one level a call.
--     all_empty     the five children are empty leaves
--     clean_tree    the tree that it leaves
--     freed_by      the free groups that it leaves: the order in which branches are turned
--     turned       how many branches it turns; it says yes where that is not 0
use Rattle.std.specs.Prelude.{List, [], ◌∷◌, Bool, true, false, cond, ℕ, zero, suc, length}
use Rattle.model.specs.Sums.{sum_below}
use Rattle.model.specs.Trees.{Tree, leaf, branch}

abbrev pub is_zero : ℕ → Bool
is_zero zero = true
is_zero (suc n) = false

-- 0 just for an empty leaf
abbrev pub busy : Tree → ℕ
busy (leaf chain) = length chain
busy (branch g f) = 1

-- §7.3: five empty leaves. No child is turned before its parent is visited, so the tree as it was tells.
abbrev pub all_empty : (ℕ → Tree) → Bool
all_empty f = is_zero (sum_below 5 (λ i. busy (f i)))

-- §7.3, §7.4: such a branch becomes an empty leaf; one that becomes such by this call stays
abbrev pub clean_tree : Tree → Tree
clean_tree (leaf chain) = leaf chain
clean_tree (branch g f) = cond (all_empty f) (leaf []) (branch g (λ i. clean_tree (f i)))

-- f (n - 1), then f (n - 2) .. then f 0, each on what the one before left
abbrev pub down_from {ℓ} : {S : Type ℓ} → ℕ → (ℕ → S → S) → S → S
down_from zero f s = s
down_from (suc n) f s = down_from n f (f n s)

-- §7.2, §2.10: a branch first, then what is below child 4, 3, 2, 1; each group freed becomes the head. Child 0 is a leaf and frees nothing.
abbrev pub freed_by : Tree → List ℕ → List ℕ
freed_by (leaf chain) free = free
freed_by (branch g f) free = cond (all_empty f) (g ∷ free) (down_from 5 (λ i already. freed_by (f i) already) free)

-- §7.5: how many were turned; §7.1: none, if the root is a leaf
abbrev pub turned : Tree → ℕ
turned (leaf chain) = 0
turned (branch g f) = cond (all_empty f) 1 (sum_below 5 (λ i. turned (f i)))
