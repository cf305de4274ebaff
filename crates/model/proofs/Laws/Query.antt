-- Laws of the query: on a routed tree it lists just the dots of its inks that intersect, in the order of the walk; and how many nodes it opens.
--     Routed       each dot stands in the leaf it routes to
--     hits-filter  the query is a filter of all dots
--     opened-le    it opens at most 1 + 5 nodes a branch
--     leaves-length        six words a leaf
--     Clean, branches_le   a tree that a cleanup leaves alone has at most height × size branches
use Rattle.std.specs.Prelude.{◌≡◌, refl, [], false, cond, ℕ, zero, suc, ◌+◌, ◌*◌, ◌≤◌, ◌<◌, length}
use Rattle.std.proofs.Common.{ap, sym, ◌∙◌, le_refl, suc-mul, arith}
use Rattle.geometry.specs.declared.aabb.AABB.{AABB}
use Rattle.geometry.specs.declared.node_data.NodeData.{NodeData}
use Rattle.model.specs.Sums.{sum_below}
use Rattle.model.proofs.Laws.Sums.{sum_over-one, sum_below-mul, sum_below_ext, sum_below-le, sum_below_term, sum_below-some}
use Rattle.model.specs.Lists.{filter}
use Rattle.model.proofs.Laws.Lists.{length-join, all_map, join_below_ext, filter_none, filter-join_below}
use Rattle.arithmetic.proofs.Laws.Tests.{by_bool, true_false}
use Rattle.model.specs.Trees.{Placed, Tree, leaf, branch, sum_groups, AllDots, Shallow, size, dots}
use Rattle.model.proofs.Laws.Trees.{all_dots-dots}
use Rattle.model.specs.Insert.{route_dot}
use Rattle.model.specs.declared.Window.{Window}
use Rattle.model.specs.Dots.{is_hit}
use Rattle.model.proofs.Laws.Dots.{hit-opens}
use Rattle.geometry.specs.Cells.{child_data, opens}
use Rattle.model.specs.Query.{hits, opened, leaves_of, leaf_count}
use Rattle.model.specs.Cleanup.{busy}

abbrev pub Routed : NodeData → Tree → Type 0
Routed n (leaf chain) = Unit {0}
Routed n (branch g f) = (i : ℕ) → i < 5 → AllDots (λ d. route_dot n d ≡ i) (f i) × Routed (child_data n i) (f i)

module _ (q : Window) where
  shut : (n : NodeData) (i : ℕ) → opens q.rect n i ≡ false → (d : Placed) → route_dot n d ≡ i → is_hit q d.dot ≡ false
  shut n i e d z =
      by_bool (is_hit q d.dot) (λ h. true_false (sym (hit-opens q n d.dot h) ∙ ap (opens q.rect n) z ∙ e)) (λ h. h)

  pub hits-filter : (n : NodeData) (t : Tree) → Routed n t → hits q n t ≡ filter (λ d. is_hit q d.dot) (dots t)
  hits-filter n (leaf ds) r = refl
  hits-filter n (branch g f) r =
      join_below_ext 5 (λ i. cond (opens q.rect n i) (hits q (child_data n i) (f i)) []) (λ i. filter (λ d. is_hit q d.dot) (dots (f i)))
      (λ i b.
      by_bool (opens q.rect n i)
      (λ e. rw e (hits-filter (child_data n i) (f i) (r i b).1))
      (λ e.
      rw e
      (sym (filter_none (λ d. is_hit q d.dot) (dots (f i))
      (all_map (λ d. route_dot n d ≡ i) (λ d. is_hit q d.dot ≡ false) (shut n i e) (dots (f i))
      (all_dots-dots (λ d. route_dot n d ≡ i) (f i) (r i b).0))))))
      ∙ sym (filter-join_below (λ d. is_hit q d.dot) 5 (λ i. dots (f i)))

module _ (q : AABB) where
  pub opened-le : (n : NodeData) (t : Tree) → opened q n t ≤ 1 + 5 * sum_groups (λ g. 1) t
  opened-le n (leaf ds) = omega arith
  opened-le n (branch g f) =
      omega (
        arith,
        sum_below-le 5 (λ i. cond (opens q n i) (opened q (child_data n i) (f i)) 0) (λ i. 1 + 5 * sum_groups (λ g. 1) (f i))
            (λ i b. by_bool (opens q n i) (λ e. rw e (opened-le (child_data n i) (f i))) (λ e. rw e (omega arith))),
      )

-- ---- six words a leaf

-- §9.2: six words a leaf
pub leaves-length : (n : NodeData) (t : Tree) → length (leaves_of n t) ≡ 6 * leaf_count t
leaves-length n (leaf chain) = refl
leaves-length n (branch g f) =
    length-join 4 (λ i. leaves_of (child_data n (1 + i)) (f (1 + i)))
    ∙ sum_below_ext 4 (λ i. length (leaves_of (child_data n (1 + i)) (f (1 + i)))) (λ i. 6 * leaf_count (f (1 + i)))
    (λ i b. leaves-length (child_data n (1 + i)) (f (1 + i)))
    ∙ sum_below-mul 4 6 (λ i. leaf_count (f (1 + i)))

-- ---- trees that a cleanup leaves as they are

abbrev pub Clean : Tree → Type 0
Clean (leaf c) = Unit {0}
Clean (branch g f) = (1 ≤ sum_below 5 (λ i. busy (f i))) × ((i : ℕ) → i < 5 → Clean (f i))

pub clean-live : (t : Tree) → Clean t → 1 ≤ busy t → 1 ≤ size t
clean-live (leaf c) k b = omega (arith, sum_over-one c)
clean-live (branch g f) k b =
    let s = sum_below-some 5 (λ i. busy (f i)) k.0 in
    omega (arith, clean-live (f s.0) (k.1 s.0 s.1) s.2, sum_below_term 5 (λ i. size (f i)) s.0 s.1)

pub branches_le : (n : ℕ) (t : Tree) → Shallow n t → Clean t → sum_groups (λ g. 1) t ≤ n * size t
branches_le n (leaf c) s k = omega arith
branches_le zero (branch g f) s k = absurd s
branches_le (suc n) (branch g f) s k =
    omega (
      arith,
      sum_below-le 5 (λ i. sum_groups (λ g. 1) (f i)) (λ i. n * size (f i)) (λ i b. branches_le n (f i) (s i b) (k.1 i b)),
      sum_below-mul 5 n (λ i. size (f i)),
      suc-mul n (sum_below 5 (λ i. size (f i))),
      clean-live (branch g f) k (le_refl 1),
    )
