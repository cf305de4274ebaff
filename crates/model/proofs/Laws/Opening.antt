-- The opened count is the number of the nodes opened.
--     Opened       the nodes that a query opens: the root; of an opened branch child 0 and each child 1 to 4 with both tests true
--     opened_nodes  the same as a list
--     opened-nodes         THE LAW: the count is the length of a list that has each opened node once, and no other number
use Rattle.std.specs.Prelude.{◌≡◌, refl, ◌↔◌, List, [], ◌∷◌, true, cond, ℕ, ◌+◌, ◌≤◌, ◌<◌, length}
use Rattle.std.proofs.Common.{sym, ◌∙◌, subst, arith}
use Rattle.std.proofs.Math.Decide.{ℕ_discrete}
use Rattle.arithmetic.proofs.Laws.Tests.{by_bool}
use Rattle.geometry.specs.declared.aabb.AABB.{AABB}
use Rattle.geometry.specs.declared.node_data.NodeData.{NodeData}
use Rattle.geometry.specs.Cells.{child_data, opens}
use Rattle.model.specs.Sums.{indicator, sum_over, sum_below}
use Rattle.model.proofs.Laws.Sums.{indicator-same, indicator_other, indicator-eq, sum_over-one, sum_over-append}
use Rattle.model.proofs.Laws.Sums.{sum_below_ext, sum_below-le, sum_below_term, sum_below-some, by_dec}
use Rattle.model.specs.Lists.{join_below, count}
use Rattle.model.proofs.Laws.Lists.{sum_over-join_below}
use Rattle.model.specs.Trees.{Tree, leaf, branch, child_node}
use Rattle.model.specs.Query.{opened}
use Rattle.model.specs.Shapes.{Shape, Valid, root, opens_for}
use Rattle.model.specs.Layout.{tree_nodes, free_group_nodes}
use Rattle.model.proofs.Laws.Entries.{node_is, nodes-once}

-- the tree t stands at the node a, whose data is n; k is the number of an opened node of it
pub data Opened (q : AABB) : NodeData → ℕ → Tree → ℕ → Type 0 where
  here : {n : NodeData} {a : ℕ} {t : Tree} → Opened q n a t a
  below : {n : NodeData} {a g : ℕ} {f : ℕ → Tree} {k : ℕ} (i : ℕ) → i < 5 → opens q n i ≡ true → Opened q (child_data n i) (child_node g i) (f i) k
      → Opened q n a (branch g f) k

module _ (q : AABB) where
  abbrev pub opened_nodes : NodeData → ℕ → Tree → List ℕ
  opened_nodes n a (leaf chain) = a ∷ []
  opened_nodes n a (branch g f) = a ∷ join_below 5 (λ i. cond (opens q n i) (opened_nodes (child_data n i) (child_node g i) (f i)) [])

  -- every weight of the nodes below a branch
  abbrev weight_below : (ℕ → ℕ) → NodeData → ℕ → (ℕ → Tree) → ℕ → ℕ
  weight_below h n g f i = cond (opens q n i) (sum_over h (opened_nodes (child_data n i) (child_node g i) (f i))) 0

  below-sum : (h : ℕ → ℕ) (n : NodeData) (a g : ℕ) (f : ℕ → Tree) → sum_over h (opened_nodes n a (branch g f)) ≡ h a + sum_below 5 (weight_below h n g f)
  below-sum h n a g f =
      let nodes : ℕ → List ℕ = λ i. cond (opens q n i) (opened_nodes (child_data n i) (child_node g i) (f i)) [] in
      omega (
        arith,
        sum_over-join_below h 5 nodes,
        sum_below_ext 5 (λ i. sum_over h (nodes i)) (weight_below h n g f) (λ i b. by_bool (opens q n i) (λ e. rw e refl) (λ e. rw e refl)),
      )

  nodes-length : (n : NodeData) (a : ℕ) (t : Tree) → sum_over (λ k. 1) (opened_nodes n a t) ≡ opened q n t
  nodes-length n a (leaf chain) = refl
  nodes-length n a (branch g f) =
      omega (
        arith,
        below-sum (λ k. 1) n a g f,
        sum_below_ext 5 (weight_below (λ k. 1) n g f) (λ i. cond (opens q n i) (opened q (child_data n i) (f i)) 0)
            (λ i b. by_bool (opens q n i) (λ e. rw e (nodes-length (child_data n i) (child_node g i) (f i))) (λ e. rw e refl)),
      )

  listed-opened : (n : NodeData) (a : ℕ) (t : Tree) (k : ℕ) → 1 ≤ count k (opened_nodes n a t) → Opened q n a t k
  listed-opened n a (leaf chain) k c = subst (λ (y : ℕ). Opened q n y (leaf chain) k) (indicator-eq k a (omega arith)) here
  listed-opened n a (branch g f) k c =
      by_dec (ℕ_discrete k a)
      (λ e. subst (λ (y : ℕ). Opened q n y (branch g f) k) e here)
      (λ ne.
      let s = sum_below-some 5 (weight_below (indicator k) n g f) (omega (arith, below-sum (indicator k) n a g f, indicator_other k a ne)) in
      by_bool (opens q n s.0)
      (λ e. below s.0 s.1 e (listed-opened (child_data n s.0) (child_node g s.0) (f s.0) k (rw e at s.2)))
      (λ e. absurd (omega (arith, rw e at s.2))))

  root-listed : (n : NodeData) (a : ℕ) (t : Tree) → 1 ≤ count a (opened_nodes n a t)
  root-listed n a (leaf chain) = omega (arith, indicator-same a)
  root-listed n a (branch g f) = omega (arith, indicator-same a)

  opened-listed : {n : NodeData} {a : ℕ} {t : Tree} {k : ℕ} → Opened q n a t k → 1 ≤ count k (opened_nodes n a t)
  opened-listed (here {n} {a} {t}) = root-listed n a t
  opened-listed (below {n} {a} {g} {f} {k} i b e o) =
      let term : 1 ≤ weight_below (indicator k) n g f i = rw e (opened-listed o) in
      omega (arith, below-sum (indicator k) n a g f, sum_below_term 5 (weight_below (indicator k) n g f) i b)

  -- an opened node is a node of the tree
  nodes_in-tree : (k : ℕ) (n : NodeData) (a : ℕ) (t : Tree) → count k (opened_nodes n a t) ≤ sum_over (node_is k) (tree_nodes a t)
  nodes_in-tree k n a (leaf chain) = omega arith
  nodes_in-tree k n a (branch g f) =
      omega (
        arith,
        below-sum (indicator k) n a g f,
        sum_over-join_below (node_is k) 5 (λ i. tree_nodes (child_node g i) (f i)),
        sum_below-le 5 (weight_below (indicator k) n g f) (λ i. sum_over (node_is k) (tree_nodes (child_node g i) (f i)))
            (λ i b. by_bool (opens q n i) (λ e. rw e (nodes_in-tree k (child_data n i) (child_node g i) (f i))) (λ e. rw e (omega arith))),
      )

pub record CountsOpened (q : AABB) (x : Shape) (nodes : List ℕ) : Type 0 where
  pub many : opens_for q x ≡ length nodes
  pub once : (k : ℕ) → count k nodes ≤ 1
  pub just : (k : ℕ) → (1 ≤ count k nodes) ↔ Opened q (root x) 0 x.tree k

pub opened-nodes : (q : AABB) (x : Shape) → Valid x → CountsOpened q x (opened_nodes q (root x) 0 x.tree)
unfolding opens_for
opened-nodes q x v =
    let nodes = opened_nodes q (root x) 0 x.tree in
    record {
      many = sym (nodes-length q (root x) 0 x.tree) ∙ sum_over-one nodes;
      once = λ k.
          omega (
            arith,
            nodes_in-tree q k (root x) 0 x.tree,
            sum_over-append (node_is k) (tree_nodes 0 x.tree) (free_group_nodes x.free_groups),
            nodes-once x v k,
          );
      just = λ k. (listed-opened q (root x) 0 x.tree k, opened-listed q);
    }
