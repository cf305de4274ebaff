-- A subtree at the end of a path, and its replacement.
--     sum_dots-put, sum_groups-put   what that does to every weight
--     tree-put     THE UPDATE LAW of the memory
--     nodes-groups, node-zero      a node stands in the tree as often as its group, node 0 as the root
--     sub-put, put-put, reach-put  a subtree that was put
--     sub_snoc, node_snoc, put_snoc ..     a path one step longer
use Rattle.std.specs.Prelude.{List, [], ◌∷◌, ◌++◌, ◌≡◌, refl, ℕ, ◌<◌, ◌+◌, ◌≤◌}
use Rattle.std.proofs.Common.{sym, ◌∙◌, subst, ap, arith}
use Rattle.std.proofs.Math.Path.{fun_ext}
use Rattle.std.proofs.Math.Decide.{ℕ_discrete}
use Rattle.model.specs.Trees.{Tree, leaf, branch, Placed, child_node, sum_dots, sum_groups, at_place, place_count, group_count}
use Rattle.model.proofs.Laws.Sums.{sum_below_term, sum_below-changed, indicator-same, sum_below-two, changed-all, sum_below_ext}
use Rattle.model.proofs.Laws.Sums.{by_dec, changed-same, changed_other}
use Rattle.model.specs.Sums.{indicator, changed, sum_over}
use Rattle.model.specs.Layout.{NodeEntry, tree_nodes}
use Rattle.model.proofs.Laws.Lists.{sum_over-join_below}
use Rattle.model.proofs.Laws.Entries.{tree-nodes, tree-zero}
use Rattle.model.specs.Memory.{Mem, Represents}
use Rattle.tree.specs.Paths.{Reach, sub, node_at, put}
use Rattle.tree.specs.Trees.{sum_nodes, node_count}
use Rattle.tree.proofs.Laws.Frames.{SamePlace, SameNode, tree_frame}

-- each step of the path is a child's number
abbrev pub Children : List ℕ → Type 0
Children [] = Unit {0}
Children (i ∷ p) = (i < 5) × Children p

pub reach-children : (t : Tree) (p : List ℕ) → Reach t p → Children p
reach-children t [] r = tt
reach-children (leaf c) (i ∷ p) r = absurd r
reach-children (branch g f) (i ∷ p) r = (r.0, reach-children (f i) p r.1)

-- ---- sums

pub sum_dots-put : (h : Placed → ℕ) (t : Tree) (p : List ℕ) (u : Tree) → Children p
    → sum_dots h (put t p u) + sum_dots h (sub t p) ≡ sum_dots h t + sum_dots h u
sum_dots-put h t [] u k = omega arith
sum_dots-put h (leaf c) (i ∷ p) u k = omega arith
sum_dots-put h (branch g f) (i ∷ p) u k =
    omega (arith, sum_dots-put h (f i) p u k.1, sum_below-changed 5 (λ j x. sum_dots h x) f i (put (f i) p u) k.0)

pub sum_groups-put : (h : ℕ → ℕ) (t : Tree) (p : List ℕ) (u : Tree) → Children p
    → sum_groups h (put t p u) + sum_groups h (sub t p) ≡ sum_groups h t + sum_groups h u
sum_groups-put h t [] u k = omega arith
sum_groups-put h (leaf c) (i ∷ p) u k = omega arith
sum_groups-put h (branch g f) (i ∷ p) u k =
    omega (arith, sum_groups-put h (f i) p u k.1, sum_below-changed 5 (λ j x. sum_groups h x) f i (put (f i) p u) k.0)

pub sum_dots-sub : (h : Placed → ℕ) (t : Tree) (p : List ℕ) → Children p → sum_dots h (sub t p) ≤ sum_dots h t
sum_dots-sub h t [] k = omega arith
sum_dots-sub h (leaf c) (i ∷ p) k = omega arith
sum_dots-sub h (branch g f) (i ∷ p) k = omega (arith, sum_dots-sub h (f i) p k.1, sum_below_term 5 (λ j. sum_dots h (f j)) i k.0)

pub sum_nodes-sub : (h : ℕ → ℕ) (a : ℕ) (t : Tree) (p : List ℕ) → Children p → sum_nodes h (node_at a t p) (sub t p) ≤ sum_nodes h a t
sum_nodes-sub h a t [] k = omega arith
sum_nodes-sub h a (leaf c) (i ∷ p) k = omega arith
sum_nodes-sub h a (branch g f) (i ∷ p) k =
    omega (arith, sum_nodes-sub h (child_node g i) (f i) p k.1, sum_below_term 5 (λ j. sum_nodes h (child_node g j) (f j)) i k.0)

-- ---- what the memory holds

pub tree-sub : (m : Mem) (a : ℕ) (t : Tree) (p : List ℕ) → Children p → Represents m a t → Represents m (node_at a t p) (sub t p)
tree-sub m a t [] k r = r
tree-sub m a (leaf c) (i ∷ p) k r = r
tree-sub m a (branch g f) (i ∷ p) k r = tree-sub m (child_node g i) (f i) p k.1 (r.2 i k.0)

-- THE update law: w agrees with m at what t has and its subtree at_place p has not, and holds u where the subtree was
pub tree-put : (m w : Mem) (a : ℕ) (t : Tree) (p : List ℕ) (u : Tree) → Children p
    → ((k : ℕ) → node_count k a t ≤ 1) → ((k : ℕ) → place_count k t ≤ 1)
    → ((k : ℕ) → 1 ≤ node_count k a t → node_count k (node_at a t p) (sub t p) ≡ 0 → SameNode m w k)
    → ((k : ℕ) → 1 ≤ place_count k t → place_count k (sub t p) ≡ 0 → SamePlace m w k)
    → Represents m a t → Represents w (node_at a t p) u → Represents w a (put t p u)
tree-put m w a t [] u k on op sn sp r v = v
tree-put m w a (leaf c) (i ∷ p) u k on op sn sp r v = v
tree-put m w a (branch g f) (i ∷ p) u k on op sn sp r v =
    let N : ℕ → ℕ → ℕ = λ x j. node_count x (child_node g j) (f j) in
    let P : ℕ → ℕ → ℕ = λ x j. place_count x (f j) in
    let b = node_at (child_node g i) (f i) p in
    let s =
    sn a (omega (arith, indicator-same a))
    (omega (arith, indicator-same a, on a, sum_below_term 5 (N a) i k.0, sum_nodes-sub (indicator a) (child_node g i) (f i) p k.1)) in (
      sym s.1 ∙ r.0,
      sym s.0 ∙ r.1,
      λ j jb.
          changed-all (λ (j : ℕ) (x : Tree). Represents w (child_node g j) x) f i (put (f i) p u) j
          (λ e.
          subst (λ (y : ℕ). Represents w (child_node g y) (put (f i) p u)) (sym e)
          (tree-put m w (child_node g i) (f i) p u k.1
          (λ x. omega (arith, on x, sum_below_term 5 (N x) i k.0))
          (λ x. omega (arith, op x, sum_below_term 5 (P x) i k.0))
          (λ x c z. sn x (omega (arith, sum_below_term 5 (N x) i k.0)) z)
          (λ x c z. sp x (omega (arith, sum_below_term 5 (P x) i k.0)) z)
          (r.2 i k.0) v))
          (λ ne.
          tree_frame m w (child_node g j) (f j)
          (λ x c. sn x (omega (arith, sum_below_term 5 (N x) j jb))
          (omega (arith, on x, sum_below-two 5 (N x) j i jb k.0 ne, sum_nodes-sub (indicator x) (child_node g i) (f i) p k.1)))
          (λ x c. sp x (omega (arith, sum_below_term 5 (P x) j jb))
          (omega (arith, op x, sum_below-two 5 (P x) j i jb k.0 ne, sum_dots-sub (at_place x) (f i) p k.1)))
          (r.2 j jb)),
    )

-- ---- a node stands in the tree as often as its group, besides the root

-- the nodes are those of the layout's entries
sum_nodes_entries : (h : ℕ → ℕ) (a : ℕ) (t : Tree) → sum_nodes h a t ≡ sum_over (λ e. h e.node) (tree_nodes a t)
sum_nodes_entries h a (leaf c) = omega arith
sum_nodes_entries h a (branch g f) =
    omega (
      arith,
      sum_over-join_below (λ (e : NodeEntry). h e.node) 5 (λ i. tree_nodes (child_node g i) (f i)),
      sum_below_ext 5 (λ i. sum_nodes h (child_node g i) (f i)) (λ i. sum_over (λ e. h e.node) (tree_nodes (child_node g i) (f i)))
          (λ i b. sum_nodes_entries h (child_node g i) (f i)),
    )

pub nodes-groups : (q r a : ℕ) (t : Tree) → r < 5 → node_count (child_node q r) a t ≡ indicator (child_node q r) a + group_count q t
nodes-groups q r a t b = sum_nodes_entries (indicator (child_node q r)) a t ∙ tree-nodes q r a t b

pub node-zero : (a : ℕ) (t : Tree) → node_count 0 a t ≡ indicator 0 a
node-zero a t = sum_nodes_entries (indicator 0) a t ∙ tree-zero a t

-- ---- a subtree that was put

module _ (u : Tree) where
  pub sub-put : (t : Tree) (p : List ℕ) → Reach t p → sub (put t p u) p ≡ u
  sub-put t [] r = refl
  sub-put (leaf c) (i ∷ p) r = absurd r
  sub-put (branch g f) (i ∷ p) r = ap (λ (x : Tree). sub x p) (changed-same f i (put (f i) p u)) ∙ sub-put (f i) p r.1

  pub reach-put : (t : Tree) (p : List ℕ) → Reach t p → Reach (put t p u) p
  reach-put t [] r = tt
  reach-put (leaf c) (i ∷ p) r = absurd r
  reach-put (branch g f) (i ∷ p) r = (r.0, subst (λ (x : Tree). Reach x p) (sym (changed-same f i (put (f i) p u))) (reach-put (f i) p r.1))

changed-changed : {A : Type 0} (f : ℕ → A) (c : ℕ) (a b : A) → changed (changed f c a) c b ≡ changed f c b
changed-changed {A} f c a b = fun_ext (λ j.
    by_dec (ℕ_discrete j c)
    (λ e. ap (changed (changed f c a) c b) e ∙ changed-same (changed f c a) c b ∙ sym (ap (changed f c b) e ∙ changed-same f c b))
    (λ ne. changed_other (changed f c a) c b j ne ∙ changed_other f c a j ne ∙ sym (changed_other f c b j ne)))

pub put-put : (t : Tree) (p : List ℕ) (u v : Tree) → Reach t p → put (put t p u) p v ≡ put t p v
put-put t [] u v r = refl
put-put (leaf c) (i ∷ p) u v r = absurd r
put-put (branch g f) (i ∷ p) u v r =
    ap (λ (x : Tree). branch g (changed (changed f i (put (f i) p u)) i (put x p v))) (changed-same f i (put (f i) p u))
    ∙ ap (λ (h : ℕ → Tree). branch g h) (changed-changed f i (put (f i) p u) (put (put (f i) p u) p v))
    ∙ ap (λ (x : Tree). branch g (changed f i x)) (put-put (f i) p u v r.1)

-- ---- a path one step longer

module _ (g : ℕ) (f : ℕ → Tree) (i : ℕ) where
  pub sub_snoc : (t : Tree) (p : List ℕ) → Reach t p → sub t p ≡ branch g f → sub t (p ++ i ∷ []) ≡ f i
  sub_snoc t [] r e = ap (λ (x : Tree). sub x (i ∷ [])) e
  sub_snoc (leaf c) (j ∷ p) r e = absurd r
  sub_snoc (branch g' f') (j ∷ p) r e = sub_snoc (f' j) p r.1 e

  pub node_snoc : (a : ℕ) (t : Tree) (p : List ℕ) → Reach t p → sub t p ≡ branch g f → node_at a t (p ++ i ∷ []) ≡ child_node g i
  node_snoc a t [] r e = ap (λ (x : Tree). node_at a x (i ∷ [])) e
  node_snoc a (leaf c) (j ∷ p) r e = absurd r
  node_snoc a (branch g' f') (j ∷ p) r e = node_snoc (child_node g' j) (f' j) p r.1 e

  pub reach_snoc : (t : Tree) (p : List ℕ) → i < 5 → Reach t p → sub t p ≡ branch g f → Reach t (p ++ i ∷ [])
  reach_snoc t [] b r e = subst (λ (x : Tree). Reach x (i ∷ [])) (sym e) (b, tt)
  reach_snoc (leaf c) (j ∷ p) b r e = absurd r
  reach_snoc (branch g' f') (j ∷ p) b r e = (r.0, reach_snoc (f' j) p b r.1 e)

  pub put_snoc : (t : Tree) (p : List ℕ) (u : Tree) → Reach t p → sub t p ≡ branch g f → put t (p ++ i ∷ []) u ≡ put t p (branch g (changed f i u))
  put_snoc t [] u r e = ap (λ (x : Tree). put x (i ∷ []) u) e
  put_snoc (leaf c) (j ∷ p) u r e = absurd r
  put_snoc (branch g' f') (j ∷ p) u r e = ap (λ (x : Tree). branch g' (changed f' j x)) (put_snoc (f' j) p u r.1 e)
