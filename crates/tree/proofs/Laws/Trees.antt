-- A tree that stands in the rows, as the walks meet it.
--     not-branch, is-branch        what a test for a branch says of the count
--     node_in-row  the row has the node at which a tree stands
--     mark-no_leaf, shallow-branch where the mark stands there is no leaf, and below a branch a level is left
--     child-stands a branch's child stands a level lower
--     sum_step     a sum over the last children: the first of them, and the others
--     root_stands, root_total      the tree of a memory stands at node 0, and its nodes are few enough to be counted
use Rattle.std.specs.Prelude.{◌≡◌, refl, List, [], ◌∷◌, map, Bool, true, false, not, ℕ, zero, suc, ◌-◌, ◌≤◌, ◌<◌, ◌+◌, ◌*◌, eqb, length, ℤ}
use Rattle.std.proofs.Common.{ap, sym, ◌∙◌, subst, sub-one, arith, length-append, eqb-true}
use Rattle.std.proofs.Math.Decide.{dec_lt}
use Rattle.std.proofs.lemmas.Bool.{not-true, not-false, eqb-false}
use Rattle.geometry.specs.Settings.{D}
use Rattle.model.specs.Layout.{branch_mark, NodeEntry, tree_nodes, node_entries, world, free_group_nodes, Holds}
use Rattle.model.specs.Memory.{count_at, Represented}
use Rattle.model.proofs.Laws.Sums.{sum_over-one, indicator-same, sum_below_ext, sum_below_term, by_dec, sum_over-map, sum_over-append}
use Rattle.model.specs.Lists.{count, All}
use Rattle.model.specs.Trees.{Placed, Tree, leaf, branch, Shallow, size, child_node, at_place, place_count, AllDots}
use Rattle.model.specs.Sums.{indicator, sum_over}
use Rattle.model.proofs.Laws.Lists.{sum_over-join_below}
use Rattle.model.specs.Shapes.{Shape, Valid, below}
use Rattle.model.proofs.Laws.Shapes.{below_yes, below-no, once-length, live-and_free, valid-height}
use Rattle.model.proofs.Laws.Entries.{node_is, nodes-once, node-range, node-there}
use Rattle.model.specs.declared.State.{State}
use Rattle.model.proofs.Laws.Memory.{holds-represented}
use Rattle.memory.specs.declared.node.Node.{Node}
use Rattle.memory.specs.Nodes.{node_at}
use Rattle.memory.specs.Rows.{HasNode, HasPlace, HasRect}
use Rattle.tree.specs.Trees.{sum_last, NodesIn, node_total, TreeStands}

-- ---- what a test for a branch says of the count

pub not-branch : (nodes : List ℕ) (a : ℕ) {w : Node} {b : Bool} → w ≡ node_at nodes a → b ≡ eqb w.count branch_mark → not b ≡ true
    → count_at nodes a ≡ branch_mark → ⊥
not-branch nodes a {w} {b} e f n h = eqb-false w.count branch_mark (sym f ∙ not-true b n) (ap (λ (x : Node). x.count) e ∙ h)

pub is-branch : (nodes : List ℕ) (a : ℕ) {w : Node} {b : Bool} → w ≡ node_at nodes a → b ≡ eqb w.count branch_mark → not b ≡ false
    → count_at nodes a ≡ branch_mark
is-branch nodes a {w} {b} e f n = sym (ap (λ (x : Node). x.count) e) ∙ eqb-true w.count branch_mark (sym f ∙ not-false b n)

-- ---- what a walk uses of the tree at a node

pub node_in-row : (nodes : List ℕ) (a : ℕ) (t : Tree) → NodesIn nodes a t → HasNode nodes a
node_in-row nodes a (leaf chain) n = n
node_in-row nodes a (branch g f) n = n.0

-- a leaf has fewer dots than the mark says
pub mark-no_leaf : {count : ℕ} (chain : List Placed) → size (leaf chain) ≤ 65536 → count ≡ length chain → count ≡ branch_mark → ⊥
unfolding branch_mark
mark-no_leaf chain few counted mark = omega (arith, sum_over-one chain)

-- a branch has a level left, and its children stand a level lower
pub shallow-branch : (levels g : ℕ) (f : ℕ → Tree) → Shallow levels (branch g f) → (1 ≤ levels) × ((i : ℕ) → i < 5 → Shallow (levels - 1) (f i))
shallow-branch zero g f s = absurd s
shallow-branch (suc n) g f s = (omega arith, λ i b. rw sub-one (s i b))

-- a child stands a level lower
pub child-stands : {nodes dots : List ℕ} {rects : List ℤ} {levels a g : ℕ} {f : ℕ → Tree} → TreeStands nodes dots rects levels a (branch g f)
    → (i : ℕ) → i < 5 → TreeStands nodes dots rects (levels - 1) (child_node g i) (f i)
child-stands {levels = levels} {g = g} {f = f} s i b =
    record {
      represents = s.represents.2 i b;
      shallow = (shallow-branch levels g f s.shallow).1 i b;
      nodes_in = s.nodes_in.1 i b;
      dots_in = s.dots_in i b;
      few = omega (arith, s.few, sum_below_term 5 (λ j. size (f j)) i b);
    }

pub sum_step : (f : ℕ → ℕ) (left : ℕ) → 1 ≤ left → sum_last left f ≡ f (5 - left) + sum_last (left - 1) f
sum_step f zero h = absurd (omega arith)
sum_step f (suc left) h = rw (sub-one (suc left)) refl

-- ---- every node and place of a tree, by counting

nodes_in_lem : (nodes : List ℕ) (a : ℕ) (t : Tree) → ((k : ℕ) → 1 ≤ sum_over (node_is k) (tree_nodes a t) → HasNode nodes k) → NodesIn nodes a t
nodes_in_lem nodes a (leaf chain) h = h a (omega (arith, indicator-same a))
nodes_in_lem nodes a (branch g f) h = (
  h a (omega (arith, indicator-same a)),
  λ i b.
      nodes_in_lem nodes (child_node g i) (f i)
      (λ k c. h k (omega (
        arith,
        sum_over-join_below (node_is k) 5 (λ j. tree_nodes (child_node g j) (f j)),
        sum_below_term 5 (λ j. sum_over (node_is k) (tree_nodes (child_node g j) (f j))) i b,
      ))),
)

chain_in : (P : ℕ → Type 0) (ds : List Placed) → ((k : ℕ) → 1 ≤ sum_over (at_place k) ds → P k) → All (λ d. P d.place) ds
chain_in P [] h = tt
chain_in P (d ∷ ds) h = (h d.place (omega (arith, indicator-same d.place)), chain_in P ds (λ k c. h k (omega arith)))

dots_in_lem : (P : ℕ → Type 0) (t : Tree) → ((k : ℕ) → 1 ≤ place_count k t → P k) → AllDots (λ d. P d.place) t
dots_in_lem P (leaf chain) h = chain_in P chain h
dots_in_lem P (branch g f) h = λ i b. dots_in_lem P (f i) (λ k c. h k (omega (arith, sum_below_term 5 (λ j. place_count k (f j)) i b)))

total_nodes : (a : ℕ) (t : Tree) → sum_over (λ e. 1) (tree_nodes a t) ≡ node_total t
total_nodes a (leaf chain) = refl
total_nodes a (branch g f) =
    omega (
      arith,
      sum_over-join_below (λ (e : NodeEntry). 1) 5 (λ i. tree_nodes (child_node g i) (f i)),
      sum_below_ext 5 (λ i. sum_over (λ (e : NodeEntry). 1) (tree_nodes (child_node g i) (f i))) (λ i. node_total (f i))
          (λ i b. total_nodes (child_node g i) (f i)),
    )

-- all nodes of a shape are 1 + 5G
nodes-all : (x : Shape) → Valid x → length (node_entries x) ≡ 1 + 5 * x.groups
nodes-all x v =
    let es = node_entries x in
    let n = 1 + 5 * x.groups in
    let each : (k : ℕ) → count k (map (λ e. e.node) es) ≡ below k n = λ k.
    let c = sum_over-map (indicator k) (λ (e : NodeEntry). e.node) es in
    by_dec (dec_lt k n)
    (λ h. omega (arith, c, below_yes k n h, nodes-once x v k, node-there x v k h))
    (λ h. by_dec (dec_lt 0 (sum_over (node_is k) es)) (λ s. absurd (h (node-range x v k s))) (λ s. omega (arith, c, below-no k n (omega arith)))) in
    omega (
      arith,
      once-length n (map (λ e. e.node) es) each,
      sum_over-one (map (λ (e : NodeEntry). e.node) es),
      sum_over-map (λ k. 1) (λ (e : NodeEntry). e.node) es,
      sum_over-one es,
    )

-- ---- the root

module _ (s : State) (nodes dots : List ℕ) (rects : List ℤ) (marks : List ℕ) (x : Shape) (h : Holds (world s nodes dots rects marks) x) where
  r : Represented (world s nodes dots rects marks) x
  r = holds-represented (world s nodes dots rects marks) x h

  pub root_stands : TreeStands nodes dots rects (D s.settings) 0 x.tree
  root_stands =
      let v = h.valid in
      let few = live-and_free x v in
      record {
        represents = r.tree;
        shallow = subst (λ t. Shallow (D t) x.tree) (sym r.settings) (valid-height x v);
        nodes_in = nodes_in_lem nodes 0 x.tree (λ k c.
            omega (arith, r.nodes, node-range x v k (omega (arith, sum_over-append (node_is k) (tree_nodes 0 x.tree) (free_group_nodes x.free_groups)))));
        dots_in = dots_in_lem (λ p. HasPlace dots p × HasRect rects p) x.tree (λ k c.
            by_dec (dec_lt k x.places)
            (λ b. (omega (arith, r.dots), omega (arith, r.rects)))
            (λ b. absurd (omega (arith, v.places_once k, below-no k x.places (omega arith)))));
        few = omega (arith, few, v.places_fit);
      }

  -- its nodes are few enough to be counted
  pub root_total : node_total x.tree ≤ 81921
  root_total =
      let v = h.valid in
      omega (
        arith,
        nodes-all x v,
        length-append (tree_nodes 0 x.tree) (free_group_nodes x.free_groups),
        sum_over-one (tree_nodes 0 x.tree),
        total_nodes 0 x.tree,
        v.groups_fit,
      )
