-- The cleanup's walk of a group: a law for each way through the code.
--     group-none   no child is left
--     group-node, group-rest      the last child of those left, in the row; then the others
--     group-cleaned        what the two walks leave together
--     Ahead, ahead-node, ahead-next, ahead_end     the loop over the children: a child's walk, a turn, its end
use Rattle.std.specs.Prelude.{◌≡◌, refl, List, ℕ, suc, ◌+◌, ◌-◌, ◌≤◌, ◌<◌, ℤ, length}
use Rattle.std.proofs.Math.Path.{ap, sym, subst}
use Rattle.std.proofs.Common.{◌∙◌, le_refl, arith}
use Rattle.arithmetic.proofs.Laws.Tests.{by_bool}
use Rattle.model.specs.Sums.{indicator, sum_below}
use Rattle.model.proofs.Laws.Sums.{sum_below-le, sum_below_term}
use Rattle.model.specs.Trees.{Tree, leaf, branch, child_node}
use Rattle.model.specs.Cleanup.{all_empty, freed_by, turned}
use Rattle.memory.specs.Rows.{HasNode}
use Rattle.tree.specs.Trees.{node_count, NodesIn, node_total}
use Rattle.tree.proofs.Laws.Frames.{tree_frame}
use Rattle.tree.proofs.Laws.Cleanup.{clean-nodes, tree-cleaned}
use Rattle.tree.specs.Cleanup.{Walk, clean_words, TreeAndFree}
use Rattle.tree_cleanup.specs.declared.Swept.{Swept}
use Rattle.tree_cleanup.specs.Walks.{walk_of, Fits, Cleaned, NodeToClean, NodeCleaned, ChildrenAndFree, clean_children, GroupToClean, GroupCleaned}
use Rattle.tree_cleanup.proofs.Laws.Nodes.{walked_in}

turned_total : (t : Tree) → turned t ≤ node_total t
turned_total (leaf chain) = omega arith
turned_total (branch g f) =
    by_bool (all_empty f)
    (λ e. rw e (omega arith))
    (λ e. rw e (omega (arith, sum_below-le 5 (λ i. turned (f i)) (λ i. node_total (f i)) (λ i b. turned_total (f i)))))

-- ---- rows of one length have the same nodes

module _ (nodes nodes' : List ℕ) (same : length nodes' ≡ length nodes) where
  nodes-same : (a : ℕ) (t : Tree) → NodesIn nodes a t → NodesIn nodes' a t
  nodes-same a (leaf chain) n = omega arith
  nodes-same a (branch g f) n = (omega (arith, n.0), λ i b. nodes-same (child_node g i) (f i) (n.1 i b))

  fits-same : (levels a : ℕ) (t : Tree) → Fits nodes levels a t → Fits nodes' levels a t
  fits-same levels a t s = record { nodes_in = nodes-same a t s.nodes_in; shallow = s.shallow; few = s.few }

-- ---- the last child of those left, and the others

module _ {g : ℕ} {f : ℕ → Tree} {n : ℕ} {s : Walk} {free : List ℕ} (w : ChildrenAndFree g f (suc n) s free) where
  last-stands : TreeAndFree (f n) (child_node g n) s free
  last-stands = ((λ k. omega (arith, w.once k)), w.represented n (le_refl (suc n)), w.groups)

  others-stand : ChildrenAndFree g f n (clean_words (f n) (child_node g n) s) (freed_by (f n) free)
  others-stand =
      let s₁ = clean_words (f n) (child_node g n) s in
      let done = tree-cleaned (f n) (child_node g n) s free last-stands in
      let N : ℕ → ℕ → ℕ = λ k j. node_count k (child_node g j) (f j) in
      record {
        once = λ k. omega (arith, w.once k, clean-nodes (indicator k) (child_node g n) (f n) free);
        represented = λ j b.
            tree_frame s.mem s₁.mem (child_node g j) (f j)
            (λ k c. done.2 k (omega (arith, w.once k, sum_below_term n (N k) j b)))
            (λ k c. done.3 k) (w.represented j (omega arith));
        groups = done.1;
      }

-- the children left, by the number of those before the last
module _ (left : ℕ) (some : left ≡ 0 → ⊥) where
  left_is : left ≡ suc (left - 1)
  left_is = omega arith

  sum-last : (h : ℕ → ℕ) → sum_below left h ≡ sum_below (left - 1) h + h (left - 1)
  sum-last h = ap (λ (k : ℕ). sum_below k h) left_is

  before_last : {g : ℕ} {f : ℕ → Tree} {s : Walk} {free : List ℕ} → ChildrenAndFree g f left s free → ChildrenAndFree g f (suc (left - 1)) s free
  before_last {g} {f} {s} {free} w = subst (λ (k : ℕ). ChildrenAndFree g f k s free) left_is w

-- ---- the group's walk

pub group-none : (nodes : List ℕ) (swept : Swept) (first levels left : ℕ) → left ≡ 0 → GroupCleaned nodes swept first levels left nodes swept
unfolding GroupCleaned
group-none nodes swept first levels left z = λ dots rects g f free h w s.
    subst (λ (k : ℕ). Cleaned nodes dots rects swept (clean_children g f k) (sum_below k (λ j. turned (f j))) nodes swept) (sym z)
    (record { walk = refl; more = omega arith })

module _ (nodes : List ℕ) (swept : Swept) (first levels left : ℕ) (some : left ≡ 0 → ⊥) where
  pub group-node : GroupToClean nodes swept first levels left → NodeToClean nodes swept (first + (left - 1)) levels
  group-node w =
      let i = left - 1 in
      let at : first + i ≡ child_node w.group i = omega (arith, w.head) in
      record {
        dots = w.dots;
        rects = w.rects;
        tree = w.children i;
        free = w.free;
        stands = rw at (last-stands (before_last left some w.stands));
        fits = rw at (w.fits i (omega arith));
        small = omega (arith, w.small, sum-last left some (λ j. node_total (w.children j)));
      }

  module _ (nodes₁ : List ℕ) (next : Swept) (same : length nodes₁ ≡ length nodes) (node : NodeCleaned nodes swept (first + (left - 1)) levels nodes₁ next) where
    -- what the last child's walk leaves, for any children that stand there
    module _ (dots : List ℕ) (rects : List ℤ) {g : ℕ} {f : ℕ → Tree} {free : List ℕ} (h : first ≡ child_node g 0)
        (w : ChildrenAndFree g f left (walk_of nodes dots rects swept.head) free) (s : Fits nodes levels (child_node g (left - 1)) (f (left - 1))) where
      last-cleaned : Cleaned nodes dots rects swept (clean_words (f (left - 1)) (child_node g (left - 1))) (turned (f (left - 1))) nodes₁ next
      unfolding NodeCleaned
      last-cleaned =
          let i = left - 1 in
          let at : first + i ≡ child_node g i = omega (arith, h) in
          subst (λ (a : ℕ). Cleaned nodes dots rects swept (clean_words (f i) a) (turned (f i)) nodes₁ next) at
          (node dots rects (f i) free (rw at (last-stands (before_last left some w))) (rw at s))

      others-left : ChildrenAndFree g f (left - 1) (walk_of nodes₁ dots rects next.head) (freed_by (f (left - 1)) free)
      others-left = rw last-cleaned.walk (others-stand (before_last left some w))

    pub group-rest : GroupToClean nodes swept first levels left → GroupToClean nodes₁ next first levels (left - 1)
    group-rest w =
        let i = left - 1 in
        let last = w.fits i (omega arith) in
        let c = last-cleaned w.dots w.rects w.head w.stands last in
        record {
          dots = w.dots;
          rects = w.rects;
          group = w.group;
          children = w.children;
          free = freed_by (w.children i) w.free;
          head = w.head;
          most = omega (arith, w.most);
          stands = others-left w.dots w.rects w.head w.stands last;
          fits = λ j b. fits-same nodes nodes₁ same levels (child_node w.group j) (w.children j) (w.fits j (omega arith));
          small = omega (arith, w.small, sum-last left some (λ j. node_total (w.children j)), c.more, turned_total (w.children i));
        }

    pub group-cleaned : (nodes₂ : List ℕ) (r : Swept) → GroupCleaned nodes₁ next first levels (left - 1) nodes₂ r
        → GroupCleaned nodes swept first levels left nodes₂ r
    unfolding GroupCleaned
    group-cleaned nodes₂ r rest = λ dots rects g f free h w s.
        let i = left - 1 in
        let last = s i (omega arith) in
        let c = last-cleaned dots rects h w last in
        let d = rest dots rects g f (freed_by (f i) free) h (others-left dots rects h w last)
        (λ j b. fits-same nodes nodes₁ same levels (child_node g j) (f j) (s j (omega arith))) in
        let start = walk_of nodes dots rects swept.head in
        let all : clean_children g f left start ≡ clean_children g f i (clean_words (f i) (child_node g i) start) =
        ap (λ (k : ℕ). clean_children g f k start) (left_is left some) in
        record {
          walk = d.walk ∙ ap (clean_children g f i) c.walk ∙ sym all;
          more = omega (arith, d.more, c.more, sum-last left some (λ j. turned (f j)));
        }

-- ---- the loop, with so many children left

pub record Ahead (nodes₀ : List ℕ) (swept₀ : Swept) (first levels : ℕ) (nodes : List ℕ) (swept : Swept) (left : ℕ) : Type 0 where
  pub asks : GroupToClean nodes swept first levels left
  pub whole : (nodes' : List ℕ) (r : Swept) → GroupCleaned nodes swept first levels left nodes' r → GroupCleaned nodes₀ swept₀ first levels 5 nodes' r

module _ {nodes₀ : List ℕ} {swept₀ : Swept} {first levels : ℕ} {nodes : List ℕ} {swept : Swept} {left : ℕ}
    (a : Ahead nodes₀ swept₀ first levels nodes swept left) where
  module _ (more : 0 < left) where
    some : left ≡ 0 → ⊥
    some z = omega arith

    pub ahead-node : NodeToClean nodes swept (first + (left - 1)) levels
    ahead-node = group-node nodes swept first levels left some a.asks

    pub ahead-next : {nodes₁ : List ℕ} {next : Swept} → length nodes₁ ≡ length nodes
        → NodeCleaned nodes swept (first + (left - 1)) levels nodes₁ next → Ahead nodes₀ swept₀ first levels nodes₁ next (left - 1)
    ahead-next {nodes₁} {next} same node =
        record {
          asks = group-rest nodes swept first levels left some nodes₁ next same node a.asks;
          whole = λ nodes' r g. a.whole nodes' r (group-cleaned nodes swept first levels left some nodes₁ next same node nodes' r g);
        }

  pub ahead_end : left ≤ 0 → GroupCleaned nodes₀ swept₀ first levels 5 nodes swept
  ahead_end z = a.whole nodes swept (group-none nodes swept first levels left (omega arith))
