-- The walk over the leaves of a group, child by child.
--     leaves_none, leaves_then     nothing more; one walk after another
--     words_total                  six words a leaf, and no more leaves than nodes
--     group_empty                  no child is left
--     group-child, group-others, group-leaves      the first child's walk; what the others' asks; both together
--     Ahead        the loop over the children: what it has left to do leads to the whole
--     ahead-child, ahead-next, ahead_end       a child's walk; a turn; its end
use Rattle.std.specs.Prelude.{◌≡◌, List, [], ◌++◌, ℕ, ◌+◌, ◌*◌, ◌-◌, ◌≤◌, ◌<◌, ℤ, length}
use Rattle.std.proofs.Math.Path.{refl, ap, subst}
use Rattle.std.proofs.Common.{sym, ◌∙◌, arith, length-append}
use Rattle.std.proofs.Math.Bool.{false}
use Rattle.std.proofs.Math.Dec.{eqb}
use borrow.Author.Tests.{ne_eqb}
use Rattle.geometry.specs.declared.node_data.NodeData.{NodeData}
use Rattle.geometry.specs.Cells.{child_data, InRange}
use Rattle.geometry.proofs.Laws.Ranges.{child-range}
use Rattle.model.proofs.Laws.Sums.{sum_below-le}
use Rattle.model.specs.Trees.{Tree, leaf, branch, child_node}
use Rattle.model.specs.Query.{leaves_of, leaf_count}
use Rattle.model.proofs.Laws.Query.{leaves-length}
use Rattle.tree.specs.Trees.{node_total, sum_last}
use Rattle.tree.proofs.Laws.Trees.{sum_step}
use Rattle.std.proofs.lemmas.List.Edits.{sets}
use Rattle.tree.proofs.Laws.Rows.{sets_append}
use Rattle.tree_query.specs.Leaves.{LeafStands, group_leaves, LeavesLeft, LeafWalk, LeafWalked, LeafGroup, LeafGroupWalked}
use Rattle.tree.proofs.Laws.Children.{join_step}

-- ---- one walk after another

leaves_none : (row : List ℤ) (at : ℕ) → LeavesLeft row at [] row at
leaves_none row at = record { position = omega arith; written = refl }

module _ {row row₁ row₂ : List ℤ} {at k₁ k₂ : ℕ} {xs ys : List ℤ} where
  leaves_then : LeavesLeft row at xs row₁ k₁ → LeavesLeft row₁ k₁ ys row₂ k₂ → LeavesLeft row at (xs ++ ys) row₂ k₂
  leaves_then a b =
      record {
        position = omega (arith, a.position, b.position, length-append xs ys);
        written = b.written ∙ (λ i. sets (a.written i) (a.position i) ys) ∙ sym (sets_append row at xs ys);
      }

-- six words a leaf, and no more leaves than nodes
leaf_total : (t : Tree) → leaf_count t ≤ node_total t
leaf_total (leaf chain) = omega arith
leaf_total (branch g f) =
    omega (arith, sum_below-le 4 (λ i. leaf_count (f (1 + i))) (λ i. node_total (f (1 + i))) (λ i b. leaf_total (f (1 + i))))

pub words_total : (n : NodeData) (t : Tree) → length (leaves_of n t) ≤ 6 * node_total t
words_total n t = omega (arith, leaves-length n t, leaf_total t)

-- ---- a group: its last children

module _ (nd : NodeData) (nodes : List ℕ) (row : List ℤ) (at first levels left : ℕ) where
  pub group_empty : left ≡ 0 → LeafGroupWalked nd nodes row at first levels left row at
  unfolding LeafGroupWalked
  group_empty z = λ g f h s. subst (λ (k : ℕ). LeavesLeft row at (group_leaves nd f k) row at) (sym z) (leaves_none row at)

  module _ (some : left ≡ 0 → ⊥) (w : LeafGroup nd nodes at first levels left) where
    abbrev child : ℕ
    child = 5 - left

    abbrev tree : Tree
    tree = w.children child

    child-stands : LeafStands nodes levels (child_node w.group child) tree
    child-stands = w.stands child (omega (arith, w.few)) (omega (arith, some))

    total_step : sum_last left (λ j. node_total (w.children j)) ≡ node_total tree + sum_last (left - 1) (λ j. node_total (w.children j))
    total_step = sum_step (λ j. node_total (w.children j)) left (omega (arith, some))

    pub group-child : (below : NodeData) → below ≡ child_data nd child → LeafWalk below nodes at (first + child) levels
    unfolding child_data
    group-child below e =
        let node : first + child ≡ child_node w.group child = omega (arith, w.head) in
        let other : eqb child 0 ≡ false = ne_eqb child 0 (λ z. omega (arith, w.few)) in
        let depth : below.depth ≡ nd.depth + 1 = ap (λ (n : NodeData). n.depth) e ∙ rw other refl in
        record {
          tree = tree;
          stands = subst (λ (a : ℕ). LeafStands nodes levels a tree) (sym node) child-stands;
          small = omega (arith, w.small, total_step);
          cell_fits = subst (λ (n : NodeData). InRange n.cell) (sym e) (child-range nd.cell child w.cell_fits);
          deep = omega (arith, w.deep, depth);
        }

    module _ (below : NodeData) (e : below ≡ child_data nd child) (row₁ : List ℤ) (k₁ : ℕ)
        (node : LeafWalked below nodes row at (first + child) levels row₁ k₁) where
      child-leaves : (g : ℕ) (f : ℕ → Tree) → first ≡ child_node g 0 → LeafStands nodes levels (child_node g child) (f child)
          → LeavesLeft row at (leaves_of (child_data nd child) (f child)) row₁ k₁
      unfolding LeafWalked
      child-leaves g f h s =
          let at-child : first + child ≡ child_node g child = omega (arith, h) in
          subst (λ (n : NodeData). LeavesLeft row at (leaves_of n (f child)) row₁ k₁) e
          (node (f child) (subst (λ (a : ℕ). LeafStands nodes levels a (f child)) (sym at-child) s))

      pub group-others : LeafGroup nd nodes k₁ first levels (left - 1)
      group-others =
          let l = child-leaves w.group w.children w.head child-stands in
          record {
            group = w.group;
            children = w.children;
            head = w.head;
            few = omega (arith, w.few);
            stands = λ j low b. w.stands j (omega (arith, some)) b;
            small = omega (arith, w.small, total_step, l.position, words_total (child_data nd child) tree);
            cell_fits = w.cell_fits;
            deep = w.deep;
          }

      pub group-leaves : (row₂ : List ℤ) (k₂ : ℕ) → LeafGroupWalked nd nodes row₁ k₁ first levels (left - 1) row₂ k₂
          → LeafGroupWalked nd nodes row at first levels left row₂ k₂
      unfolding LeafGroupWalked
      group-leaves row₂ k₂ rest = λ g f h s.
          let one = child-leaves g f h (s child (omega (arith, w.few)) (omega (arith, some))) in
          rw (join_step (λ i. leaves_of (child_data nd i) (f i)) left (omega (arith, some)))
          (leaves_then one (rest g f h (λ j low b. s j (omega (arith, some)) b)))

-- ---- the loop, before a child

pub record Ahead (nd : NodeData) (nodes : List ℕ) (row₀ : List ℤ) (at₀ first levels : ℕ) (row : List ℤ) (at child : ℕ) : Type 0 where
  pub from : 1 ≤ child
  pub asks : LeafGroup nd nodes at first levels (5 - child)
  pub whole : (row' : List ℤ) (r : ℕ) → LeafGroupWalked nd nodes row at first levels (5 - child) row' r
      → LeafGroupWalked nd nodes row₀ at₀ first levels 4 row' r

module _ {nd : NodeData} {nodes : List ℕ} {row₀ : List ℤ} {at₀ first levels : ℕ} {row : List ℤ} {at child : ℕ}
    (a : Ahead nd nodes row₀ at₀ first levels row at child) where
  module _ (more : child < 5) {below : NodeData} (e : below ≡ child_data nd child) where
    this : 5 - (5 - child) ≡ child
    this = omega arith

    others : (5 - child) - 1 ≡ 5 - (child + 1)
    others = omega arith

    its : below ≡ child_data nd (5 - (5 - child))
    its = e ∙ ap (child_data nd) (sym this)

    pub ahead-child : LeafWalk below nodes at (first + child) levels
    ahead-child =
        subst (λ (k : ℕ). LeafWalk below nodes at (first + k) levels) this
        (group-child nd nodes row at first levels (5 - child) (omega arith) a.asks below its)

    pub ahead-next : {row₁ : List ℤ} {k₁ : ℕ} → LeafWalked below nodes row at (first + child) levels row₁ k₁
        → Ahead nd nodes row₀ at₀ first levels row₁ k₁ (child + 1)
    ahead-next {row₁} {k₁} walked =
        let node = subst (λ (k : ℕ). LeafWalked below nodes row at (first + k) levels row₁ k₁) (sym this) walked in
        record {
          from = omega arith;
          asks =
              subst (LeafGroup nd nodes k₁ first levels) others
              (group-others nd nodes row at first levels (5 - child) (omega arith) a.asks below its row₁ k₁ node);
          whole = λ row' r g. a.whole row' r
              (group-leaves nd nodes row at first levels (5 - child) (omega arith) a.asks below its row₁ k₁ node row' r
              (subst (λ (k : ℕ). LeafGroupWalked nd nodes row₁ k₁ first levels k row' r) (sym others) g));
        }

  pub ahead_end : 5 ≤ child → LeafGroupWalked nd nodes row₀ at₀ first levels 4 row at
  ahead_end z = a.whole row at (group_empty nd nodes row at first levels (5 - child) (omega arith))
