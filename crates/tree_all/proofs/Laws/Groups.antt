-- The walk of a group, child by child.
--     group_empty  no child is left
--     group-child, group-others, group_gives       the first child's walk; what the others' asks; both together
--     Ahead        the loop over the children: what it has left to do leads to the whole
--     ahead-child, ahead-next, ahead_end       a child's walk; a turn; its end
use Rattle.std.specs.Prelude.{◌≡◌, List, ℕ, ◌+◌, ◌-◌, ◌≤◌, ◌<◌}
use Rattle.std.proofs.Common.{sym, arith}
use Rattle.std.proofs.Math.Path.{subst}
use Rattle.model.proofs.Laws.Trees.{length-dots}
use Rattle.model.specs.Trees.{Tree, child_node, size, dots as dots_of}
use Rattle.tree.specs.Trees.{sum_last}
use Rattle.tree.proofs.Laws.Trees.{sum_step}
use Rattle.tree.proofs.Laws.Children.{join_step}
use Rattle.tree_all.specs.Walks.{Written, TreeInRows, NodeList, NodeListed, group_dots, GroupList, GroupListed}
use Rattle.tree_all.proofs.Laws.Rows.{written_none, written_then, written_row}

module _ (nodes dots row : List ℕ) (at first levels left : ℕ) where
  pub group_empty : left ≡ 0 → GroupListed nodes dots row at first levels left row at
  unfolding GroupListed
  group_empty z = λ g f h s. subst (λ (k : ℕ). Written row at (group_dots f k) row at) (sym z) (written_none row at)

  module _ (some : left ≡ 0 → ⊥) (w : GroupList nodes dots row at first levels left) where
    abbrev child : ℕ
    child = 5 - left

    abbrev tree : Tree
    tree = w.children child

    stands-child : TreeInRows nodes dots levels (child_node w.group child) tree
    stands-child = w.stands child (omega (arith, w.few)) (omega (arith, some))

    size_step : sum_last left (λ j. size (w.children j)) ≡ size tree + sum_last (left - 1) (λ j. size (w.children j))
    size_step = sum_step (λ j. size (w.children j)) left (omega (arith, some))

    pub group-child : NodeList nodes dots row at (first + child) levels
    group-child =
        let node : first + child ≡ child_node w.group child = omega (arith, w.head) in
        record {
          tree = tree;
          stands = subst (λ (a : ℕ). TreeInRows nodes dots levels a tree) (sym node) stands-child;
          fits = record { room = omega (arith, w.fits.room, size_step); small = omega (arith, w.fits.small, size_step) };
        }

    module _ (row₁ : List ℕ) (k₁ : ℕ) (node : NodeListed nodes dots row at (first + child) levels row₁ k₁) where
      child-written : (g : ℕ) (f : ℕ → Tree) → first ≡ child_node g 0 → TreeInRows nodes dots levels (child_node g child) (f child)
          → Written row at (dots_of (f child)) row₁ k₁
      unfolding NodeListed
      child-written g f h s =
          let at-child : first + child ≡ child_node g child = omega (arith, h) in
          node (f child) (subst (λ (a : ℕ). TreeInRows nodes dots levels a (f child)) (sym at-child) s)

      pub group-others : GroupList nodes dots row₁ k₁ first levels (left - 1)
      group-others =
          let one = child-written w.group w.children w.head stands-child in
          record {
            group = w.group;
            children = w.children;
            head = w.head;
            few = omega (arith, w.few);
            stands = λ j low b. w.stands j (omega (arith, some)) b;
            fits =
                record {
                  room = omega (arith, w.fits.room, size_step, one.position, length-dots tree, written_row one);
                  small = omega (arith, w.fits.small, size_step, one.position, length-dots tree);
                };
          }

      pub group_gives : (row₂ : List ℕ) (k₂ : ℕ) → GroupListed nodes dots row₁ k₁ first levels (left - 1) row₂ k₂
          → GroupListed nodes dots row at first levels left row₂ k₂
      unfolding GroupListed
      group_gives row₂ k₂ rest = λ g f h s.
          let one = child-written g f h (s child (omega (arith, w.few)) (omega (arith, some))) in
          rw (join_step (λ i. dots_of (f i)) left (omega (arith, some)))
          (written_then one (rest g f h (λ j low b. s j (omega (arith, some)) b)))

-- ---- the loop, before a child

pub record Ahead (nodes dots row₀ : List ℕ) (at₀ first levels : ℕ) (row : List ℕ) (at child : ℕ) : Type 0 where
  pub asks : GroupList nodes dots row at first levels (5 - child)
  pub whole : (row' : List ℕ) (r : ℕ) → GroupListed nodes dots row at first levels (5 - child) row' r
      → GroupListed nodes dots row₀ at₀ first levels 5 row' r

module _ {nodes dots row₀ : List ℕ} {at₀ first levels : ℕ} {row : List ℕ} {at child : ℕ} (a : Ahead nodes dots row₀ at₀ first levels row at child) where
  module _ (more : child < 5) where
    this : 5 - (5 - child) ≡ child
    this = omega arith

    others : (5 - child) - 1 ≡ 5 - (child + 1)
    others = omega arith

    pub ahead-child : NodeList nodes dots row at (first + child) levels
    ahead-child =
        subst (λ (k : ℕ). NodeList nodes dots row at (first + k) levels) this (group-child nodes dots row at first levels (5 - child) (omega arith) a.asks)

    pub ahead-next : {row₁ : List ℕ} {k₁ : ℕ} → NodeListed nodes dots row at (first + child) levels row₁ k₁
        → Ahead nodes dots row₀ at₀ first levels row₁ k₁ (child + 1)
    ahead-next {row₁} {k₁} walked =
        let node = subst (λ (k : ℕ). NodeListed nodes dots row at (first + k) levels row₁ k₁) (sym this) walked in
        record {
          asks =
              subst (GroupList nodes dots row₁ k₁ first levels) others
              (group-others nodes dots row at first levels (5 - child) (omega arith) a.asks row₁ k₁ node);
          whole = λ row' r g. a.whole row' r
              (group_gives nodes dots row at first levels (5 - child) (omega arith) a.asks row₁ k₁ node row' r
              (subst (λ (k : ℕ). GroupListed nodes dots row₁ k₁ first levels k row' r) (sym others) g));
        }

  pub ahead_end : 5 ≤ child → GroupListed nodes dots row₀ at₀ first levels 5 row at
  ahead_end z = a.whole row at (group_empty nodes dots row at first levels (5 - child) (omega arith))
