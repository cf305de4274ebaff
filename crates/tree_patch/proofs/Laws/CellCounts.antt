-- The count at a cell, by what the code reads there: a law for each way through the code.
--     cell-none    no dot of the patch lies within the bounds
--     branch-level, branch-group, branch-counted   a branch: a level is left; what the group's count asks; what it gives
--     leaf-filled  a leaf: what the test of its dots asks
--     leaf-counted_none    .. it does not split
--     leaf-level, leaf-group, leaf-fits, leaf-counted      .. it splits: a level is left; what the group's count asks; the sum fits; what it gives
use Rattle.std.specs.Prelude.{◌≡◌, List, Bool, true, false, not, ℕ, ◌+◌, ◌≤◌, eqb, ltb, ℤ, length}
use Rattle.std.proofs.Math.Path.{ap, sym}
use Rattle.std.proofs.Common.{◌∙◌, arith}
use borrow.Author.Tests.{not-true, not-false}
use Rattle.arithmetic.proofs.Laws.Linear.{and_t}
use Rattle.geometry.specs.declared.aabb.AABB.{AABB}
use Rattle.geometry.specs.declared.settings.Settings.{Settings}
use Rattle.geometry.specs.declared.node_data.NodeData.{NodeData}
use Rattle.geometry.specs.Cells.{may_split}
use Rattle.geometry.proofs.Laws.Geometry.{levels_fall, may-splits}
use Rattle.geometry.proofs.Laws.Ranges.{accepted}
use Rattle.model.specs.declared.patch.Patch.{Patch}
use Rattle.model.specs.Trees.{Placed, Tree, leaf, branch}
use Rattle.model.specs.Layout.{branch_mark}
use Rattle.model.specs.Laying.{overfull}
use Rattle.model.specs.Patch.{patch_fits, patch_rects}
use Rattle.model.proofs.Laws.Sums.{sum_over-one}
use Rattle.memory.specs.declared.node.Node.{Node}
use Rattle.memory.specs.Nodes.{node_at}
use Rattle.memory.specs.Lent.{holding}
use Rattle.tree.proofs.Laws.Trees.{not-branch, is-branch, mark-no_leaf, node_in-row, shallow-branch}
use Rattle.tint.specs.Counts.{within_bounds}
use Rattle.tint.proofs.Laws.Within.{within-few}
use Rattle.tint.proofs.Laws.Units.{patch-upright}
use Rattle.tree_patch.specs.declared.splits.Cell.{Cell}
use Rattle.tree_patch.specs.Cells.{CellStands}
use Rattle.tree_patch.specs.Counts.{Filled, FullTold, splits_at, splits_of_last, most_splits, CellCount, CellCounted, LastStand, GroupCount, GroupCounted}
use Rattle.tree_patch.proofs.Laws.Bounds.{chain-upright, within-length}
use Rattle.tree_patch.proofs.Laws.Cells.{chain-stands, below-branch, below-leaf}
use Rattle.tree_patch.proofs.Laws.Splits.{filling, leaf-stays, leaf-splits, branch-splits, splits-none}

module _ (s : Settings) (nodes dots : List ℕ) (rects : List ℤ) (c : Cell) (p : Patch) where
  abbrev n : NodeData
  n = c.node_data

  abbrev laid_rects : List AABB
  laid_rects = patch_rects p

  -- the tree at the cell; what is told of the cell; the splits below it, and what is told of them
  abbrev Here : Tree → Type 0
  Here t = CellStands s (holding nodes dots rects) c t

  abbrev Told : ℕ → Type 0
  Told r = CellCounted s (holding nodes dots rects) c p r

  abbrev group_splits : (ℕ → Tree) → ℕ
  group_splits f = splits_of_last s p nodes c f 4

  abbrev GroupTold : ℕ → Type 0
  GroupTold r = GroupCounted s (holding nodes dots rects) c 4 p r

  pub cell-none : {laid : ℕ} → laid ≡ length (within_bounds c.bounds laid_rects) → laid ≡ 0 → Told 0
  unfolding CellCounted
  cell-none e none t st = sym (splits-none s laid_rects (patch-upright p) c.levels n c.bounds t st.formed (sym e ∙ none))

  module _ (w : CellCount s (holding nodes dots rects) c p) where
    one : 1 ≤ s.smallest_cell
    one = (accepted s w.settings_fit).cell

    abbrev GroupAsked : Type 0
    GroupAsked = GroupCount s (holding nodes dots rects) c 4 p

    -- the group below a cell that may split
    group-count : may_split s n ≡ true → 1 ≤ c.levels → (f : ℕ → Tree) → LastStand s (holding nodes dots rects) c 4 f
        → group_splits f ≤ most_splits → GroupAsked
    group-count may some f stand small =
        record {
          settings_fit = w.settings_fit;
          cell_fits = w.cell_fits;
          deep = omega (arith, (may-splits s n may).above, (accepted s w.settings_fit).depth);
          here = node_in-row nodes c.node w.tree w.stands.stands.nodes_in;
          some = some;
          few = omega arith;
          children = f;
          stand = stand;
          small = small;
        }

    module _ {node : Node} {b : Bool} (words : node ≡ node_at nodes c.node) (told : b ≡ eqb node.count branch_mark) where
      -- ---- a branch

      module _ (yes : b ≡ true) where
        no-leaf : (chain : List Placed) → Here (leaf chain) → ⊥
        no-leaf chain st = mark-no_leaf chain st.stands.few st.stands.represents.0 (is-branch nodes c.node words told (ap not yes))

        pub branch-level : 1 ≤ c.levels
        branch-level = go w.tree w.stands
          where
            go : (t : Tree) → Here t → 1 ≤ c.levels
            go (leaf chain) st = absurd (no-leaf chain st)
            go (branch g f) st = (shallow-branch c.levels g f st.stands.shallow).0

        pub branch-group : GroupAsked
        branch-group = go w.tree w.stands w.small
          where
            go : (t : Tree) → Here t → splits_at s p c t ≤ most_splits → GroupAsked
            go (leaf chain) st small = absurd (no-leaf chain st)
            go (branch g f) st small =
                group-count st.formed.0 branch-level f (below-branch one st)
                (omega (arith, branch-splits s laid_rects c.levels n c.bounds g f branch-level))

        pub branch-counted : (r : ℕ) → GroupTold r → Told r
        unfolding CellCounted GroupCounted
        branch-counted r below (leaf chain) st = absurd (no-leaf chain st)
        branch-counted r below (branch g f) st =
            below f (below-branch one st) ∙ sym (branch-splits s laid_rects c.levels n c.bounds g f branch-level)

      -- ---- a leaf

      module _ (no : b ≡ false) {laid : ℕ} (counted : laid ≡ length (within_bounds c.bounds laid_rects)) where
        no-branch : (g : ℕ) (f : ℕ → Tree) → Here (branch g f) → ⊥
        no-branch g f st = not-branch nodes c.node words told (ap not no) st.stands.represents.0

        pub leaf-filled : patch_fits p ≡ true → Filled (holding nodes dots rects) node laid
        leaf-filled fits = rw words (go w.tree w.stands)
          where
            go : (t : Tree) → Here t → Filled (holding nodes dots rects) (node_at nodes c.node) laid
            go (leaf chain) st =
                record {
                  chain = chain;
                  stands = chain-stands st.stands;
                  few = omega (arith, st.stands.few, sum_over-one chain);
                  laid_few = omega (arith, counted, within-few p fits c.bounds);
                }
            go (branch g f) st = absurd (no-branch g f st)

        module _ {full : Bool} (tested : FullTold s (holding nodes dots rects) node c laid full) where
          full_is : (chain : List Placed) → Here (leaf chain) → full ≡ overfull s n (length (filling s laid_rects c.bounds chain))
          full_is chain st =
              (rw words at tested) chain (chain-stands st.stands)
              ∙ ap (overfull s n) (omega (arith, counted, within-length c.bounds chain laid_rects))

          pub leaf-counted_none : not full ≡ true → Told 0
          unfolding CellCounted
          leaf-counted_none stays (leaf chain) st =
              sym (leaf-stays s laid_rects c.levels n c.bounds chain (sym (full_is chain st) ∙ not-true full stays))
          leaf-counted_none stays (branch g f) st = absurd (no-branch g f st)

          module _ (splits : not full ≡ false) where
            is_full : (chain : List Placed) → Here (leaf chain) → overfull s n (length (filling s laid_rects c.bounds chain)) ≡ true
            is_full chain st = sym (full_is chain st) ∙ not-false full splits

            may : may_split s n ≡ true
            may = go w.tree w.stands
              where
                go : (t : Tree) → Here t → may_split s n ≡ true
                go (leaf chain) st =
                    (and_t (may_split s n) (ltb s.leaf_limit (length (filling s laid_rects c.bounds chain))) (is_full chain st)).0
                go (branch g f) st = st.formed.0

            pub leaf-level : 1 ≤ c.levels
            leaf-level = omega (arith, w.stands.enough, levels_fall s one n may 0)

            -- its own split, and those below it
            splits_are : (chain : List Placed) → Here (leaf chain) → splits_at s p c (leaf chain) ≡ 1 + group_splits (λ i. leaf chain)
            splits_are chain st =
                leaf-splits s laid_rects (patch-upright p) c.levels n c.bounds chain (chain-upright s chain st.formed.0) leaf-level (is_full chain st)

            pub leaf-group : GroupAsked
            leaf-group = go w.tree w.stands w.small
              where
                go : (t : Tree) → Here t → splits_at s p c t ≤ most_splits → GroupAsked
                go (leaf chain) st small = group-count may leaf-level (λ i. leaf chain) (below-leaf one may st) (omega (arith, splits_are chain st))
                go (branch g f) st small = absurd (no-branch g f st)

            module _ (r : ℕ) (below : GroupTold r) where
              pub leaf-counted : Told (1 + r)
              unfolding CellCounted GroupCounted
              leaf-counted (leaf chain) st = ap (λ (k : ℕ). 1 + k) (below (λ i. leaf chain) (below-leaf one may st)) ∙ sym (splits_are chain st)
              leaf-counted (branch g f) st = absurd (no-branch g f st)

              pub leaf-fits : 1 + r ≤ most_splits
              unfolding CellCounted
              leaf-fits = omega (arith, leaf-counted w.tree w.stands, w.small)
