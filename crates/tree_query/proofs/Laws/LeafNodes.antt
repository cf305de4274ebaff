-- The walk over the leaves of a node, by what the code reads of it: a law for each way through the code.
--     leaf-asks, leaf_gives        a leaf
--     branch-level, branch-asks, branch_gives      a branch: a level is left; its group's walk
use Rattle.std.specs.Prelude.{◌≡◌, Bool, true, false, not, ℕ, ◌+◌, ◌*◌, ◌-◌, ◌≤◌, ◌<◌, eqb, ℤ}
use Rattle.std.proofs.Math.Path.{ap, subst}
use Rattle.std.proofs.Common.{◌∙◌, arith}
use mathlib.Core.List.{List}
use Rattle.std.proofs.Math.ListN.{length}
use Rattle.geometry.specs.declared.node_data.NodeData.{NodeData}
use Rattle.geometry.specs.Cells.{child_data}
use Rattle.model.proofs.Laws.Sums.{sum_over-one, sum_below_term}
use Rattle.model.specs.Trees.{Placed, Tree, leaf, branch, child_node, size}
use Rattle.model.specs.Query.{leaves_of}
use Rattle.model.specs.Layout.{branch_mark}
use Rattle.model.specs.Memory.{first_at, count_at}
use Rattle.memory.specs.declared.node.Node.{Node}
use Rattle.memory.specs.Nodes.{node_at}
use Rattle.tree.specs.Trees.{node_total}
use Rattle.tree.proofs.Laws.Trees.{not-branch, is-branch, mark-no_leaf, shallow-branch}
use Rattle.std.proofs.lemmas.List.Edits.{sets}
use Rattle.tree_query.specs.Leaves.{words_of, LeafStands, LeavesLeft, LeafWalk, LeafWalked, LeafGroup, LeafGroupWalked}
use Rattle.tree.proofs.Laws.Children.{join-four}

-- a child stands a level lower
child-stands : {nodes : List ℕ} {levels a g : ℕ} {f : ℕ → Tree} → LeafStands nodes levels a (branch g f)
    → (i : ℕ) → i < 5 → LeafStands nodes (levels - 1) (child_node g i) (f i)
child-stands {levels = levels} {g = g} {f = f} s i b =
    record {
      shaped = s.shaped.2 i b;
      shallow = (shallow-branch levels g f s.shallow).1 i b;
      nodes_in = s.nodes_in.1 i b;
      few = omega (arith, s.few, sum_below_term 5 (λ j. size (f j)) i b);
    }

module _ (nd : NodeData) (nodes : List ℕ) (row : List ℤ) (at a levels : ℕ)
    {node : Node} {b : Bool} (words : node ≡ node_at nodes a) (told : b ≡ eqb node.count branch_mark) where
  -- ---- a leaf

  module _ (n : not b ≡ true) where
    pub leaf-asks : LeafWalk nd nodes at a levels → node.count ≤ 65536
    leaf-asks w = rw words (go w.tree w.stands)
      where
        go : (t : Tree) → LeafStands nodes levels a t → count_at nodes a ≤ 65536
        go (leaf chain) s = omega (arith, s.shaped, s.few, sum_over-one chain)
        go (branch g f) s = absurd (not-branch nodes a words told n s.shaped.0)

    pub leaf_gives : (row' : List ℤ) (r : ℕ) → r ≡ at + 6 → row' ≡ sets row at (words_of nd node.count)
        → LeafWalked nd nodes row at a levels row' r
    unfolding LeafWalked
    leaf_gives row' r p e = go
      where
        go : (t : Tree) → LeafStands nodes levels a t → LeavesLeft row at (leaves_of nd t) row' r
        go (leaf chain) s =
            let count : node.count ≡ length chain = ap (λ (x : Node). x.count) words ∙ s.shaped in
            record { position = p; written = e ∙ ap (λ (c : ℕ). sets row at (words_of nd c)) count }
        go (branch g f) s = absurd (not-branch nodes a words told n s.shaped.0)

  -- ---- a branch

  module _ (n : not b ≡ false) where
    no-leaf : (chain : List Placed) → LeafStands nodes levels a (leaf chain) → ⊥
    no-leaf chain s = mark-no_leaf chain s.few s.shaped (is-branch nodes a words told n)

    pub branch-level : LeafWalk nd nodes at a levels → 1 ≤ levels
    branch-level w = go w.tree w.stands
      where
        go : (t : Tree) → LeafStands nodes levels a t → 1 ≤ levels
        go (leaf chain) s = absurd (no-leaf chain s)
        go (branch g f) s = (shallow-branch levels g f s.shallow).0

    pub branch-asks : LeafWalk nd nodes at a levels → LeafGroup nd nodes at node.first (levels - 1) 4
    branch-asks w = rw words (go w.tree w.stands w.small)
      where
        go : (t : Tree) → LeafStands nodes levels a t → at + 6 * node_total t ≤ 1000000
            → LeafGroup nd nodes at (first_at nodes a) (levels - 1) 4
        go (leaf chain) s c = absurd (no-leaf chain s)
        go (branch g f) s c =
            record {
              group = g;
              children = f;
              head = s.shaped.1;
              few = omega arith;
              stands = λ i low b. child-stands s i b;
              small = omega (arith, c);
              cell_fits = w.cell_fits;
              deep = omega (arith, w.deep, (shallow-branch levels g f s.shallow).0);
            }

    pub branch_gives : (row' : List ℤ) (r : ℕ) → LeafGroupWalked nd nodes row at node.first (levels - 1) 4 row' r
        → LeafWalked nd nodes row at a levels row' r
    unfolding LeafGroupWalked LeafWalked
    branch_gives row' r w = go
      where
        go : (t : Tree) → LeafStands nodes levels a t → LeavesLeft row at (leaves_of nd t) row' r
        go (leaf chain) s = absurd (no-leaf chain s)
        go (branch g f) s =
            subst (λ (words : List ℤ). LeavesLeft row at words row' r) (join-four (λ i. leaves_of (child_data nd i) (f i)))
            ((rw words at w) g f s.shaped.1 (λ i low b. child-stands s i b))
