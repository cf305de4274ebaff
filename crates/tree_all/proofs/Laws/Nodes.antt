-- The walk of a node, by what the code reads of it: a law for each way through the code.
--     node_in      the node is in the row
--     leaf-asks, leaf_gives        a leaf: its chain's walk
--     branch-level, branch-asks, branch_gives      a branch: a level is left; its group's walk
use Rattle.std.specs.Prelude.{◌≡◌, Bool, true, false, not, ℕ, ◌-◌, ◌≤◌, eqb}
use Rattle.std.proofs.Common.{sym, arith}
use Rattle.std.proofs.Math.Path.{subst}
use mathlib.Core.List.{List, []}
use Rattle.model.proofs.Laws.Sums.{sum_over-one}
use Rattle.model.specs.Trees.{Placed, Tree, leaf, branch, size, dots as dots_of}
use Rattle.model.specs.Layout.{branch_mark}
use Rattle.model.specs.Memory.{first_at, count_at}
use Rattle.memory.specs.declared.node.Node.{Node}
use Rattle.memory.specs.Nodes.{node_at}
use Rattle.memory.specs.Rows.{HasNode}
use Rattle.tree.proofs.Laws.Chains.{chain_rows}
use Rattle.tree.proofs.Laws.Children.{join-five}
use Rattle.tree.proofs.Laws.Trees.{not-branch, is-branch, mark-no_leaf, shallow-branch, child-stands, node_in-row}
use Rattle.tree_all.specs.Walks.{Written, Fits, ChainInRows, ChainList, ChainListed, TreeInRows, NodeList, NodeListed, ChildrenInRows, GroupList, GroupListed}

module _ (nodes dots : List ℕ) where
  children-stand : {levels a g : ℕ} {f : ℕ → Tree} (left : ℕ) → TreeInRows nodes dots levels a (branch g f) → ChildrenInRows nodes dots (levels - 1) left g f
  children-stand left s i low b = record { rects = s.rects; tree = child-stands s.tree i b }

  chain-stands : {levels a : ℕ} {chain : List Placed} → TreeInRows nodes dots levels a (leaf chain) → ChainInRows dots (first_at nodes a) chain
  chain-stands {a = a} {chain = chain} s =
      record {
        rects = s.rects;
        stands = chain_rows nodes [] dots s.rects (first_at nodes a) chain s.tree.represents.1;
        in_rows = s.tree.dots_in;
      }

module _ (nodes dots row : List ℕ) (at a levels : ℕ) where
  pub node_in : NodeList nodes dots row at a levels → HasNode nodes a
  node_in w = node_in-row nodes a w.tree w.stands.tree.nodes_in

  module _ {node : Node} {b : Bool} (words : node ≡ node_at nodes a) (told : b ≡ eqb node.count branch_mark) where
    -- ---- a leaf

    module _ (n : not b ≡ true) where
      pub leaf-asks : NodeList nodes dots row at a levels → ChainList dots row at node.first node.count
      leaf-asks w = rw words (go w.tree w.stands w.fits)
        where
          go : (t : Tree) → TreeInRows nodes dots levels a t → Fits row at (size t) → ChainList dots row at (first_at nodes a) (count_at nodes a)
          go (leaf chain) s f =
              let count : size (leaf chain) ≡ count_at nodes a = omega (arith, s.tree.represents.0, sum_over-one chain) in
              record { chain = chain; stands = chain-stands nodes dots s; long = sym s.tree.represents.0; fits = subst (Fits row at) count f }
          go (branch g f) s fits = absurd (not-branch nodes a words told n s.tree.represents.0)

      pub leaf_gives : (row' : List ℕ) (r : ℕ) → ChainListed dots row at node.first node.count row' r → NodeListed nodes dots row at a levels row' r
      unfolding ChainListed NodeListed
      leaf_gives row' r w = go
        where
          go : (t : Tree) → TreeInRows nodes dots levels a t → Written row at (dots_of t) row' r
          go (leaf chain) s = (rw words at w) chain (chain-stands nodes dots s) (sym s.tree.represents.0)
          go (branch g f) s = absurd (not-branch nodes a words told n s.tree.represents.0)

    -- ---- a branch

    module _ (n : not b ≡ false) where
      no-leaf : (chain : List Placed) → TreeInRows nodes dots levels a (leaf chain) → ⊥
      no-leaf chain s = mark-no_leaf chain s.tree.few s.tree.represents.0 (is-branch nodes a words told n)

      pub branch-level : NodeList nodes dots row at a levels → 1 ≤ levels
      branch-level w = go w.tree w.stands
        where
          go : (t : Tree) → TreeInRows nodes dots levels a t → 1 ≤ levels
          go (leaf chain) s = absurd (no-leaf chain s)
          go (branch g f) s = (shallow-branch levels g f s.tree.shallow).0

      pub branch-asks : NodeList nodes dots row at a levels → GroupList nodes dots row at node.first (levels - 1) 5
      branch-asks w = rw words (go w.tree w.stands w.fits)
        where
          go : (t : Tree) → TreeInRows nodes dots levels a t → Fits row at (size t) → GroupList nodes dots row at (first_at nodes a) (levels - 1) 5
          go (leaf chain) s f = absurd (no-leaf chain s)
          go (branch g f) s fits =
              record {
                group = g;
                children = f;
                head = s.tree.represents.1;
                few = omega arith;
                stands = children-stand nodes dots 5 s;
                fits = record { room = omega (arith, fits.room); small = omega (arith, fits.small) };
              }

      pub branch_gives : (row' : List ℕ) (r : ℕ) → GroupListed nodes dots row at node.first (levels - 1) 5 row' r
          → NodeListed nodes dots row at a levels row' r
      unfolding GroupListed NodeListed
      branch_gives row' r w = go
        where
          go : (t : Tree) → TreeInRows nodes dots levels a t → Written row at (dots_of t) row' r
          go (leaf chain) s = absurd (no-leaf chain s)
          go (branch g f) s =
              subst (λ (ds : List Placed). Written row at ds row' r) (join-five (λ i. dots_of (f i)))
              ((rw words at w) g f s.tree.represents.1 (children-stand nodes dots 5 s))
