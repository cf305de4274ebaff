-- The query's walk of a node, by what the code reads of it: a law for each way through the code.
--     leaf-asks, leaf_gives        a leaf: what its chain's walk asks, and what it gives
--     branch-level, branch-asks, branch_gives      a branch: a level is left; its group's walk
use Rattle.std.specs.Prelude.{◌≡◌, Bool, true, false, not, ℤ, eqb}
use Rattle.std.proofs.Math.Path.{ap}
use Rattle.std.proofs.Common.{sym, ◌∙◌}
use mathlib.Core.List.{List, []}
use Rattle.std.proofs.Math.Bool.{cond}
use Prim.Native.Nat.{ℕ, ◌+◌, ◌-◌, ◌≤◌}
use native.Mathlib.Omega.{arith}
use Rattle.std.proofs.Math.ListN.{length}
use Rattle.geometry.specs.declared.centered_aabb.CenteredAABB.{CenteredAABB}
use Rattle.geometry.specs.declared.node_data.NodeData.{NodeData}
use Rattle.geometry.specs.declared.quadrants.Quadrants.{Quadrants}
use Rattle.geometry.specs.Cells.{child_data, cell_code, opens}
use Rattle.model.specs.declared.Window.{Window}
use Rattle.model.specs.Sums.{sum_below}
use Rattle.model.proofs.Laws.Sums.{sum_over-one}
use Rattle.model.specs.Trees.{Placed, Tree, leaf, branch, size}
use Rattle.model.specs.Query.{hits, opened}
use Rattle.model.specs.Layout.{branch_mark}
use Rattle.model.specs.Memory.{first_at, count_at}
use Rattle.model.specs.declared.answers.Found.{Found}
use Rattle.memory.specs.declared.node.Node.{Node}
use Rattle.memory.specs.Nodes.{node_at}
use Rattle.memory.specs.Lent.{holding}
use Rattle.tree.specs.Trees.{node_total, sum_last, TreeStands}
use Rattle.tree.proofs.Laws.Trees.{not-branch, is-branch, mark-no_leaf, shallow-branch, child-stands}
use Rattle.tree_query.specs.Walks.{chain_hits, after, row_after, Left, CanGrow}
use Rattle.tree_query.specs.Walks.{ChainWalk, ChainWalked, NodeWalk, NodeWalked, GroupWalk, GroupWalked}
use Rattle.tree.proofs.Laws.Children.{join-five}

-- one node more is opened
abbrev pub opening : Found → Found
opening found = record { hits = found.hits; opened = found.opened + 1 }

module _ (nodes dots : List ℕ) (rects : List ℤ) (row : List ℕ) (found : Found) (a levels : ℕ) (q : Window) (cell : CenteredAABB)
    {node : Node} {b : Bool} (words : node ≡ node_at nodes a) (told : b ≡ eqb node.count branch_mark) where
  -- ---- a leaf

  module _ (n : not b ≡ true) where
    pub leaf-asks : NodeWalk cell (holding nodes dots rects) found a levels
        → ChainWalk (holding nodes dots rects) (opening found) node.first node.count
    leaf-asks w = rw words (go w.tree w.stands w.grows)
      where
        go : (t : Tree) → TreeStands nodes dots rects levels a t → CanGrow found (size t) (node_total t)
            → ChainWalk (holding nodes dots rects) (opening found) (first_at nodes a) (count_at nodes a)
        go (leaf chain) s c =
            record {
              chain = chain;
              stands = s.represents.1;
              long = sym s.represents.0;
              dots_in = s.dots_in;
              grows = record { hits = omega (arith, c.hits, s.represents.0, sum_over-one chain); opened = omega (arith, c.opened) };
            }
        go (branch g f) s c = absurd (not-branch nodes a words told n s.represents.0)

    pub leaf_gives : (row' : List ℕ) (r : Found) → ChainWalked q (holding nodes dots rects) row (opening found) node.first node.count row' r
        → NodeWalked q cell (holding nodes dots rects) row found a levels row' r
    unfolding ChainWalked NodeWalked after row_after
    leaf_gives row' r w = go
      where
        go : (t : Tree) (d : NodeData) → TreeStands nodes dots rects levels a t → d.cell ≡ cell
            → Left row found (hits q d t) (opened q.rect d t) row' r
        go (leaf chain) d s e =
            let l = (rw words at w) chain s.represents.1 (sym s.represents.0) in
            let more : found.opened + 1 + 0 ≡ found.opened + 1 = omega arith in
            record {
              answer = l.answer ∙ (λ i. record { hits = found.hits + length (chain_hits q chain); opened = more i });
              written = l.written;
            }
        go (branch g f) d s e = absurd (not-branch nodes a words told n s.represents.0)

  -- ---- a branch

  module _ (n : not b ≡ false) where
    no-leaf : (chain : List Placed) → TreeStands nodes dots rects levels a (leaf chain) → ⊥
    no-leaf chain s = mark-no_leaf chain s.few s.represents.0 (is-branch nodes a words told n)

    pub branch-level : NodeWalk cell (holding nodes dots rects) found a levels → 1 ≤ levels
    branch-level w = go w.tree w.stands
      where
        go : (t : Tree) → TreeStands nodes dots rects levels a t → 1 ≤ levels
        go (leaf chain) s = absurd (no-leaf chain s)
        go (branch g f) s = (shallow-branch levels g f s.shallow).0

    pub branch-asks : (quadrants : Quadrants) → quadrants.code ≡ cell_code cell q.rect → NodeWalk cell (holding nodes dots rects) found a levels
        → GroupWalk q cell quadrants (holding nodes dots rects) (opening found) node.first (levels - 1) 5
    branch-asks quadrants e w = rw words (go w.tree w.stands w.grows)
      where
        go : (t : Tree) → TreeStands nodes dots rects levels a t → CanGrow found (size t) (node_total t)
            → GroupWalk q cell quadrants (holding nodes dots rects) (opening found) (first_at nodes a) (levels - 1) 5
        go (leaf chain) s c = absurd (no-leaf chain s)
        go (branch g f) s c =
            record {
              group = g;
              children = f;
              head = s.represents.1;
              small = omega arith;
              stands = λ i low b. child-stands s i b;
              grows = record { hits = omega (arith, c.hits); opened = omega (arith, c.opened) };
              cell_fits = w.cell_fits;
              code = e;
            }

    pub branch_gives : (row' : List ℕ) (r : Found)
        → GroupWalked q cell (holding nodes dots rects) row (opening found) node.first (levels - 1) 5 row' r
        → NodeWalked q cell (holding nodes dots rects) row found a levels row' r
    unfolding GroupWalked NodeWalked after row_after
    branch_gives row' r w = go
      where
        go : (t : Tree) (d : NodeData) → TreeStands nodes dots rects levels a t → d.cell ≡ cell
            → Left row found (hits q d t) (opened q.rect d t) row' r
        go (leaf chain) d s e = absurd (no-leaf chain s)
        go (branch g f) d s e =
            let l = (rw words at w) g f d s.represents.1 (λ i low b. child-stands s i b) e in
            let H : ℕ → List Placed = λ i. cond (opens q.rect d i) (hits q (child_data d i) (f i)) [] in
            let O : ℕ → ℕ = λ i. cond (opens q.rect d i) (opened q.rect (child_data d i) (f i)) 0 in
            let many : found.opened + 1 + sum_last 5 O ≡ found.opened + (1 + sum_below 5 O) = omega arith in
            record {
              answer = l.answer ∙ (λ i. record { hits = found.hits + length (join-five H i); opened = many i });
              written = l.written ∙ ap (λ ds. row_after row found ds) (join-five H);
            }
