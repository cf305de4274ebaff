-- What the walk of all (§8.7) asks of the words, and what it leaves. It reads no rectangle: the tree may have any.
--     ids, Written         the ids of dots; the row after they were written from a position on
--     ChainInRows, TreeInRows  a chain, a tree, in rows that have its nodes and places, with some rectangles
--     ChainList, ChainListed, NodeList, NodeListed, GroupList, GroupListed     the contracts of the walks
--     AllListed    what the call leaves, by its rule
use Rattle.std.specs.Prelude.{◌≡◌, List, [], map, ℕ, ◌+◌, ◌≤◌, ◌<◌, ℤ, length, replicate}
use Rattle.std.proofs.lemmas.List.Edits.{sets}
use Rattle.model.specs.declared.State.{State}
use Rattle.model.specs.Lists.{All}
use Rattle.model.specs.Trees.{Placed, Tree, child_node, size, dots as dots_of, id_of}
use Rattle.model.specs.Shapes.{Shape}
use Rattle.model.specs.Layout.{none, world, Holds}
use Rattle.model.specs.Memory.{read, Chained}
use Rattle.model.specs.Calls.{Reply, exit, carried_out, all_rule}
use Rattle.tree.specs.Trees.{InRows, sum_last, join_last, TreeStands}

abbrev pub ids : List Placed → List ℕ
ids ds = map id_of ds

-- the ids of ds stand in the row from the position `at` on, and r is the position after them
pub record Written (row : List ℕ) (at : ℕ) (ds : List Placed) (row' : List ℕ) (r : ℕ) : Type 0 where
  pub position : r ≡ at + length ds
  pub written : row' ≡ sets row at (ids ds)

-- the row has words for so many ids from the position on
pub record Fits (row : List ℕ) (at number : ℕ) : Type 0 where
  pub room : at + number ≤ length row
  pub small : at + number ≤ 65536

-- ---- a chain

pub record ChainInRows (dots : List ℕ) (head : ℕ) (chain : List Placed) : Type 0 where
  pub rects : List ℤ
  pub stands : Chained (read [] dots rects) head chain none
  pub in_rows : All (InRows dots rects) chain

pub record ChainList (dots row : List ℕ) (at head count : ℕ) : Type 0 where
  pub chain : List Placed
  pub stands : ChainInRows dots head chain
  pub long : length chain ≡ count
  pub fits : Fits row at count

unfoldable pub ChainListed : List ℕ → List ℕ → ℕ → ℕ → ℕ → List ℕ → ℕ → Type 0
ChainListed dots row at head count row' r = (chain : List Placed) → ChainInRows dots head chain → length chain ≡ count → Written row at chain row' r

-- ---- a tree

pub record TreeInRows (nodes dots : List ℕ) (levels a : ℕ) (t : Tree) : Type 0 where
  pub rects : List ℤ
  pub tree : TreeStands nodes dots rects levels a t

pub record NodeList (nodes dots row : List ℕ) (at a levels : ℕ) : Type 0 where
  pub tree : Tree
  pub stands : TreeInRows nodes dots levels a tree
  pub fits : Fits row at (size tree)

unfoldable pub NodeListed : List ℕ → List ℕ → List ℕ → ℕ → ℕ → ℕ → List ℕ → ℕ → Type 0
NodeListed nodes dots row at a levels row' r = (t : Tree) → TreeInRows nodes dots levels a t → Written row at (dots_of t) row' r

-- the children from 5 - left on
abbrev pub ChildrenInRows : List ℕ → List ℕ → ℕ → ℕ → ℕ → (ℕ → Tree) → Type 0
ChildrenInRows nodes dots levels left group children = (i : ℕ) → 5 ≤ i + left → i < 5 → TreeInRows nodes dots levels (child_node group i) (children i)

abbrev pub group_dots : (ℕ → Tree) → ℕ → List Placed
group_dots f left = join_last left (λ i. dots_of (f i))

pub record GroupList (nodes dots row : List ℕ) (at first levels left : ℕ) : Type 0 where
  pub group : ℕ
  pub children : ℕ → Tree
  pub head : first ≡ child_node group 0
  pub few : left ≤ 5
  pub stands : ChildrenInRows nodes dots levels left group children
  pub fits : Fits row at (sum_last left (λ i. size (children i)))

unfoldable pub GroupListed : List ℕ → List ℕ → List ℕ → ℕ → ℕ → ℕ → ℕ → List ℕ → ℕ → Type 0
GroupListed nodes dots row at first levels left row' r =
    (g : ℕ) (f : ℕ → Tree) → first ≡ child_node g 0 → ChildrenInRows nodes dots levels left g f → Written row at (group_dots f left) row' r

-- ---- the call

unfoldable pub AllListed : State → List ℕ → List ℕ → List ℕ → List ℕ → Reply ℕ → Type 0
AllListed s nodes dots row row' reply =
    (rects : List ℤ) (marks : List ℕ) (x : Shape) → Holds (world s nodes dots rects marks) x
    → exit (world s nodes dots rects (replicate (length marks) 0)) row' reply ≡ carried_out (world s nodes dots rects marks) row (all_rule (length row) x)
