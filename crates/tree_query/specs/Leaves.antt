-- What the walk over the leaves (§9.1) asks of the words, and what it leaves.
--     words_of      the six numbers of a leaf with so many dots
--     Shaped       the nodes are those of a tree; LeafStands: in a row that has them, at most so high
--     group_leaves, LeavesLeft      the words of the last children; what a walk has written
--     LeafWalk, LeafWalked, LeafGroup, LeafGroupWalked     the contracts of the node's and the group's walk
use Rattle.std.specs.Prelude.{◌≡◌, List, [], ◌∷◌, ℕ, ◌+◌, ◌*◌, ◌≤◌, ◌<◌, ℤ, pos, length}
use Rattle.geometry.specs.declared.node_data.NodeData.{NodeData}
use Rattle.geometry.specs.Cells.{child_data, InRange}
use Rattle.model.specs.Trees.{Tree, leaf, branch, child_node, Shallow, size}
use Rattle.model.specs.Query.{leaves_of}
use Rattle.model.specs.Layout.{branch_mark}
use Rattle.model.specs.Memory.{first_at, count_at}
use Rattle.tree.specs.Trees.{NodesIn, node_total, sum_last, join_last}
use Rattle.std.proofs.lemmas.List.Edits.{sets}

-- §9.2
abbrev pub words_of : NodeData → ℕ → List ℤ
words_of n count =
    let c = n.cell in c.center_x ∷ c.center_y ∷ c.half_width ∷ c.half_height ∷ pos n.depth ∷ pos count ∷ []

abbrev pub Shaped : List ℕ → ℕ → Tree → Type 0
Shaped nodes a (leaf chain) = count_at nodes a ≡ length chain
Shaped nodes a (branch g f) =
    (count_at nodes a ≡ branch_mark) × (first_at nodes a ≡ child_node g 0) × ((i : ℕ) → i < 5 → Shaped nodes (child_node g i) (f i))

pub record LeafStands (nodes : List ℕ) (levels a : ℕ) (t : Tree) : Type 0 where
  pub shaped : Shaped nodes a t
  pub shallow : Shallow levels t
  pub nodes_in : NodesIn nodes a t
  pub few : size t ≤ 65536

-- of a group: its last children
abbrev pub group_leaves : NodeData → (ℕ → Tree) → ℕ → List ℤ
group_leaves n f left = join_last left (λ i. leaves_of (child_data n i) (f i))

-- the words are written from the position `at` on, as far as the row goes
pub record LeavesLeft (row : List ℤ) (at : ℕ) (words : List ℤ) (row' : List ℤ) (r : ℕ) : Type 0 where
  pub position : r ≡ at + length words
  pub written : row' ≡ sets row at words

pub record LeafWalk (nd : NodeData) (nodes : List ℕ) (at a levels : ℕ) : Type 0 where
  pub tree : Tree
  pub stands : LeafStands nodes levels a tree
  pub small : at + 6 * node_total tree ≤ 1000000
  pub cell_fits : InRange nd.cell
  pub deep : nd.depth + levels ≤ 255

unfoldable pub LeafWalked : NodeData → List ℕ → List ℤ → ℕ → ℕ → ℕ → List ℤ → ℕ → Type 0
LeafWalked nd nodes row at a levels row' r = (t : Tree) → LeafStands nodes levels a t → LeavesLeft row at (leaves_of nd t) row' r

-- the last `left` children of a group
pub record LeafGroup (nd : NodeData) (nodes : List ℕ) (at first levels left : ℕ) : Type 0 where
  pub group : ℕ
  pub children : ℕ → Tree
  pub head : first ≡ child_node group 0
  pub few : left ≤ 4
  pub stands : (i : ℕ) → 5 ≤ i + left → i < 5 → LeafStands nodes levels (child_node group i) (children i)
  pub small : at + 6 * sum_last left (λ i. node_total (children i)) ≤ 1000000
  pub cell_fits : InRange nd.cell
  pub deep : nd.depth + 1 + levels ≤ 255

unfoldable pub LeafGroupWalked : NodeData → List ℕ → List ℤ → ℕ → ℕ → ℕ → ℕ → List ℤ → ℕ → Type 0
LeafGroupWalked nd nodes row at first levels left row' r =
    (g : ℕ) (f : ℕ → Tree) → first ≡ child_node g 0 → ((i : ℕ) → 5 ≤ i + left → i < 5 → LeafStands nodes levels (child_node g i) (f i))
    → LeavesLeft row at (group_leaves nd f left) row' r
