-- The way of a rectangle from the root to its leaf (§4.4), on the tree and in the nodes.
--     leaf_for      the leaf's node with its node data
--     Guided       the nodes lead through the tree
--     Way, LeadsTo what the walk down asks, and the leaf that it tells
use Rattle.std.specs.Prelude.{◌≡◌, List, false, true, ℕ, ◌<◌}
use Rattle.geometry.specs.declared.aabb.AABB.{AABB}
use Rattle.geometry.specs.declared.node_data.NodeData.{NodeData}
use Rattle.geometry.specs.Cells.{child_data, route, root_data}
use Rattle.geometry.specs.declared.settings.Settings.{Settings}
use Rattle.geometry.specs.Settings.{in_range}
use Rattle.model.specs.Trees.{Tree, leaf, branch, child_node}
use Rattle.model.specs.Layout.{branch_mark}
use Rattle.model.specs.Memory.{first_at, count_at}
use Rattle.memory.specs.Rows.{HasNode}
use Rattle.tree.specs.declared.find.Leaf.{Leaf}

module _ (r : AABB) where
  -- the node a of the tree, and its node data, that the rectangle routes to
  abbrev pub leaf_for : NodeData → ℕ → Tree → Leaf
  leaf_for n a (leaf chain) = record { node = a; node_data = n }
  leaf_for n a (branch g f) = let i = route n r in leaf_for (child_data n i) (child_node g i) (f i)

module _ (nodes : List ℕ) where
  -- from the node a on each branch leads to its children and is no child 0, and each leaf is told from a branch
  abbrev pub Guided : NodeData → ℕ → Tree → Type 0
  Guided n a (leaf chain) = HasNode nodes a × ¬ (count_at nodes a ≡ branch_mark)
  Guided n a (branch g f) =
      HasNode nodes a × (count_at nodes a ≡ branch_mark) × (first_at nodes a ≡ child_node g 0) × (n.is_child_0 ≡ false) × (n.depth < 255)
      × ((i : ℕ) → i < 5 → Guided (child_data n i) (child_node g i) (f i))

-- the nodes lead through some tree
pub record Way (s : Settings) (nodes : List ℕ) : Type 0 where
  pub accepted : in_range s ≡ true
  pub tree : Tree
  pub guided : Guided nodes (root_data s) 0 tree

-- the leaf is the one of every tree that they lead through
abbrev pub LeadsTo : Settings → List ℕ → AABB → Leaf → Type 0
LeadsTo s nodes r l = (t : Tree) → Guided nodes (root_data s) 0 t → l ≡ leaf_for r (root_data s) 0 t
