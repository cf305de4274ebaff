-- The splits that a list of rectangles makes, counted by cells: the nodes, and those that the splits would make below the leaves.
--     splits_within the splits at a cell and below it
--     cell_below    a child's cell
--     CellStands   what holds at a cell of the tree at its node
use Rattle.std.specs.Prelude.{List, ◌++◌, cond, ℕ, zero, suc, ◌+◌, ◌-◌, ◌≤◌, eqb}
use Rattle.geometry.specs.declared.aabb.AABB.{AABB}
use Rattle.geometry.specs.declared.bounds.Bounds.{Bounds}
use Rattle.geometry.specs.declared.settings.Settings.{Settings}
use Rattle.geometry.specs.declared.node_data.NodeData.{NodeData}
use Rattle.geometry.specs.Bounds.{bounds_below}
use Rattle.geometry.specs.Cells.{child_data}
use Rattle.geometry.specs.Levels.{levels_left}
use Rattle.model.specs.Trees.{Tree, leaf, branch}
use Rattle.model.specs.Shapes.{WellFormed}
use Rattle.model.specs.Laying.{rects_of, overfull_cells}
use Rattle.model.specs.Layout.{branch_mark}
use Rattle.model.specs.Memory.{first_at, count_at}
use Rattle.memory.specs.Lent.{Held}
use Rattle.tree.specs.Trees.{sum_last, TreeStands}
use Rattle.tint.specs.Counts.{within_bounds}
use Rattle.tree_patch.specs.declared.splits.Cell.{Cell}

-- The dots of a leaf and the rectangles fill its cell, as far as they lie within the bounds; a branch stays. Child 0 never splits.
abbrev pub splits_within : Settings → List AABB → ℕ → NodeData → Bounds → Tree → ℕ
splits_within s rects levels n b (leaf chain) = overfull_cells s levels n (within_bounds b (rects_of chain ++ rects))
splits_within s rects zero n b (branch g f) = 0
splits_within s rects (suc levels) n b (branch g f) =
    sum_last 4 (λ i. splits_within s rects levels (child_data n i) (bounds_below b n.cell i) (f i))

-- a branch has a node for it, a leaf has none yet
abbrev pub cell_below : List ℕ → Cell → ℕ → Cell
cell_below nodes c i =
    record {
      node = cond (eqb (count_at nodes c.node) branch_mark) (first_at nodes c.node + i) c.node;
      node_data = child_data c.node_data i;
      bounds = bounds_below c.bounds c.node_data.cell i;
      levels = c.levels - 1;
    }

-- the tree at the cell's node; below a leaf it is the leaf, with its whole chain
pub record CellStands (s : Settings) (h : Held) (c : Cell) (t : Tree) : Type 0 where
  pub stands : TreeStands h.nodes h.dots h.rects c.levels c.node t
  pub formed : WellFormed s c.node_data t
  pub enough : levels_left s c.node_data ≤ c.levels
