-- The deal of a chain to the children of a group (§5.2): what its loop asks; the memory after it is that of `dealWords`.
use Rattle.std.specs.Prelude.{◌≡◌, List, ℕ, ◌+◌, ◌≤◌, ◌<◌, ℤ}
use Rattle.geometry.specs.declared.centered_aabb.CenteredAABB.{CenteredAABB}
use Rattle.geometry.specs.declared.node_data.NodeData.{NodeData}
use Rattle.model.specs.Sums.{sum_over}
use Rattle.model.specs.Trees.{Placed, child_node, at_place}
use Rattle.model.specs.Memory.{read, count_at}
use Rattle.memory.specs.Rows.{HasNode}
use Rattle.tree.specs.Chains.{ChainStands}
use Rattle.tree.specs.Splits.{deal_words}

pub record Dealable (nodes dots : List ℕ) (rects : List ℤ) (first head count : ℕ) : Type 0 where
  pub group : ℕ
  pub starts : first ≡ child_node group 0
  pub chain : List Placed
  pub stands : ChainStands dots rects head count chain
  pub once : (k : ℕ) → sum_over (at_place k) chain ≤ 1
  pub nodes_in : HasNode nodes (first + 4)
  pub small : (j : ℕ) → j < 5 → count_at nodes (first + j) + count ≤ 65536

-- by the node data of a node with this cell
abbrev pub Dealt : List ℕ → List ℕ → List ℤ → CenteredAABB → ℕ → ℕ → ℕ → List ℕ → List ℕ → Type 0
Dealt nodes dots rects cell first head count nodes' dots' =
    (n : NodeData) → n.cell ≡ cell → (s : Dealable nodes dots rects first head count)
    → read nodes' dots' rects ≡ deal_words n (read nodes dots rects) s.group s.chain
