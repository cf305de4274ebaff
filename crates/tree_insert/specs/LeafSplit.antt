-- The split of a leaf (§5.2) in the rows: what its code asks; the memory after it is that of `splitWords`.
use Rattle.std.specs.Prelude.{◌≡◌, List, ℕ, ◌+◌, ◌≤◌, ◌<◌, ℤ}
use Rattle.geometry.specs.declared.centered_aabb.CenteredAABB.{CenteredAABB}
use Rattle.geometry.specs.declared.node_data.NodeData.{NodeData}
use Rattle.model.specs.Sums.{sum_over}
use Rattle.model.specs.Trees.{Placed, child_node, at_place}
use Rattle.model.specs.Memory.{read, first_at, count_at}
use Rattle.memory.specs.Rows.{HasNode}
use Rattle.tree.specs.Splits.{split_words}
use Rattle.tree.specs.Chains.{ChainStands}

pub record Splittable (nodes dots : List ℕ) (rects : List ℤ) (node first : ℕ) : Type 0 where
  pub group : ℕ
  pub starts : first ≡ child_node group 0
  pub chain : List Placed
  pub stands : ChainStands dots rects (first_at nodes node) (count_at nodes node) chain
  pub once : (k : ℕ) → sum_over (at_place k) chain ≤ 1
  pub here : HasNode nodes node
  pub nodes_in : HasNode nodes (first + 4)
  pub apart : (j : ℕ) → j < 5 → ¬ (node ≡ first + j)
  pub empty : (j : ℕ) → j < 5 → count_at nodes (first + j) ≡ 0
  pub small : count_at nodes node ≤ 65536

abbrev pub Split : List ℕ → List ℕ → List ℤ → ℕ → CenteredAABB → ℕ → List ℕ → List ℕ → ℕ → Type 0
Split nodes dots rects node cell first nodes' dots' next =
    (next ≡ first_at nodes first)
    × ((n : NodeData) → n.cell ≡ cell → (s : Splittable nodes dots rects node first)
    → read nodes' dots' rects ≡ split_words n (read nodes dots rects) node s.group s.chain)
