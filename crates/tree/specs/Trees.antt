-- A tree in the rows, as the walks meet it, and its nodes.
--     sum_nodes, node_count  a weight summed over the nodes; how often a node stands in the tree
--     node_total    how many nodes the tree has
--     over_group    a weight summed over the nodes of a group; sumLast: over its last children; joinLast: lists joined over them
--     TreeStands   the tree stands at a node, in rows that have its nodes and places
use Rattle.std.specs.Prelude.{List, [], ◌++◌, ℕ, zero, suc, ◌+◌, ◌-◌, ◌≤◌, ◌<◌, ℤ}
use Rattle.model.specs.Sums.{indicator, sum_below}
use Rattle.model.specs.Trees.{Tree, leaf, branch, child_node, Placed, AllDots, Shallow, size}
use Rattle.model.specs.Memory.{read, Represents}
use Rattle.memory.specs.Rows.{HasNode, HasPlace, HasRect}

abbrev pub sum_nodes : (ℕ → ℕ) → ℕ → Tree → ℕ
sum_nodes h a (leaf c) = h a
sum_nodes h a (branch g f) = h a + sum_below 5 (λ i. sum_nodes h (child_node g i) (f i))

abbrev pub node_count : ℕ → ℕ → Tree → ℕ
node_count k a t = sum_nodes (indicator k) a t

abbrev pub node_total : Tree → ℕ
node_total (leaf chain) = 1
node_total (branch g f) = 1 + sum_below 5 (λ i. node_total (f i))

-- over the children of a group from 5 - left on
abbrev pub sum_last : ℕ → (ℕ → ℕ) → ℕ
sum_last zero f = 0
sum_last (suc left) f = f (5 - suc left) + sum_last left f

abbrev pub join_last : {A : Type 0} → ℕ → (ℕ → List A) → List A
join_last zero f = []
join_last (suc left) f = f (5 - suc left) ++ join_last left f

-- the nodes of a group
abbrev pub over_group : (ℕ → ℕ) → ℕ → ℕ
over_group h g = sum_below 5 (λ i. h (child_node g i))

abbrev pub InRows : List ℕ → List ℤ → Placed → Type 0
InRows dots rects d = HasPlace dots d.place × HasRect rects d.place

-- the rows have each node of the tree, and how many nodes it has
abbrev pub NodesIn : List ℕ → ℕ → Tree → Type 0
NodesIn nodes a (leaf chain) = HasNode nodes a
NodesIn nodes a (branch g f) = HasNode nodes a × ((i : ℕ) → i < 5 → NodesIn nodes (child_node g i) (f i))

pub record TreeStands (nodes dots : List ℕ) (rects : List ℤ) (levels a : ℕ) (t : Tree) : Type 0 where
  pub represents : Represents (read nodes dots rects) a t
  pub shallow : Shallow levels t
  pub nodes_in : NodesIn nodes a t
  pub dots_in : AllDots (InRows dots rects) t
  pub few : size t ≤ 65536
