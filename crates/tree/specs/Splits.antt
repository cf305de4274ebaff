-- The stores of a split (§5.2): a leaf takes the free group at the head, and its chain is dealt to the children's chains.
--     move_words, deal_words a dot moves to its child's chain; all dots of a chain
--     take_group, split_words        the leaf takes the group; the whole split
use Rattle.std.specs.Prelude.{List, [], ◌∷◌, ℕ, ◌+◌}
use Rattle.geometry.specs.declared.node_data.NodeData.{NodeData}
use Rattle.model.specs.Trees.{Placed, child_node}
use Rattle.model.specs.Layout.{none, branch_mark}
use Rattle.model.specs.Memory.{Mem}
use Rattle.model.specs.Insert.{route_dot}
use Rattle.tree.specs.Stores.{set_first, set_count, set_next}

module _ (nd : NodeData) where
  -- one dot moves to the head of its child's chain
  abbrev pub move_words : Mem → ℕ → Placed → Mem
  move_words m g d = let n = child_node g (route_dot nd d) in set_count (set_first (set_next m d.place (m.first n)) n d.place) n (m.count n + 1)

  abbrev pub deal_words : Mem → ℕ → List Placed → Mem
  deal_words m g [] = m
  deal_words m g (d ∷ ds) = deal_words (move_words m g d) g ds

  -- the leaf b takes the free group g
  abbrev pub take_group : Mem → ℕ → ℕ → Mem
  take_group m b g = set_first (set_count (set_first m b (child_node g 0)) b branch_mark) (child_node g 0) none

  abbrev pub split_words : Mem → ℕ → ℕ → List Placed → Mem
  split_words m b g c = deal_words (take_group m b g) g c
