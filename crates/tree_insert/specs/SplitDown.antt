-- The splits on the way down (§5.2).
--     Ended, ended_from, ended      the tree and the free groups that an insert ends with; what is left to do at the end of a path
--     Inserting    an insert is on its way: a leaf of a stored tree, the splits left, and what the insert ends with
--     Continues    every insert that was on its way in the one memory is on its way in the other
--     CanSplitDown, SplitsDone     what the loop asks, and what it leaves
use Rattle.std.specs.Prelude.{List, ◌≡◌, true, ℕ, ◌+◌, ◌*◌, ◌≤◌, ℤ, length}
use Rattle.geometry.specs.declared.node_data.NodeData.{NodeData}
use Rattle.geometry.specs.declared.settings.Settings.{Settings}
use Rattle.geometry.specs.declared.aabb.AABB.{AABB}
use Rattle.geometry.specs.Settings.{in_range}
use Rattle.geometry.specs.Cells.{InRange}
use Rattle.model.specs.Layout.{dots_for}
use Rattle.model.specs.Trees.{Tree, Placed, leaf}
use Rattle.model.specs.Insert.{insert_at, Grown}
use Rattle.model.specs.declared.Dot.{Dot}
use Rattle.model.specs.Shapes.{Shape, placed_in, grown_by}
use Rattle.model.specs.Memory.{read}
use Rattle.model.specs.Insert.{split_count}
use Rattle.tree.specs.Paths.{sub, put, Reach}
use Rattle.tree.specs.declared.find.Leaf.{Leaf}
use Rattle.tree.specs.Stored.{Stored}
use Rattle.tree.specs.Paths as paths
use Rattle.tree_insert.specs.declared.split.Reached.{Reached}

-- the tree and the free groups that the insert ends with
pub record Ended : Type 0 where
  pub tree : Tree
  pub free : List ℕ

module _ (S : Settings) (d : Placed) where
  abbrev pub ended_from : ℕ → NodeData → Tree → List ℕ → List ℕ → Ended
  ended_from n c t p free = let r = insert_at S n c d (sub t p) free in record { tree = put t p r.tree; free = r.free }

-- the tree and the free groups that an insert leaves
abbrev pub ended : Grown → Ended
ended g = record { tree = g.tree; free = g.free }

pub record Inserting (x : Shape) (dot : Dot) (place_head : ℕ) (nodes dots : List ℕ) (rects : List ℤ) (group_head node : ℕ) (n : NodeData)
    (left : ℕ) : Type 0 where
  pub tree : Tree
  pub path : List ℕ
  pub free : List ℕ
  pub chain : List Placed
  pub levels : ℕ
  pub settings : in_range x.settings ≡ true
  pub nodes_fit : length nodes ≡ 2 + 10 * x.groups
  pub dots_fit : length dots ≡ dots_for x.places
  pub rects_fit : length rects ≡ 4 * x.places
  pub reach : Reach tree path
  pub here : sub tree path ≡ leaf chain
  pub at : paths.node_at 0 tree path ≡ node
  pub stored : Stored x.groups x.places (read nodes dots rects) group_head place_head tree free x.free_places
  pub rest : split_count x.settings levels n dot.rect (leaf chain) ≡ left
  pub enough : left ≤ length free
  pub short : length chain ≤ 65536
  pub range : InRange n.cell
  pub ends : ended_from x.settings (placed_in dot x) levels n tree path free ≡ ended (grown_by dot x x.free_groups)

-- the insert of every dot with this rectangle that was on its way in the one memory is on its way in the other
abbrev pub Continues : AABB → List ℤ → List ℕ → List ℕ → ℕ → ℕ → NodeData → ℕ → List ℕ → List ℕ → ℕ → ℕ → NodeData → ℕ → Type 0
Continues r rects nodes dots group_head node n left nodes' dots' group_head' node' n' left' =
    (x : Shape) (dot : Dot) (place_head : ℕ) → dot.rect ≡ r → Inserting x dot place_head nodes dots rects group_head node n left
    → Inserting x dot place_head nodes' dots' rects group_head' node' n' left'

-- what the loop asks: an insert is on its way
pub record CanSplitDown (r : AABB) (nodes dots : List ℕ) (rects : List ℤ) (group_head : ℕ) (l : Leaf) (left : ℕ) : Type 0 where
  pub shape : Shape
  pub dot : Dot
  pub rect : dot.rect ≡ r
  pub place_head : ℕ
  pub inserting : Inserting shape dot place_head nodes dots rects group_head l.node l.node_data left

-- what it leaves: it has made its splits
abbrev pub SplitsDone : AABB → List ℕ → List ℕ → List ℤ → ℕ → Leaf → ℕ → List ℕ → List ℕ → Reached → Type 0
SplitsDone r nodes dots rects group_head l left nodes' dots' reached =
    (n : NodeData) × Continues r rects nodes dots group_head l.node l.node_data left nodes' dots' reached.group reached.node n 0
