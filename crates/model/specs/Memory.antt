-- The words read node by node and place by place: the relation that code is proved with. Laws.Memory shows that it and the layout say the same.
--     Mem, read, memory    the words as functions of a node's or a place's number: a store into a row is a change of one of them
--     first_at, count_at, id_at, next_at, ink_at, rect_at, dot_at where each word stands in its row
--     Chained, Represents, FreeGroups      a chain, a tree at a node, the free groups
--     Represented w x      the world w, read so, has the shape x
use Rattle.std.specs.Prelude.{◌≡◌, List, [], ◌∷◌, map, ℕ, ◌+◌, ◌*◌, ◌≤◌, ◌<◌, ℤ, pos, length, get_or}
use Rattle.geometry.specs.declared.aabb.AABB.{AABB}
use Rattle.model.specs.declared.Dot.{Dot}
use Rattle.model.specs.Trees.{Placed, Tree, leaf, branch, child_node, size}
use Rattle.model.specs.Shapes.{Shape}
use Rattle.model.specs.Layout.{dots_for, World, none, branch_mark, blank}

-- the words of each node, and each place's dot and next
pub record Mem : Type 0 where
  pub first : ℕ → ℕ
  pub count : ℕ → ℕ
  pub dot : ℕ → Dot
  pub next : ℕ → ℕ

-- §2.1: where the words of a node stand
unfoldable pub first_at : List ℕ → ℕ → ℕ
first_at nodes a = get_or nodes (2 * a + 0) 0

unfoldable pub count_at : List ℕ → ℕ → ℕ
count_at nodes a = get_or nodes (2 * a + 1) 0

-- §2.1: .. and of a place
unfoldable pub id_at : List ℕ → ℕ → ℕ
id_at dots p = get_or dots (3 * p + 0) 0

unfoldable pub next_at : List ℕ → ℕ → ℕ
next_at dots p = get_or dots (3 * p + 1) 0

unfoldable pub ink_at : List ℕ → ℕ → ℕ
ink_at dots p = get_or dots (3 * p + 2) 0

unfoldable pub rect_at : List ℤ → ℕ → AABB
rect_at rects p =
    record {
      x1 = get_or rects (4 * p + 0) (pos 0);
      y1 = get_or rects (4 * p + 1) (pos 0);
      x2 = get_or rects (4 * p + 2) (pos 0);
      y2 = get_or rects (4 * p + 3) (pos 0);
    }

abbrev pub dot_at : List ℕ → List ℤ → ℕ → Dot
dot_at dots rects p = record { id = id_at dots p; rect = rect_at rects p; ink = ink_at dots p }

abbrev pub read : List ℕ → List ℕ → List ℤ → Mem
read nodes dots rects = record { first = first_at nodes; count = count_at nodes; dot = dot_at dots rects; next = next_at dots }

abbrev pub memory : World → Mem
memory w = read w.nodes w.dots w.rects

-- from the link h the places of the chain follow one another, and the last next is e (none, for a whole chain)
abbrev pub Chained : Mem → ℕ → List Placed → ℕ → Type 0
Chained m h [] e = h ≡ e
Chained m h (d ∷ ds) e = (h ≡ d.place) × (m.dot d.place ≡ d.dot) × Chained m (m.next d.place) ds e

-- the tree stands at the node a
abbrev pub Represents : Mem → ℕ → Tree → Type 0
Represents m a (leaf chain) = (m.count a ≡ length chain) × Chained m (m.first a) chain none
Represents m a (branch g f) = (m.count a ≡ branch_mark) × (m.first a ≡ child_node g 0) × ((i : ℕ) → i < 5 → Represents m (child_node g i) (f i))

-- from the head h the free groups follow one another
abbrev pub FreeGroups : Mem → ℕ → List ℕ → Type 0
FreeGroups m h [] = h ≡ none
FreeGroups m h (g ∷ gs) =
    (h ≡ child_node g 0) × (m.count (child_node g 0) ≡ 0)
    × ((i : ℕ) → 1 ≤ i → i < 5 → (m.first (child_node g i) ≡ none) × (m.count (child_node g i) ≡ 0))
    × FreeGroups m (m.first (child_node g 0)) gs

pub record Represented (w : World) (x : Shape) : Type 0 where
  pub nodes : length w.nodes ≡ 2 + 10 * x.groups
  pub dots : length w.dots ≡ dots_for x.places
  pub rects : length w.rects ≡ 4 * x.places
  pub marks : length w.marks ≡ x.places + x.groups
  pub tree : Represents (memory w) 0 x.tree
  pub groups : FreeGroups (memory w) w.state.free_group x.free_groups
  pub places : Chained (memory w) w.state.free_place (map blank x.free_places) none
  pub settings : w.state.settings ≡ x.settings
  pub live : w.state.live ≡ size x.tree
  pub changes : w.state.changes ≡ x.changes
