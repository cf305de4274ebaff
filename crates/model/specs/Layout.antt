-- The lent memory, and the words of a shape in it (§2).
--     World        state, nodes, dots, rects and marks: all that a call is given and leaves, besides its own arguments and its answer
--     layout       THE words of a shape: an explicit function; marks 0
--     cleared      a world with its marks 0
--     Holds w x    the world w is a tree, and its shape is x
-- How the words are found: a shape has one entry for each node and one for each place; a row reads them off, in the order of the numbers.
use Rattle.std.specs.Prelude.{◌≡◌, List, [], ◌∷◌, ◌++◌, map, Bool, cond, ◌&&◌, ℕ, ◌+◌, ◌*◌, ◌/◌, ℤ, eqb, leb, length, replicate}
use Rattle.geometry.specs.declared.aabb.AABB.{AABB}
use Rattle.model.specs.declared.State.{State}
use Rattle.model.specs.declared.Dot.{Dot}
use Rattle.model.specs.Lists.{join_below}
use Rattle.model.specs.Dots.{zero_dot}
use Rattle.model.specs.Trees.{Placed, Tree, leaf, branch, child_node, size}
use Rattle.model.specs.Shapes.{Shape, Valid}

pub record World : Type 0 where
  pub state : State
  pub nodes : List ℕ
  pub dots : List ℕ
  pub rects : List ℤ
  pub marks : List ℕ

abbrev pub world : State → List ℕ → List ℕ → List ℤ → List ℕ → World
world s nodes dots rects marks = record { state = s; nodes = nodes; dots = dots; rects = rects; marks = marks }

-- a state with other free heads and another live number, and one change more
abbrev pub changed_state : State → ℕ → ℕ → ℕ → State
changed_state s free_group free_place live =
    record { settings = s.settings; free_group = free_group; free_place = free_place; live = live; changes = s.changes + 1 }

-- the state t, with the settings of s
abbrev pub same_settings : State → State → State
same_settings s t =
    record { settings = s.settings; free_group = t.free_group; free_place = t.free_place; live = t.live; changes = t.changes }

-- ---- lengths

-- G and N, read off the lengths of the nodes and the dots
abbrev pub groups_in : ℕ → ℕ
groups_in nodes = nodes / 10

abbrev pub places_in : ℕ → ℕ
places_in dots = dots / 3

-- §2.1: the words of so many places in the row of dots
abbrev pub dots_for : ℕ → ℕ
dots_for places = 3 * places

abbrev pub groups_of : World → ℕ
groups_of w = groups_in (length w.nodes)

abbrev pub places_of : World → ℕ
places_of w = places_in (length w.dots)

-- §2.1: the nodes
abbrev pub nodes_right : World → Bool
nodes_right w = eqb (length w.nodes) (2 * (1 + 5 * groups_of w)) && leb (groups_of w) 16384

-- §2.1: dots and rects
abbrev pub dots_right : World → Bool
dots_right w = eqb (length w.dots) (dots_for (places_of w)) && leb (places_of w) 65536 && eqb (length w.rects) (4 * places_of w)

-- §2.1: the marks
abbrev pub marks_right : World → Bool
marks_right w = eqb (length w.marks) (places_of w + groups_of w)

-- §11.1: what refusal 1 tests
unfoldable pub lengths_right : World → Bool
lengths_right w = nodes_right w && dots_right w && marks_right w

-- ---- words

-- §2.4, §2.6: the end of a list, and a branch's count
unfoldable pub none : ℕ
none = 4294967295

unfoldable pub branch_mark : ℕ
branch_mark = 4294967295

-- the head of a list of groups, by its first node, and of a chain; none, if it is empty
abbrev pub first_node : List ℕ → ℕ
first_node [] = none
first_node (g ∷ gs) = child_node g 0

abbrev pub first_dot : List Placed → ℕ
first_dot [] = none
first_dot (d ∷ ds) = d.place

-- a node with its two words, a place with its dot and next
pub record NodeEntry : Type 0 where
  pub node : ℕ
  pub first : ℕ
  pub count : ℕ

pub record PlaceEntry : Type 0 where
  pub place : ℕ
  pub dot : Dot
  pub next : ℕ

-- §2.5, §2.6: the nodes of a tree that stands at the node a
abbrev pub tree_nodes : ℕ → Tree → List NodeEntry
tree_nodes a (leaf chain) = record { node = a; first = first_dot chain; count = length chain } ∷ []
tree_nodes a (branch g f) = record { node = a; first = child_node g 0; count = branch_mark } ∷ join_below 5 (λ i. tree_nodes (child_node g i) (f i))

-- §2.8: the five nodes of each free group
abbrev pub free_group_nodes : List ℕ → List NodeEntry
free_group_nodes [] = []
free_group_nodes (g ∷ gs) =
    record { node = child_node g 0; first = first_node gs; count = 0 }
    ∷ join_below 4 (λ i. record { node = child_node g (1 + i); first = none; count = 0 } ∷ [])
    ++ free_group_nodes gs

-- §2.7: the places of a chain
abbrev pub chain_places : List Placed → List PlaceEntry
chain_places [] = []
chain_places (d ∷ ds) = record { place = d.place; dot = d.dot; next = first_dot ds } ∷ chain_places ds

abbrev pub tree_places : Tree → List PlaceEntry
tree_places (leaf chain) = chain_places chain
tree_places (branch g f) = join_below 5 (λ i. tree_places (f i))

-- §2.9: the free places are a chain of blank dots
abbrev pub blank : ℕ → Placed
blank p = record { place = p; dot = zero_dot }

-- the entries of a shape
abbrev pub node_entries : Shape → List NodeEntry
node_entries x = tree_nodes 0 x.tree ++ free_group_nodes x.free_groups

abbrev pub place_entries : Shape → List PlaceEntry
place_entries x = tree_places x.tree ++ chain_places (map blank x.free_places)

-- the words of node k and of place k, from the entry that has that number (each number of a valid shape has one entry)
abbrev pub node_words : List NodeEntry → ℕ → List ℕ
node_words [] k = 0 ∷ 0 ∷ []
node_words (e ∷ es) k = cond (eqb k e.node) (e.first ∷ e.count ∷ []) (node_words es k)

-- §2.1: id, next, ink
abbrev pub place_words : Dot → ℕ → List ℕ
place_words d next = d.id ∷ next ∷ d.ink ∷ []

abbrev pub dot_words : List PlaceEntry → ℕ → List ℕ
dot_words [] k = place_words zero_dot 0
dot_words (e ∷ es) k = cond (eqb k e.place) (place_words e.dot e.next) (dot_words es k)

-- §2.1: x1, y1, x2, y2
abbrev pub rect_words : AABB → List ℤ
rect_words r = r.x1 ∷ r.y1 ∷ r.x2 ∷ r.y2 ∷ []

abbrev pub place_rect : List PlaceEntry → ℕ → List ℤ
place_rect [] k = rect_words zero_dot.rect
place_rect (e ∷ es) k = cond (eqb k e.place) (rect_words e.dot.rect) (place_rect es k)

-- ---- the whole

-- §2.3; §2.12: live is the number of dots in the tree; every count of changes will do
unfoldable pub state_of : Shape → State
state_of x =
    record {
      settings = x.settings;
      free_group = first_node x.free_groups;
      free_place = first_dot (map blank x.free_places);
      live = size x.tree;
      changes = x.changes;
    }

-- §2.1: every word, in the order of the numbers of nodes and places
unfoldable pub layout : Shape → World
layout x =
    record {
      state = state_of x;
      nodes = join_below (1 + 5 * x.groups) (node_words (node_entries x));
      dots = join_below x.places (dot_words (place_entries x));
      rects = join_below x.places (place_rect (place_entries x));
      marks = replicate (x.places + x.groups) 0;
    }

-- §2.13: what a call makes of the marks
unfoldable pub cleared : World → World
cleared w =
    record { state = w.state; nodes = w.nodes; dots = w.dots; rects = w.rects; marks = replicate (length w.marks) 0 }

-- §2.12, §2.13: the memory is a tree, whatever its marks hold: its other words are those of a valid shape
pub record Holds (w : World) (x : Shape) : Type 0 where
  pub valid : Valid x
  pub words : cleared w ≡ layout x
