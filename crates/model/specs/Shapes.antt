-- The abstract state: everything that a lent memory which is a tree says, and nothing else (§2.11, §2.12).
--     Shape        settings, G, N, the tree with its addresses, the free groups and the free places in the order of their lists, the count of changes
--     Valid        the rules of §2.12 that speak of the tree
--     fresh        the shape that an accepted make leaves
--     reshaped     one change more, which every call that changes the tree makes
--     inserted, removed, cleaned   the shapes that the calls leave; splits_made, found_by, cleans: what they answer
--     splits_needed the splits that refusal 7 asks about
--     listed, opens_for, all_ids, leaves, references     what the reading calls answer
use Rattle.std.specs.Prelude.{◌≡◌, List, [], ◌∷◌, map, Bool, true, not, cond, ℕ, ◌+◌, ◌≤◌, ◌<◌, ℤ, length, ltb}
use Rattle.geometry.specs.declared.aabb.AABB.{AABB}
use Rattle.geometry.specs.declared.settings.Settings.{Settings}
use Rattle.geometry.specs.declared.node_data.NodeData.{NodeData}
use Rattle.geometry.specs.Settings.{in_range, D}
use Rattle.geometry.specs.Cells.{root_data, child_data, may_split}
use Rattle.model.specs.declared.Dot.{Dot}
use Rattle.model.specs.declared.Window.{Window}
use Rattle.model.specs.Lists.{All, up_to, count}
use Rattle.model.specs.Dots.{acceptable_dot}
use Rattle.model.specs.Trees.{Placed, Tree, leaf, branch, group_count, place_count, AllDots, size, dots, id_of}
use Rattle.model.specs.Insert.{Grown, route_dot, insert_at}
use Rattle.model.specs.Remove.{remove_says, remove_at, remove_place}
use Rattle.model.specs.Cleanup.{is_zero, clean_tree, freed_by, turned}
use Rattle.model.specs.Query.{hits, opened, leaves_of, leaf_count}

pub record Shape : Type 0 where
  pub settings : Settings
  pub groups : ℕ
  pub places : ℕ
  pub tree : Tree
  pub free_groups : List ℕ
  pub free_places : List ℕ
  pub changes : ℕ

-- 1 below n, else 0
unfoldable pub below : ℕ → ℕ → ℕ
below k n = cond (ltb k n) 1 0

-- §2.12, the rules below a node. Of a leaf: its dots are acceptable, and no more than the leaf limit if it may split. Of a branch: as a leaf it might split
-- (so child 0 is a leaf), and every dot below a child goes to that child.
-- The last part is no rule about words: a branch has no child beyond 4, so that a memory has one shape at most.
abbrev pub WellFormed : Settings → NodeData → Tree → Type 0
WellFormed s n (leaf chain) = All (λ d. acceptable_dot s d.dot ≡ true) chain × (may_split s n ≡ true → length chain ≤ s.leaf_limit)
WellFormed s n (branch g f) =
    (may_split s n ≡ true)
    × ((i : ℕ) → i < 5 → AllDots (λ d. route_dot n d ≡ i) (f i) × WellFormed s (child_data n i) (f i))
    × ((i : ℕ) → 5 ≤ i → f i ≡ leaf [])

pub record Valid (x : Shape) : Type 0 where
  -- §2.1, §1.4: G, N and the settings in range
  pub groups_fit : x.groups ≤ 16384
  pub places_fit : x.places ≤ 65536
  pub settings_fit : in_range x.settings ≡ true
  -- §2.12: every group and every place is met once, in the tree or in the free list
  pub groups_once : (k : ℕ) → group_count k x.tree + count k x.free_groups ≡ below k x.groups
  pub places_once : (k : ℕ) → place_count k x.tree + count k x.free_places ≡ below k x.places
  pub well_formed : WellFormed x.settings (root_data x.settings) x.tree

-- §2.11, §21.1: an empty leaf; the free lists in rising order; no change yet
unfoldable pub fresh : Settings → ℕ → ℕ → Shape
fresh s groups places =
    record { settings = s; groups = groups; places = places; tree = leaf []; free_groups = up_to groups; free_places = up_to places; changes = 0 }

-- §21.1: a change. The same room, with another tree and other free lists; the count rises by 1.
abbrev pub reshaped : Shape → Tree → List ℕ → List ℕ → Shape
reshaped x t free_groups free_places =
    record {
      settings = x.settings;
      groups = x.groups;
      places = x.places;
      tree = t;
      free_groups = free_groups;
      free_places = free_places;
      changes = x.changes + 1;
    }

abbrev pub root : Shape → NodeData
root x = root_data x.settings

-- §2.10: what is taken, and what is left
abbrev pub head_of : List ℕ → ℕ
head_of [] = 0
head_of (k ∷ ks) = k

abbrev pub tail_of : List ℕ → List ℕ
tail_of [] = []
tail_of (k ∷ ks) = ks

-- Insert (§5): the dot at the place that it will have, and what the insert leaves where the free groups are `free`
abbrev pub placed_in : Dot → Shape → Placed
placed_in dot x = record { place = head_of x.free_places; dot = dot }

abbrev pub grown_by : Dot → Shape → List ℕ → Grown
grown_by dot x free = insert_at x.settings (D x.settings) (root x) (placed_in dot x) x.tree free

-- §5.4: the splits that an insert makes
unfoldable pub splits_made : Dot → Shape → ℕ
splits_made dot x = (grown_by dot x x.free_groups).splits

-- §11.4: the splits that the same insert makes with groups enough. D are enough (`splits-enough` of Laws.Splitting).
unfoldable pub splits_needed : Dot → Shape → ℕ
splits_needed dot x = (grown_by dot x (up_to (D x.settings))).splits

unfoldable pub inserted : Dot → Shape → Shape
inserted dot x = let grown = grown_by dot x x.free_groups in reshaped x grown.tree grown.free (tail_of x.free_places)

-- Remove (§6): yes or no, and the shape after a yes
unfoldable pub found_by : ℕ → AABB → Shape → Bool
found_by id r x = remove_says id r (root x) x.tree

unfoldable pub removed : ℕ → AABB → Shape → Shape
removed id r x = reshaped x (remove_at id r (root x) x.tree) x.free_groups (remove_place id r (root x) x.tree ∷ x.free_places)

-- Cleanup (§7): yes or no, and the shape after a yes
unfoldable pub cleans : Shape → Bool
cleans x = not (is_zero (turned x.tree))

unfoldable pub cleaned : Shape → Shape
cleaned x = reshaped x (clean_tree x.tree) (freed_by x.tree x.free_groups) x.free_places

-- Query (§8): the ids, and the nodes opened
unfoldable pub listed : Window → Shape → List ℕ
listed q x = map id_of (hits q (root x) x.tree)

unfoldable pub opens_for : AABB → Shape → ℕ
opens_for q x = opened q (root x) x.tree

-- All (§8.7): the ids of all dots; `dots` has their order
unfoldable pub all_ids : Shape → List ℕ
all_ids x = map id_of (dots x.tree)

-- Leaves (§9.1, §9.2) and references (§9.3)
unfoldable pub leaves : Shape → List ℤ
leaves x = leaves_of (root x) x.tree

unfoldable pub leaf_number : Shape → ℕ
leaf_number x = leaf_count x.tree

unfoldable pub references : Shape → ℕ
references x = size x.tree
