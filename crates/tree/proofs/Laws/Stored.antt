-- The memory that holds a tree, the free groups and the free places.
--     nodes-and_free_once, nodes-once, node-not_free       no node stands twice, in the tree or free
--     holds-stored, stored-holds   from a world that holds a shape to its memory, and back
use Rattle.std.specs.Prelude.{◌≡◌, refl, ◌≢◌, List, [], ◌∷◌, ℕ, ◌≤◌, ◌<◌, ◌+◌, ◌*◌, length}
use Rattle.std.proofs.Common.{subst, arith}
use Rattle.model.specs.Sums.{indicator, sum_over}
use Rattle.model.proofs.Laws.Sums.{indicator_other, indicator-le, sum_below-zero, sum_over-map}
use Rattle.model.specs.Trees.{Tree, child_node, group_count, at_place, size}
use Rattle.model.specs.Shapes.{Shape, Valid}
use Rattle.model.specs.Layout.{dots_for, World, blank, Holds}
use Rattle.model.proofs.Laws.Entries.{children-once, by-node}
use Rattle.model.specs.Memory.{memory}
use Rattle.model.proofs.Laws.Memory.{holds-represented, represented-holds}
use Rattle.tree.specs.Trees.{node_count, over_group}
use Rattle.tree.proofs.Laws.Paths.{nodes-groups, node-zero}
use Rattle.tree.specs.Stored.{Stored}

-- ---- each node once

-- the nodes of free groups stand there as often as their groups
pub free-nodes : (q r : ℕ) (free : List ℕ) → r < 5 → sum_over (over_group (indicator (child_node q r))) free ≡ sum_over (indicator q) free
free-nodes q r [] b = refl
free-nodes q r (g ∷ gs) b = omega (arith, free-nodes q r gs b, children-once q r g b)

free-zero : (free : List ℕ) → sum_over (over_group (indicator 0)) free ≡ 0
free-zero [] = refl
free-zero (g ∷ gs) =
    omega (arith, free-zero gs, sum_below-zero 5 (λ i. indicator 0 (child_node g i)) (λ i b. indicator_other 0 (child_node g i) (λ e. omega arith)))

pub nodes-and_free_once : (t : Tree) (free : List ℕ) → ((k : ℕ) → group_count k t + sum_over (indicator k) free ≤ 1)
    → (k : ℕ) → node_count k 0 t + sum_over (over_group (indicator k)) free ≤ 1
nodes-and_free_once t free o =
    by-node (λ k. node_count k 0 t + sum_over (over_group (indicator k)) free ≤ 1)
    (omega (arith, node-zero 0 t, indicator-le 0 0, free-zero free))
    (λ q r b. omega (arith, nodes-groups q r 0 t b, free-nodes q r free b, o q, indicator_other (child_node q r) 0 (λ x. omega arith)))

pub nodes-once : (t : Tree) → ((k : ℕ) → group_count k t ≤ 1) → (k : ℕ) → node_count k 0 t ≤ 1
nodes-once t o k = omega (arith, nodes-and_free_once t [] (λ j. omega (arith, o j)) k)

-- a node of the tree is no node of a free group
pub node-not_free : (t : Tree) (b g i : ℕ) → i < 5 → group_count g t ≡ 0 → 1 ≤ node_count b 0 t → b ≢ child_node g i
node-not_free t b g i l z c e =
    let h : 1 ≤ node_count (child_node g i) 0 t = subst (λ (y : ℕ). 1 ≤ node_count y 0 t) e c in
    omega (arith, nodes-groups g i 0 t l, indicator_other (child_node g i) 0 (λ x. omega arith))

-- ---- a world that holds a shape

abbrev pub StoredAs : World → Shape → Type 0
StoredAs w x = Stored x.groups x.places (memory w) w.state.free_group w.state.free_place x.tree x.free_groups x.free_places

pub holds-stored : (w : World) (x : Shape) → Holds w x → StoredAs w x
holds-stored w x h =
    let r = holds-represented w x h in
    record {
      tree = r.tree;
      groups = r.groups;
      places = r.places;
      groups_once = h.valid.groups_once;
      places_once = λ k. omega (arith, h.valid.places_once k, sum_over-map (at_place k) blank x.free_places);
    }

-- the lengths, and the state besides its heads
pub record Framed (w : World) (x : Shape) : Type 0 where
  pub nodes : length w.nodes ≡ 2 + 10 * x.groups
  pub dots : length w.dots ≡ dots_for x.places
  pub rects : length w.rects ≡ 4 * x.places
  pub marks : length w.marks ≡ x.places + x.groups
  pub settings : w.state.settings ≡ x.settings
  pub live : w.state.live ≡ size x.tree
  pub changes : w.state.changes ≡ x.changes

pub stored-holds : (w : World) (x : Shape) → Valid x → Framed w x → StoredAs w x → Holds w x
stored-holds w x v f s =
    represented-holds w x v
    (record {
      nodes = f.nodes;
      dots = f.dots;
      rects = f.rects;
      marks = f.marks;
      tree = s.tree;
      groups = s.groups;
      places = s.places;
      settings = f.settings;
      live = f.live;
      changes = f.changes;
    })
