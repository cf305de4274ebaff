-- An insert at the leaf that its dot routes to: what the code has found there, and the insert on its way.
--     Arrived, arrive      the insert of the whole tree, told by the leaf
--     listed_free, countable       the free groups can be walked along, and the splits counted there
--     needed-is    what is told is the splits needed, or that they are too many for the free groups
--     inserting-start      the insert is on its way
use Rattle.std.specs.Prelude.{◌≡◌, refl, List, ℕ, zero, suc, ◌≤◌, ℤ, length, Option}
use Rattle.std.proofs.Common.{ap, sym, ◌∙◌, subst, arith}
use Rattle.geometry.specs.declared.aabb.AABB.{AABB}
use Rattle.geometry.specs.declared.settings.Settings.{Settings}
use Rattle.geometry.specs.declared.node_data.NodeData.{NodeData}
use Rattle.geometry.specs.Cells.{InRange, child_data, route, root_data}
use Rattle.geometry.proofs.Laws.Geometry.{route-child, levels_fall, levels-root}
use Rattle.geometry.specs.Levels.{levels_left}
use Rattle.geometry.proofs.Laws.Ranges.{child-range, accepted, root-range}
use Rattle.geometry.specs.Settings.{D}
use Rattle.model.specs.Trees.{Tree, leaf, branch, child_node, Placed, Shallow}
use Rattle.model.specs.Shapes.{WellFormed, Shape, root, placed_in, splits_needed}
use Rattle.model.specs.Sums.{changed}
use Rattle.model.specs.Insert.{Grown, insert_at}
use Rattle.model.specs.Insert.{split_count}
use Rattle.model.specs.declared.State.{State}
use Rattle.model.specs.declared.Dot.{Dot}
use Rattle.model.proofs.Laws.Sums.{sum_over-one}
use Rattle.model.specs.Layout.{World, world, Holds}
use Rattle.model.proofs.Laws.Splitting.{needed-count}
use Rattle.model.proofs.Laws.Shapes.{live-and_free, valid-height}
use Rattle.model.proofs.Laws.Layout.{holds-settings}
use Rattle.model.proofs.Laws.Memory.{holds-represented}
use Rattle.memory.specs.declared.node.Node.{Node}
use Rattle.memory.specs.Nodes.{node_at}
use Rattle.memory.specs.Lent.{holding}
use Rattle.tree.specs.Routes.{leaf_for, LeadsTo}
use Rattle.tree.proofs.Laws.Routes.{chain_for, path_to, path-reach, path-sub, path-node}
use Rattle.tree.specs.Paths.{put}
use Rattle.tree.specs.declared.find.Leaf.{Leaf}
use Rattle.tree.proofs.Laws.Stored.{holds-stored}
use Rattle.tree.proofs.Laws.Leaves.{here-sum, here-count, here-stands, leads-leaf}
use Rattle.tree_insert.specs.FreeGroups.{FreeIn, SomeFree}
use Rattle.tree_insert.proofs.Laws.FreeGroups.{free-listed}
use Rattle.tree_insert.specs.SplitsNeeded.{Countable, needed_of, SplitsTold}
use Rattle.tree_insert.specs.SplitDown.{Ended, ended, Inserting}

-- ---- the leaf on the tree

module _ (r : AABB) where
  leaf-range : (n : NodeData) (a : ℕ) (t : Tree) → InRange n.cell → InRange (leaf_for r n a t).node_data.cell
  unfolding child_data
  leaf-range n a (leaf chain) i = i
  leaf-range n a (branch g f) i = let k = route n r in leaf-range (child_data n k) (child_node g k) (f k) (child-range n.cell k i)

  leaf-formed : (s : Settings) (n : NodeData) (a : ℕ) (t : Tree) → WellFormed s n t → WellFormed s (leaf_for r n a t).node_data (leaf (chain_for r n t))
  leaf-formed s n a (leaf chain) v = v
  leaf-formed s n a (branch g f) v = let k = route n r in leaf-formed s (child_data n k) (child_node g k) (f k) (v.1 k (route-child n r)).1

module _ (s : Settings) (d : Placed) (free : List ℕ) where
  -- the tree with another one for the leaf that the dot routes to
  abbrev grown_there : NodeData → Tree → Grown → Grown
  grown_there n t g = record { tree = put t (path_to d.dot.rect n t) g.tree; free = g.free; splits = g.splits }

  pub record Arrived (levels : ℕ) (n : NodeData) (a : ℕ) (t : Tree) : Type 0 where
    pub left : ℕ
    pub high : levels_left s (leaf_for d.dot.rect n a t).node_data ≤ left
    pub counts : split_count s levels n d.dot.rect t
        ≡ split_count s left (leaf_for d.dot.rect n a t).node_data d.dot.rect (leaf (chain_for d.dot.rect n t))
    pub grows : insert_at s levels n d t free
        ≡ grown_there n t (insert_at s left (leaf_for d.dot.rect n a t).node_data d (leaf (chain_for d.dot.rect n t)) free)

  arrive : 1 ≤ s.smallest_cell → (levels : ℕ) (n : NodeData) (a : ℕ) (t : Tree) → Shallow levels t → WellFormed s n t → levels_left s n ≤ levels
      → Arrived levels n a t
  arrive one levels n a (leaf chain) flat v high = record { left = levels; high = high; counts = refl; grows = refl }
  arrive one zero n a (branch g f) flat v high = absurd flat
  arrive one (suc levels) n a (branch g f) flat v high =
      let i = route n d.dot.rect in
      let b = route-child n d.dot.rect in
      let below = arrive one levels (child_data n i) (child_node g i) (f i) (flat i b) (v.1 i b).1 (omega (arith, levels_fall s one n v.0 i)) in
      record {
        left = below.left;
        high = below.high;
        counts = below.counts;
        grows = ap (λ (y : Grown). record { tree = branch g (changed f i y.tree); free = y.free; splits = y.splits }) below.grows;
      }

-- ---- the leaf in the rows

module _ {s : State} {nodes dots : List ℕ} {rects : List ℤ} {marks : List ℕ} {x : Shape} (h : Holds (world s nodes dots rects marks) x)
    (dot : Dot) {l : Leaf} (leads : LeadsTo s.settings nodes dot.rect l) where
  abbrev w₀ : World
  w₀ = world s nodes dots rects marks

  abbrev l₀ : Leaf
  l₀ = leaf_for dot.rect (root x) 0 x.tree

  abbrev chain₀ : List Placed
  chain₀ = chain_for dot.rect (root x) x.tree

  at_leaf : l ≡ l₀
  at_leaf = leads-leaf h dot.rect leads

  in_range_lem : InRange l₀.node_data.cell
  unfolding root_data
  in_range_lem = leaf-range dot.rect (root x) 0 x.tree (root-range x.settings (accepted x.settings h.valid.settings_fit).root)

  arrived : Arrived x.settings (placed_in dot x) x.free_groups (D x.settings) (root x) 0 x.tree
  arrived =
      arrive x.settings (placed_in dot x) x.free_groups (accepted x.settings h.valid.settings_fit).cell (D x.settings) (root x) 0 x.tree
      (valid-height x h.valid) h.valid.well_formed (levels-root x.settings)

  short : length chain₀ ≤ 65536
  short = omega (arith, here-sum h dot.rect (λ d. 1), sum_over-one chain₀, live-and_free x h.valid, h.valid.places_fit)

  -- the free groups
  groups-listed : FreeIn nodes s.free_group x.free_groups
  groups-listed = free-listed s nodes dots rects marks x h

  pub listed_free : SomeFree nodes s.free_group
  listed_free = record { free = x.free_groups; listed = groups-listed }

  -- the count of its splits
  module _ {node : Node} (words : node ≡ node_at nodes l.node) where
    counted : (k : Countable x.settings (holding nodes dots rects) (node_at nodes l₀.node) l₀.node_data) × (k.chain ≡ chain₀)
    counted = (
      record {
        settings = h.valid.settings_fit;
        range = in_range_lem;
        chain = chain₀;
        stands = here-stands h dot.rect;
        dots_fit = (leaf-formed dot.rect x.settings (root x) 0 x.tree h.valid.well_formed).0;
        counted = here-count h dot.rect;
      },
      refl,
    )

    here-counted : (k : Countable s.settings (holding nodes dots rects) node l.node_data) × (k.chain ≡ chain₀)
    here-counted =
        let to : node ≡ node_at nodes l₀.node = words ∙ ap (λ (y : Leaf). node_at nodes y.node) at_leaf in
        subst (λ (y : Settings). (k : Countable y (holding nodes dots rects) node l.node_data) × (k.chain ≡ chain₀)) (sym (holds-settings w₀ x h))
        (subst (λ (y : Node). (k : Countable x.settings (holding nodes dots rects) y l.node_data) × (k.chain ≡ chain₀)) (sym to)
        (subst (λ (y : Leaf). (k : Countable x.settings (holding nodes dots rects) (node_at nodes l₀.node) y.node_data) × (k.chain ≡ chain₀))
        (sym at_leaf) counted))

    pub countable : Countable s.settings (holding nodes dots rects) node l.node_data
    countable = here-counted.0

    pub needed-is : {needed : Option ℕ} → SplitsTold s.settings (holding nodes dots rects) node l.node_data dot.rect s.free_group needed
        → needed ≡ needed_of (splits_needed dot x) (length x.free_groups)
    needed-is told =
        let e = holds-settings w₀ x h in
        let a = arrived in
        told here-counted.0 a.left
        (subst (λ (y : Leaf). levels_left s.settings y.node_data ≤ a.left) (sym at_leaf)
        (subst (λ (y : Settings). levels_left y l₀.node_data ≤ a.left) (sym e) a.high)) x.free_groups groups-listed
        ∙ ap (λ (k : ℕ). needed_of k (length x.free_groups))
        ((λ i. split_count (e i) a.left (at_leaf i).node_data dot.rect (leaf (here-counted.1 i))) ∙ sym a.counts ∙ sym (needed-count dot x))

  pub inserting-start : {splits : ℕ} → splits ≡ splits_needed dot x → splits ≤ length x.free_groups
      → Inserting x dot s.free_place nodes dots rects s.free_group l.node l.node_data splits
  inserting-start {splits} e enough =
      let rep = holds-represented w₀ x h in
      let a = arrived in
      let r = dot.rect in
      let d = placed_in dot x in
      let path = path_to r (root x) x.tree in
      let there : Grown → Ended = λ y. record { tree = put x.tree path y.tree; free = y.free } in
      subst (λ (y : Leaf). Inserting x dot s.free_place nodes dots rects s.free_group y.node y.node_data splits) (sym at_leaf)
      (record {
        tree = x.tree;
        path = path;
        free = x.free_groups;
        chain = chain₀;
        levels = a.left;
        settings = h.valid.settings_fit;
        nodes_fit = rep.nodes;
        dots_fit = rep.dots;
        rects_fit = rep.rects;
        reach = path-reach r (root x) x.tree;
        here = path-sub r (root x) x.tree;
        at = path-node r (root x) 0 x.tree;
        stored = holds-stored w₀ x h;
        rest = sym a.counts ∙ sym (needed-count dot x) ∙ sym e;
        enough = enough;
        short = short;
        range = in_range_lem;
        ends =
            ap (λ (u : Tree). there (insert_at x.settings a.left l₀.node_data d u x.free_groups)) (path-sub r (root x) x.tree)
            ∙ sym (ap ended a.grows);
      })
