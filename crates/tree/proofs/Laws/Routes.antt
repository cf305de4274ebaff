-- The way of a rectangle to its leaf.
--     chain_for, path_to     the leaf's chain, the path to it
--     remove-path, says-path, place-path   a remove, told by the leaf alone
--     holds-guided, holds-way      the nodes of a world that holds a shape lead through its tree
use Rattle.std.specs.Prelude.{◌≡◌, refl, List, [], ◌∷◌, ℕ, ◌+◌, ◌*◌, ◌≤◌, ◌<◌, length}
use Rattle.std.proofs.Common.{ap, sym, ◌∙◌, subst, arith}
use Rattle.std.proofs.Math.Decide.{dec_lt}
use Rattle.geometry.specs.declared.aabb.AABB.{AABB}
use Rattle.geometry.specs.declared.node_data.NodeData.{NodeData}
use Rattle.geometry.specs.Cells.{child_data, route, root_data}
use Rattle.geometry.proofs.Laws.Geometry.{route-child, may-splits}
use Rattle.geometry.specs.declared.settings.Settings.{Settings}
use Rattle.geometry.specs.Settings.{in_range}
use Rattle.geometry.proofs.Laws.Ranges.{accepted}
use Rattle.model.specs.Sums.{changed}
use Rattle.model.specs.Trees.{Placed, Tree, leaf, branch, child_node, group_count, size}
use Rattle.model.specs.Remove.{first_has, first_out, first_place, remove_says, remove_at, remove_place}
use Rattle.model.proofs.Laws.Sums.{indicator-same, sum_over-one, sum_below_term, by_dec}
use Rattle.model.specs.Shapes.{WellFormed, below, Shape, root}
use Rattle.model.specs.Layout.{branch_mark, World, Holds}
use Rattle.model.specs.Memory.{Mem, first_at, count_at, Represents, memory}
use Rattle.model.proofs.Laws.Shapes.{below-no, live-and_free}
use Rattle.model.proofs.Laws.Layout.{holds-settings}
use Rattle.model.proofs.Laws.Memory.{holds-represented}
use Rattle.memory.specs.Rows.{HasNode}
use Rattle.tree.specs.Paths.{sub, node_at, put, Reach}
use Rattle.tree.specs.Routes.{leaf_for, Guided, Way}

module _ (r : AABB) where
  abbrev pub chain_for : NodeData → Tree → List Placed
  chain_for n (leaf chain) = chain
  chain_for n (branch g f) = let i = route n r in chain_for (child_data n i) (f i)

  abbrev pub path_to : NodeData → Tree → List ℕ
  path_to n (leaf chain) = []
  path_to n (branch g f) = let i = route n r in i ∷ path_to (child_data n i) (f i)

  pub path-reach : (n : NodeData) (t : Tree) → Reach t (path_to n t)
  path-reach n (leaf chain) = tt
  path-reach n (branch g f) = let i = route n r in (route-child n r, path-reach (child_data n i) (f i))

  pub path-sub : (n : NodeData) (t : Tree) → sub t (path_to n t) ≡ leaf (chain_for n t)
  path-sub n (leaf chain) = refl
  path-sub n (branch g f) = let i = route n r in path-sub (child_data n i) (f i)

  pub path-node : (n : NodeData) (a : ℕ) (t : Tree) → node_at a t (path_to n t) ≡ (leaf_for r n a t).node
  path-node n a (leaf chain) = refl
  path-node n a (branch g f) = let i = route n r in path-node (child_data n i) (child_node g i) (f i)

  -- ---- a remove

  module _ (id : ℕ) where
    pub says-path : (n : NodeData) (t : Tree) → remove_says id r n t ≡ first_has id (chain_for n t)
    says-path n (leaf chain) = refl
    says-path n (branch g f) = let i = route n r in says-path (child_data n i) (f i)

    pub place-path : (n : NodeData) (t : Tree) → remove_place id r n t ≡ first_place id (chain_for n t)
    place-path n (leaf chain) = refl
    place-path n (branch g f) = let i = route n r in place-path (child_data n i) (f i)

    pub remove-path : (n : NodeData) (t : Tree) → remove_at id r n t ≡ put t (path_to n t) (leaf (first_out id (chain_for n t)))
    remove-path n (leaf chain) = refl
    remove-path n (branch g f) = let i = route n r in ap (λ (u : Tree). branch g (changed f i u)) (remove-path (child_data n i) (f i))

-- ---- in the nodes

module _ (nodes : List ℕ) (m : Mem) (firsts : m.first ≡ first_at nodes) (counts : m.count ≡ count_at nodes)
    (s : Settings) (limit : s.depth_limit ≤ 255) (groups : ℕ) (fits : length nodes ≡ 2 + 10 * groups) where
  represents-guided : (n : NodeData) (a : ℕ) (t : Tree) → Represents m a t → WellFormed s n t → HasNode nodes a
      → ((k : ℕ) → group_count k t ≤ below k groups) → size t < branch_mark → Guided nodes n a t
  represents-guided n a (leaf chain) r v h k small = (h, λ e. omega (arith, ap (λ (f : ℕ → ℕ). f a) counts, r.0, sum_over-one chain))
  represents-guided n a (branch g f) r v h k small =
      let may = may-splits s n v.0 in
      let inside : g < groups = by_dec (dec_lt g groups) (λ l. l) (λ l. absurd (omega (arith, k g, below-no g groups (omega arith), indicator-same g))) in (
        h,
        sym (ap (λ (f : ℕ → ℕ). f a) counts) ∙ r.0,
        sym (ap (λ (f : ℕ → ℕ). f a) firsts) ∙ r.1,
        may.no_child0,
        omega (arith, may.above),
        λ i b.
            represents-guided (child_data n i) (child_node g i) (f i) (r.2 i b) (v.1 i b).1 (omega arith)
            (λ j. omega (arith, k j, sum_below_term 5 (λ i. group_count j (f i)) i b))
            (omega (arith, sum_below_term 5 (λ i. size (f i)) i b)),
      )

pub holds-guided : (w : World) (x : Shape) → Holds w x → Guided w.nodes (root x) 0 x.tree
unfolding branch_mark
holds-guided w x h =
    let r = holds-represented w x h in
    let v = h.valid in
    represents-guided w.nodes (memory w) refl refl x.settings (accepted x.settings v.settings_fit).depth x.groups r.nodes (root x) 0 x.tree
    r.tree v.well_formed (omega (arith, r.nodes)) (λ k. omega (arith, v.groups_once k)) (omega (arith, live-and_free x v, v.places_fit))

pub holds-way : (w : World) (x : Shape) → Holds w x → Way w.state.settings w.nodes
holds-way w x h =
    let e = holds-settings w x h in
    record {
      accepted = ap in_range e ∙ h.valid.settings_fit;
      tree = x.tree;
      guided = subst (λ (s : Settings). Guided w.nodes (root_data s) 0 x.tree) (sym e) (holds-guided w x h);
    }
