-- The splits of a whole tree: counted by bounds they are those of the model.
--     splits-root  at the root, where every rectangle is acceptable
use Rattle.std.specs.Prelude.{◌≡◌, refl, List, [], ◌∷◌, ◌++◌, true, ℕ, zero, suc, ◌≤◌, ◌<◌}
use Rattle.std.proofs.Common.{ap, sym, ◌∙◌, arith, eq-eqb}
use Rattle.geometry.specs.declared.aabb.AABB.{AABB}
use Rattle.geometry.specs.declared.bounds.Bounds.{Bounds}
use Rattle.geometry.specs.declared.settings.Settings.{Settings}
use Rattle.geometry.specs.declared.node_data.NodeData.{NodeData}
use Rattle.geometry.specs.Settings.{acceptable}
use Rattle.geometry.specs.Bounds.{all_bounds, bounds_below, in_bounds}
use Rattle.geometry.specs.Cells.{child_data}
use Rattle.geometry.proofs.Laws.Bounds.{bounds-below, bounds-all}
use Rattle.model.specs.Lists.{All}
use Rattle.model.specs.Dots.{acceptable_dot}
use Rattle.model.specs.Trees.{Placed, Tree, leaf, branch, AllDots}
use Rattle.model.specs.Insert.{route_dot}
use Rattle.model.specs.Shapes.{WellFormed}
use Rattle.model.specs.Laying.{routed_to, rects_of, overfull_cells, splits_for}
use Rattle.model.proofs.Laws.Lists.{filter-append, all_map}
use Rattle.model.proofs.Laws.Trees.{all_dots-map}
use Rattle.model.proofs.Laws.Dots.{rect-upright, dot-upright}
use Rattle.model.proofs.Laws.Shapes.{child_0_leaf, well_acceptable}
use Rattle.tint.specs.Counts.{within_bounds}
use Rattle.tree_patch.specs.Cells.{splits_within}
use Rattle.tree_patch.proofs.Laws.Bounds.{Upright, routed-bounds}
use Rattle.tree_patch.proofs.Laws.Splits.{four_ext, child_0_stays, splits_below}

within-whole : (b : Bounds) (rects : List AABB) → All (λ r. in_bounds b r ≡ true) rects → within_bounds b rects ≡ rects
within-whole b [] a = refl
within-whole b (r ∷ rects) a = rw a.0 (ap (λ (l : List AABB). r ∷ l) (within-whole b rects a.1))

-- the dots of the tree lie within the bounds
abbrev TreeWithin : Bounds → Tree → Type 0
TreeWithin b t = AllDots (λ d. in_bounds b d.dot.rect ≡ true) t

chain-within : (b : Bounds) (chain : List Placed) → TreeWithin b (leaf chain) → All (λ r. in_bounds b r ≡ true) (rects_of chain)
chain-within b [] a = tt
chain-within b (d ∷ chain) a = (a.0, chain-within b chain a.1)

module _ (s : Settings) where
  -- ---- the dots below a child lie within its bounds

  chain-child : (n : NodeData) (b : Bounds) (i : ℕ) → 1 ≤ i → i < 5 → (chain : List Placed) → All (λ d. acceptable_dot s d.dot ≡ true) chain
      → All (λ d. route_dot n d ≡ i) chain → TreeWithin b (leaf chain) → TreeWithin (bounds_below b n.cell i) (leaf chain)
  chain-child n b i one five [] ok r a = tt
  chain-child n b i one five (d ∷ chain) ok r a = (
    bounds-below b n.cell i one five d.dot.rect (dot-upright s d.dot ok.0).0 ∙ rw a.0 (eq-eqb (route_dot n d) i r.0),
    chain-child n b i one five chain ok.1 r.1 a.1,
  )

  tree-child : (n : NodeData) (b : Bounds) (i : ℕ) → 1 ≤ i → i < 5 → (t : Tree) → AllDots (λ d. acceptable_dot s d.dot ≡ true) t
      → AllDots (λ d. route_dot n d ≡ i) t → TreeWithin b t → TreeWithin (bounds_below b n.cell i) t
  tree-child n b i one five (leaf chain) ok r a = chain-child n b i one five chain ok r a
  tree-child n b i one five (branch g f) ok r a = λ j c. tree-child n b i one five (f j) (ok j c) (r j c) (a j c)

  -- ---- by bounds, and by routes

  splits-bounds : (rects : List AABB) → All Upright rects → (levels : ℕ) (n : NodeData) (b : Bounds) (t : Tree) → WellFormed s n t → TreeWithin b t
      → splits_within s rects levels n b t ≡ splits_for s levels n t (within_bounds b rects)
  splits-bounds rects up levels n b (leaf chain) v a =
      ap (overfull_cells s levels n)
      (filter-append (in_bounds b) (rects_of chain) rects
      ∙ ap (λ (l : List AABB). l ++ within_bounds b rects) (within-whole b (rects_of chain) (chain-within b chain a)))
  splits-bounds rects up zero n b (branch g f) v a = refl
  splits-bounds rects up (suc levels) n b (branch g f) v a =
      let here = within_bounds b rects in
      let first = child_0_leaf s n (f 0) (v.1 0 (omega arith)).1 in
      sym (four_ext (λ i. splits_for s levels (child_data n i) (f i) (routed_to n i here)) (splits_below s rects levels n b f)
      (ap (λ (t : Tree). splits_for s levels (child_data n 0) t (routed_to n 0 here)) first.1
      ∙ child_0_stays s levels n (rects_of first.0 ++ routed_to n 0 here))
      (λ i one five.
      let below = v.1 i five in
      let inside = tree-child n b i one five (f i) (well_acceptable s (child_data n i) (f i) below.1) below.0 (a i five) in
      ap (splits_for s levels (child_data n i) (f i)) (routed-bounds n b i one five rects up)
      ∙ sym (splits-bounds rects up levels (child_data n i) (bounds_below b n.cell i) (f i) below.1 inside)))

  -- ---- the root

  pub splits-root : (rects : List AABB) → All (λ r. acceptable s r ≡ true) rects → (levels : ℕ) (n : NodeData) (t : Tree) → WellFormed s n t
      → splits_within s rects levels n all_bounds t ≡ splits_for s levels n t rects
  splits-root rects ok levels n t v =
      let all = within-whole all_bounds rects
      (all_map (λ r. acceptable s r ≡ true) (λ r. in_bounds all_bounds r ≡ true) (λ r e. bounds-all r (rect-upright s r e).1) rects ok) in
      let inside = all_dots-map (λ d. acceptable_dot s d.dot ≡ true) (λ d. in_bounds all_bounds d.dot.rect ≡ true)
      (λ d e. bounds-all d.dot.rect (dot-upright s d.dot e).1) t (well_acceptable s n t v) in
      splits-bounds rects (all_map (λ r. acceptable s r ≡ true) Upright (λ r e. (rect-upright s r e).0) rects ok) levels n all_bounds t v inside
      ∙ ap (splits_for s levels n t) all
