-- The rectangles of a list within the bounds of a child: those within the parent's that go to the child.
--     Upright      a rectangle that is not inverted; chain-upright: those of acceptable dots
--     routed-bounds        those that go to child i of a node are those within the child's bounds
--     routed-lengths       each goes to one child
--     within_child, within_fewer, within-children   those within a child's bounds are no more, and all children's together are no more
--     within-most  of a chain no more dots lie within bounds than it has
--     within-length        the rectangles within bounds: those of a chain and those of a list
use Rattle.std.specs.Prelude.{◌≡◌, refl, List, [], ◌∷◌, ◌++◌, true, false, cond, ◌&&◌, ℕ, ◌+◌, ◌≤◌, ◌<◌, length, eqb}
use Rattle.std.proofs.Common.{ap, sym, ◌∙◌, arith, eq-eqb, ne_eqb}
use Rattle.arithmetic.proofs.Laws.Tests.{by_bool}
use Rattle.geometry.specs.declared.aabb.AABB.{AABB}
use Rattle.geometry.specs.declared.bounds.Bounds.{Bounds}
use Rattle.geometry.specs.declared.settings.Settings.{Settings}
use Rattle.geometry.specs.declared.node_data.NodeData.{NodeData}
use Rattle.geometry.specs.Rectangles.{inverted}
use Rattle.geometry.specs.Bounds.{bounds_below, in_bounds}
use Rattle.geometry.specs.Cells.{route}
use Rattle.geometry.proofs.Laws.Bounds.{bounds-below}
use Rattle.geometry.proofs.Laws.Geometry.{route-child}
use Rattle.model.specs.Sums.{sum_over, sum_below}
use Rattle.model.specs.Lists.{All}
use Rattle.model.specs.Dots.{acceptable_dot}
use Rattle.model.specs.Trees.{Placed}
use Rattle.model.specs.Laying.{routed_to, rects_of}
use Rattle.model.proofs.Laws.Sums.{sum_over-append, sum_over-one, sum_over-le, sum_over-map, sum_below_ext, sum_below-add, sum_below-only}
use Rattle.model.proofs.Laws.Lists.{sum-filter}
use Rattle.model.proofs.Laws.Dots.{dot-upright}
use Rattle.tree_insert.specs.SplitsNeeded.{within}
use Rattle.tree_insert.proofs.Laws.Bounds.{one-most}
use Rattle.tint.specs.Counts.{within_bounds}
use Rattle.tint.proofs.Laws.Filters.{filter-few}
use Rattle.tree.specs.Trees.{sum_last}

abbrev pub Upright : AABB → Type 0
Upright r = inverted r ≡ false

pub chain-upright : (s : Settings) (chain : List Placed) → All (λ d. acceptable_dot s d.dot ≡ true) chain → All Upright (rects_of chain)
chain-upright s [] a = tt
chain-upright s (d ∷ chain) a = ((dot-upright s d.dot a.0).0, chain-upright s chain a.1)

-- ---- the rectangles that go to a child

pub routed-bounds : (n : NodeData) (b : Bounds) (i : ℕ) → 1 ≤ i → i < 5 → (rects : List AABB) → All Upright rects
    → routed_to n i (within_bounds b rects) ≡ within_bounds (bounds_below b n.cell i) rects
routed-bounds n b i one five [] a = refl
routed-bounds n b i one five (r ∷ rects) a =
    let rest = routed-bounds n b i one five rects a.1 in
    let both : in_bounds (bounds_below b n.cell i) r ≡ in_bounds b r && eqb (route n r) i = bounds-below b n.cell i one five r a.0 in
    by_bool (in_bounds b r)
    (λ e. by_bool (eqb (route n r) i)
    (λ h. rw (both, e, h) (ap (λ (l : List AABB). r ∷ l) rest))
    (λ h. rw (both, e, h) rest))
    (λ e. rw (both, e) rest)

pub routed-lengths : (n : NodeData) (rects : List AABB) → sum_below 5 (λ i. length (routed_to n i rects)) ≡ length rects
routed-lengths n [] = refl
routed-lengths n (r ∷ rects) =
    let one : ℕ → AABB → ℕ = λ i x. cond (eqb (route n x) i) 1 0 in
    let each : (i : ℕ) → length (routed_to n i (r ∷ rects)) ≡ one i r + length (routed_to n i rects) =
    λ i. by_bool (eqb (route n r) i) (λ e. rw e (omega arith)) (λ e. rw e (omega arith)) in
    let first : sum_below 5 (λ i. one i r) ≡ 1 =
    sum_below-only 5 (λ i. one i r) (route n r) (route-child n r) (λ j b ne. rw (ne_eqb (route n r) j (λ e. ne (sym e))) refl)
    ∙ rw (eq-eqb (route n r) (route n r) refl) refl in
    sum_below_ext 5 (λ i. length (routed_to n i (r ∷ rects))) (λ i. one i r + length (routed_to n i rects)) (λ i b. each i)
    ∙ sum_below-add 5 (λ i. one i r) (λ i. length (routed_to n i rects))
    ∙ omega (arith, first, routed-lengths n rects)

module _ (n : NodeData) (b : Bounds) (rects : List AABB) (up : All Upright rects) where
  abbrev pub within_child : ℕ → ℕ
  within_child i = length (within_bounds (bounds_below b n.cell i) rects)

  pub within_fewer : (i : ℕ) → 1 ≤ i → i < 5 → within_child i ≤ length (within_bounds b rects)
  within_fewer i one five =
      let here = within_bounds b rects in
      omega (arith, ap length (routed-bounds n b i one five rects up), filter-few (λ r. eqb (route n r) i) here)

  pub within-children : sum_last 4 within_child ≤ length (within_bounds b rects)
  within-children =
      let here = within_bounds b rects in
      let each : (i : ℕ) → 1 ≤ i → i < 5 → length (routed_to n i here) ≡ within_child i = λ i one five. ap length (routed-bounds n b i one five rects up) in
      omega (
        arith,
        routed-lengths n here,
        each 1 (omega arith) (omega arith),
        each 2 (omega arith) (omega arith),
        each 3 (omega arith) (omega arith),
        each 4 (omega arith) (omega arith),
      )

-- ---- a chain and a list

pub within-most : (b : Bounds) (chain : List Placed) → sum_over (within b) chain ≤ length chain
within-most b chain = omega (arith, sum_over-le (within b) (λ d. 1) chain (λ d. one-most (in_bounds b d.dot.rect)), sum_over-one chain)

pub within-length : (b : Bounds) (chain : List Placed) (rects : List AABB)
    → length (within_bounds b (rects_of chain ++ rects)) ≡ sum_over (within b) chain + length (within_bounds b rects)
within-length b chain rects =
    let found : AABB → ℕ = λ r. cond (in_bounds b r) 1 0 in
    omega (
      arith,
      sum_over-one (within_bounds b (rects_of chain ++ rects)),
      sum-filter (λ r. 1) (in_bounds b) (rects_of chain ++ rects),
      sum_over-append found (rects_of chain) rects,
      sum_over-map found (λ (d : Placed). d.dot.rect) chain,
      sum_over-one (within_bounds b rects),
      sum-filter (λ r. 1) (in_bounds b) rects,
    )
