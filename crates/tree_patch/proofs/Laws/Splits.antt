-- The splits at a cell and below it.
--     four_ext     a sum over the children 1 to 4
--     child_0_stays        child 0 makes no split
--     filling, splits_below the rectangles at a leaf's cell; the splits of a child's cell
--     leaf-stays, leaf-splits, branch-splits       what a count meets: a leaf that stays, one that splits, a branch
--     splits-none  none where no rectangle lies within the bounds
--     splits-most  on each level they are at most as many as dots and rectangles
use Rattle.std.specs.Prelude.{◌≡◌, List, ◌++◌, true, false, ℕ, zero, suc, ◌+◌, ◌*◌, ◌-◌, ◌≤◌, ◌<◌, length, ltb}
use Rattle.std.proofs.Math.Path.{refl}
use Rattle.std.proofs.Common.{ap, mul-le-mul_left, sub-one, arith, ltb-true, le-ltb}
use Rattle.arithmetic.proofs.Laws.Linear.{and_t}
use Rattle.arithmetic.proofs.Laws.Tests.{by_bool}
use Rattle.geometry.specs.declared.aabb.AABB.{AABB}
use Rattle.geometry.specs.declared.bounds.Bounds.{Bounds}
use Rattle.geometry.specs.declared.settings.Settings.{Settings}
use Rattle.geometry.specs.declared.node_data.NodeData.{NodeData}
use Rattle.geometry.specs.Bounds.{bounds_below}
use Rattle.geometry.specs.Cells.{child_data, may_divide, may_split}
use Rattle.model.specs.Sums.{sum_below}
use Rattle.model.specs.Lists.{All}
use Rattle.model.specs.Trees.{Placed, Tree, leaf, branch, size}
use Rattle.model.specs.Shapes.{WellFormed}
use Rattle.model.specs.Laying.{routed_to, rects_of, overfull, overfull_cells}
use Rattle.model.proofs.Laws.Sums.{sum_over-one, sum_below-le, sum_below-mul}
use Rattle.model.proofs.Laws.Lists.{all_append}
use Rattle.tint.specs.Counts.{within_bounds}
use Rattle.tree.specs.Trees.{sum_last}
use Rattle.tree_patch.specs.Cells.{splits_within}
use Rattle.tree_patch.proofs.Laws.Bounds.{Upright, routed-bounds, routed-lengths, within_child, within_fewer, within-children, within-most, within-length}

-- ---- sums over the children 1 to 4

-- a sum over all five children, where child 0 has nothing
pub four_ext : (f g : ℕ → ℕ) → f 0 ≡ 0 → ((i : ℕ) → 1 ≤ i → i < 5 → f i ≡ g i) → sum_below 5 f ≡ sum_last 4 g
four_ext f g z e =
    omega (
      arith,
      z,
      e 1 (omega arith) (omega arith),
      e 2 (omega arith) (omega arith),
      e 3 (omega arith) (omega arith),
      e 4 (omega arith) (omega arith),
    )

four-le : (f g : ℕ → ℕ) → ((i : ℕ) → 1 ≤ i → i < 5 → f i ≤ g i) → sum_last 4 f ≤ sum_last 4 g
four-le f g e =
    omega (arith, e 1 (omega arith) (omega arith), e 2 (omega arith) (omega arith), e 3 (omega arith) (omega arith), e 4 (omega arith) (omega arith))

module _ (s : Settings) where
  -- ---- the overfull cells

  child_0_keeps : (n : NodeData) → may_split s (child_data n 0) ≡ false
  unfolding child_data may_divide
  child_0_keeps n = refl

  pub child_0_stays : (levels : ℕ) (n : NodeData) (rects : List AABB) → overfull_cells s levels (child_data n 0) rects ≡ 0
  child_0_stays zero n rects = refl
  child_0_stays (suc levels) n rects = rw (child_0_keeps n) refl

  -- on each level an overfull cell holds a rectangle
  overfull-few : (levels : ℕ) (n : NodeData) (rects : List AABB) → overfull_cells s levels n rects ≤ levels * length rects
  overfull-few zero n rects = omega arith
  overfull-few (suc levels) n rects =
      by_bool (overfull s n (length rects))
      (λ e.
      let some = ltb-true s.leaf_limit (length rects) (and_t (may_split s n) (ltb s.leaf_limit (length rects)) e).1 in
      rw e
      (omega (
        arith,
        sum_below-le 5 (λ i. overfull_cells s levels (child_data n i) (routed_to n i rects)) (λ i. levels * length (routed_to n i rects))
            (λ i b. overfull-few levels (child_data n i) (routed_to n i rects)),
        sum_below-mul 5 levels (λ i. length (routed_to n i rects)),
        ap (λ (k : ℕ). levels * k) (routed-lengths n rects),
      )))
      (λ e. rw e (omega arith))

  module _ (rects : List AABB) where
    -- the rectangles at a leaf's cell
    abbrev pub filling : Bounds → List Placed → List AABB
    filling b chain = within_bounds b (rects_of chain ++ rects)

    -- ---- what a count meets

    pub leaf-stays : (levels : ℕ) (n : NodeData) (b : Bounds) (chain : List Placed) → overfull s n (length (filling b chain)) ≡ false
        → splits_within s rects levels n b (leaf chain) ≡ 0
    leaf-stays zero n b chain e = refl
    leaf-stays (suc levels) n b chain e = rw e refl

    -- the splits of a child's cell
    abbrev pub splits_below : ℕ → NodeData → Bounds → (ℕ → Tree) → ℕ → ℕ
    splits_below levels n b f i = splits_within s rects levels (child_data n i) (bounds_below b n.cell i) (f i)

    pub branch-splits : (levels : ℕ) (n : NodeData) (b : Bounds) (g : ℕ) (f : ℕ → Tree) → 1 ≤ levels
        → splits_within s rects levels n b (branch g f) ≡ sum_last 4 (splits_below (levels - 1) n b f)
    branch-splits zero n b g f some = absurd (omega arith)
    branch-splits (suc levels) n b g f some = rw (sub-one (suc levels)) refl

    module _ (up : All Upright rects) where
      pub leaf-splits : (levels : ℕ) (n : NodeData) (b : Bounds) (chain : List Placed) → All Upright (rects_of chain) → 1 ≤ levels
          → overfull s n (length (filling b chain)) ≡ true
          → splits_within s rects levels n b (leaf chain) ≡ 1 + sum_last 4 (splits_below (levels - 1) n b (λ i. leaf chain))
      leaf-splits zero n b chain a some e = absurd (omega arith)
      leaf-splits (suc levels) n b chain a some e =
          let all = rects_of chain ++ rects in
          let below = four_ext (λ i. overfull_cells s levels (child_data n i) (routed_to n i (filling b chain))) (splits_below levels n b (λ i. leaf chain))
          (child_0_stays levels n (routed_to n 0 (filling b chain)))
          (λ i one five.
          ap (overfull_cells s levels (child_data n i)) (routed-bounds n b i one five all (all_append Upright (rects_of chain) rects a up))) in
          rw (e, sub-one (suc levels)) (ap (λ (k : ℕ). 1 + k) below)

      -- ---- no rectangle within the bounds

      pub splits-none : (levels : ℕ) (n : NodeData) (b : Bounds) (t : Tree) → WellFormed s n t → length (within_bounds b rects) ≡ 0
          → splits_within s rects levels n b t ≡ 0
      splits-none levels n b (leaf chain) v none =
          leaf-stays levels n b chain
          (by_bool (may_split s n)
          (λ m.
          rw (m, le-ltb s.leaf_limit (length (filling b chain)) (omega (arith, within-length b chain rects, within-most b chain, v.1 m))) refl)
          (λ m. rw m refl))
      splits-none zero n b (branch g f) v none = refl
      splits-none (suc levels) n b (branch g f) v none =
          let each = four-le (splits_below levels n b f) (λ i. 0) (λ i one five.
          omega (
            arith,
            splits-none levels (child_data n i) (bounds_below b n.cell i) (f i) (v.1 i five).1
                (omega (arith, within_fewer n b rects up i one five)),
          )) in
          omega arith

      -- ---- how many they can be

      pub splits-most : (levels : ℕ) (n : NodeData) (b : Bounds) (t : Tree)
          → splits_within s rects levels n b t ≤ levels * (size t + length (within_bounds b rects))
      splits-most levels n b (leaf chain) =
          let most : length (filling b chain) ≤ size (leaf chain) + length (within_bounds b rects) =
          omega (arith, within-length b chain rects, within-most b chain, sum_over-one chain) in
          omega (arith, overfull-few levels n (filling b chain), mul-le-mul_left levels most)
      splits-most zero n b (branch g f) = omega arith
      splits-most (suc levels) n b (branch g f) =
          let inside = within_child n b rects up in
          let each = four-le (splits_below levels n b f) (λ i. levels * (size (f i) + inside i))
          (λ i one five. splits-most levels (child_data n i) (bounds_below b n.cell i) (f i)) in
          let whole : sum_last 4 (λ i. size (f i) + inside i) ≤ size (branch g f) + length (within_bounds b rects) =
          omega (arith, within-children n b rects up) in
          omega (arith, mul-le-mul_left levels whole)
