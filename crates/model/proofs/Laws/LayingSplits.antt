-- The splits of dots laid one after another, whatever their order.
--     overfull-same        the overfull cells do not depend on the order of the rectangles
--     insert-splits_for    an insert takes its own splits off those that are still to come
--     splits_for-none      a well-formed tree needs no split as long as nothing is laid
use Rattle.std.specs.Prelude.{◌≡◌, refl, List, [], ◌∷◌, ◌++◌, Bool, true, false, cond, ℕ, zero, suc, ◌+◌, ◌≤◌, ◌<◌, length, eqb, leb, ltb}
use Rattle.std.proofs.Common.{ap, sym, ◌∙◌, arith, length-append, eq-eqb, ne_eqb, leb-true, lt-ltb, le-ltb}
use Rattle.arithmetic.proofs.Laws.Linear.{and_t}
use Rattle.arithmetic.proofs.Laws.Tests.{by_bool}
use Rattle.geometry.specs.declared.aabb.AABB.{AABB}
use Rattle.geometry.specs.declared.settings.Settings.{Settings}
use Rattle.geometry.specs.declared.node_data.NodeData.{NodeData}
use Rattle.geometry.specs.Cells.{child_data, route, may_split}
use Rattle.geometry.proofs.Laws.Geometry.{route-child}
use Rattle.model.specs.Sums.{sum_over, sum_below, changed}
use Rattle.model.specs.Trees.{Placed, Tree, leaf, branch}
use Rattle.model.specs.Insert.{route_dot, deal, dealt, must_split, insert_at}
use Rattle.model.specs.Shapes.{WellFormed}
use Rattle.model.specs.Laying.{routed_to, rects_of, overfull, overfull_cells, splits_for}
use Rattle.model.proofs.Laws.Sums.{sum_over-append, sum_over-one, sum_over-map, sum_below_ext, sum_below-zero, sum_below-changed, changed-all}
use Rattle.model.proofs.Laws.Lists.{sum-filter, length-map}
use Rattle.model.proofs.Laws.Dealing.{deal_pick}
use Rattle.model.specs.Insert.{split_count}

-- ---- the order does not matter

-- every sum over the one list is that over the other
abbrev SameSums : List AABB → List AABB → Type 0
SameSums rects others = (h : AABB → ℕ) → sum_over h rects ≡ sum_over h others

same_length : (rects others : List AABB) → SameSums rects others → length rects ≡ length others
same_length rects others e = omega (arith, sum_over-one rects, sum_over-one others, e (λ r. 1))

routed-same : (n : NodeData) (i : ℕ) (rects others : List AABB) → SameSums rects others → SameSums (routed_to n i rects) (routed_to n i others)
routed-same n i rects others e h =
    let here : AABB → Bool = λ r. eqb (route n r) i in
    sum-filter h here rects ∙ e (λ r. cond (here r) (h r) 0) ∙ sym (sum-filter h here others)

chain_length : (chain : List Placed) → length (rects_of chain) ≡ length chain
chain_length chain = length-map (λ d. d.dot.rect) chain

module _ (s : Settings) where
  overfull-same : (levels : ℕ) (n : NodeData) (rects others : List AABB) → SameSums rects others
      → overfull_cells s levels n rects ≡ overfull_cells s levels n others
  overfull-same zero n rects others e = refl
  overfull-same (suc levels) n rects others e =
      let below = sum_below_ext 5 (λ i. overfull_cells s levels (child_data n i) (routed_to n i rects))
      (λ i. overfull_cells s levels (child_data n i) (routed_to n i others))
      (λ i b. overfull-same levels (child_data n i) (routed_to n i rects) (routed_to n i others) (routed-same n i rects others e)) in
      rw (same_length rects others e, below) refl

  -- ---- one insert

  -- the first of a list goes to one child, and the others see the rest
  routed-first : (n : NodeData) (r : AABB) (rects : List AABB) (i : ℕ)
      → changed (λ j. routed_to n j rects) (route n r) (r ∷ routed_to n (route n r) rects) i ≡ routed_to n i (r ∷ rects)
  routed-first n r rects i =
      let j = route n r in
      changed-all (λ (k : ℕ) (l : List AABB). l ≡ routed_to n k (r ∷ rects)) (λ k. routed_to n k rects) j (r ∷ routed_to n j rects) i
      (λ e. rw (eq-eqb j i (sym e)) (ap (λ (k : ℕ). r ∷ routed_to n k rects) (sym e)))
      (λ ne. rw (ne_eqb j i (λ e. ne (sym e))) refl)

  -- what an insert below one child takes off is taken off the sum over the children
  children-splits : (levels : ℕ) (n : NodeData) (f : ℕ → Tree) (t : Tree) (r : AABB) (rects : List AABB) (made : ℕ)
      → splits_for s levels (child_data n (route n r)) (f (route n r)) (r ∷ routed_to n (route n r) rects)
      ≡ made + splits_for s levels (child_data n (route n r)) t (routed_to n (route n r) rects)
      → sum_below 5 (λ i. splits_for s levels (child_data n i) (f i) (routed_to n i (r ∷ rects)))
      ≡ made + sum_below 5 (λ i. splits_for s levels (child_data n i) (changed f (route n r) t i) (routed_to n i rects))
  children-splits levels n f t r rects made e =
      let j = route n r in
      let jb = route-child n r in
      let lists = changed (λ k. routed_to n k rects) j (r ∷ routed_to n j rects) in
      let first = sum_below_ext 5 (λ i. splits_for s levels (child_data n i) (f i) (routed_to n i (r ∷ rects)))
      (λ i. splits_for s levels (child_data n i) (f i) (lists i))
      (λ i b. ap (splits_for s levels (child_data n i) (f i)) (sym (routed-first n r rects i))) in
      let longer = sum_below-changed 5 (λ i l. splits_for s levels (child_data n i) (f i) l) (λ k. routed_to n k rects) j (r ∷ routed_to n j rects) jb in
      let grown = sum_below-changed 5 (λ i x. splits_for s levels (child_data n i) x (routed_to n i rects)) f j t jb in
      omega arith

  -- a full leaf that splits hands its dots on to the children
  dealt-splits : (levels : ℕ) (n m : NodeData) (chain : List Placed) (rects : List AABB) (i : ℕ)
      → overfull_cells s levels m (routed_to n i (rects_of chain ++ rects)) ≡ splits_for s levels m (dealt n chain i) (routed_to n i rects)
  dealt-splits levels n m chain rects i =
      let given = deal n (λ j. []) chain i in
      overfull-same levels m (routed_to n i (rects_of chain ++ rects)) (rects_of given ++ routed_to n i rects) (λ h.
      let here : AABB → Bool = λ r. eqb (route n r) i in
      let picked : AABB → ℕ = λ r. cond (here r) (h r) 0 in
      omega (
        arith,
        sum-filter h here (rects_of chain ++ rects),
        sum_over-append picked (rects_of chain) rects,
        sum_over-map picked (λ (d : Placed). d.dot.rect) chain,
        sum-filter h here rects,
        sum_over-append h (rects_of given) (routed_to n i rects),
        sum_over-map h (λ (d : Placed). d.dot.rect) given,
        deal_pick n (λ d. h d.dot.rect) (λ j. []) chain i,
      ))

  full_more : (n : NodeData) (chain : List Placed) (r : AABB) (rects : List AABB) → must_split s n chain ≡ true
      → overfull s n (length (rects_of chain ++ r ∷ rects)) ≡ true
  full_more n chain r rects e =
      let p = and_t (may_split s n) (leb s.leaf_limit (length chain)) e in
      let long : s.leaf_limit < length (rects_of chain ++ r ∷ rects) =
      omega (arith, leb-true s.leaf_limit (length chain) p.1, length-append (rects_of chain) (r ∷ rects), chain_length chain) in
      rw (p.0, lt-ltb s.leaf_limit (length (rects_of chain ++ r ∷ rects)) long) refl

  to-head : (chain : List Placed) (d : Placed) (rects : List AABB) → SameSums (rects_of chain ++ d.dot.rect ∷ rects) (rects_of (d ∷ chain) ++ rects)
  to-head chain d rects h = omega (arith, sum_over-append h (rects_of chain) (d.dot.rect ∷ rects), sum_over-append h (rects_of chain) rects)

  stays : (levels : ℕ) (n : NodeData) (d : Placed) (chain : List Placed) (rects : List AABB)
      → overfull_cells s (suc levels) n (rects_of chain ++ d.dot.rect ∷ rects) ≡ overfull_cells s (suc levels) n (rects_of (d ∷ chain) ++ rects)
  stays levels n d chain rects = overfull-same (suc levels) n (rects_of chain ++ d.dot.rect ∷ rects) (rects_of (d ∷ chain) ++ rects) (to-head chain d rects)

  pub insert-splits_for : (levels : ℕ) (n : NodeData) (d : Placed) (t : Tree) (free : List ℕ) (rects : List AABB)
      → split_count s levels n d.dot.rect t ≤ length free
      → splits_for s levels n t (d.dot.rect ∷ rects)
      ≡ split_count s levels n d.dot.rect t + splits_for s levels n (insert_at s levels n d t free).tree rects
  insert-splits_for zero n d (leaf chain) free rects k = refl
  insert-splits_for zero n d (branch g f) free rects k = refl
  insert-splits_for (suc levels) n d (leaf chain) [] rects k =
      by_bool (must_split s n chain)
      (λ e. absurd (omega (arith, rw e at k)))
      (λ e. rw e (omega (arith, stays levels n d chain rects)))
  insert-splits_for (suc levels) n d (leaf chain) (g ∷ free) rects k =
      let r = d.dot.rect in
      let i = route_dot n d in
      let t = (insert_at s levels (child_data n i) d (dealt n chain i) free).tree in
      by_bool (must_split s n chain)
      (λ e.
      let below = insert-splits_for levels (child_data n i) d (dealt n chain i) free (routed_to n i rects) (omega (arith, rw e at k)) in
      let handed = sum_below_ext 5 (λ j. overfull_cells s levels (child_data n j) (routed_to n j (rects_of chain ++ r ∷ rects)))
      (λ j. splits_for s levels (child_data n j) (dealt n chain j) (routed_to n j (r ∷ rects)))
      (λ j b. dealt-splits levels n (child_data n j) chain (r ∷ rects) j) in
      let all = children-splits levels n (dealt n chain) t r rects (split_count s levels (child_data n i) r (dealt n chain i)) below in
      rw (e, full_more n chain r rects e) (omega (arith, handed, all)))
      (λ e. rw e (omega (arith, stays levels n d chain rects)))
  insert-splits_for (suc levels) n d (branch g f) free rects k =
      let r = d.dot.rect in
      let i = route_dot n d in
      children-splits levels n f (insert_at s levels (child_data n i) d (f i) free).tree r rects (split_count s levels (child_data n i) r (f i))
      (insert-splits_for levels (child_data n i) d (f i) free (routed_to n i rects) k)

  -- a leaf that may split holds at most the leaf limit
  pub splits_for-none : (levels : ℕ) (n : NodeData) (t : Tree) → WellFormed s n t → splits_for s levels n t [] ≡ 0
  splits_for-none zero n (leaf chain) v = refl
  splits_for-none zero n (branch g f) v = refl
  splits_for-none (suc levels) n (leaf chain) v =
      by_bool (may_split s n)
      (λ m.
      let few : ltb s.leaf_limit (length (rects_of chain ++ [])) ≡ false =
      le-ltb s.leaf_limit (length (rects_of chain ++ [])) (omega (arith, length-append (rects_of chain) [], chain_length chain, v.1 m)) in
      rw (m, few) refl)
      (λ m. rw m refl)
  splits_for-none (suc levels) n (branch g f) v =
      sum_below-zero 5 (λ i. splits_for s levels (child_data n i) (f i) []) (λ i b. splits_for-none levels (child_data n i) (f i) (v.1 i b).1)
