-- Dots laid one after another (§20.3, §20.5): each counts as an insert.
--     lay_all           the single insert, folded over a list of dots; it stops at the first dot that is refused
--     laid             the shape after them, were none refused
--     overfull_cells    how many cells hold more rectangles than the leaf limit, and may split
--     splits_for        the splits that a list of rectangles makes below a node, whatever their order
--     splits_of_all      those of a list of dots in a shape
--     CanLay           what laying all of them needs: lay_all accepts exactly if it holds (`lay-can`, `lay-cases` of Laws.Laying)
use Rattle.std.specs.Prelude.{◌≡◌, List, [], ◌∷◌, ◌++◌, map, Bool, true, cond, ◌&&◌, ℕ, zero, suc, ◌+◌, ◌≤◌, length, eqb, ltb}
use Rattle.geometry.specs.declared.aabb.AABB.{AABB}
use Rattle.geometry.specs.declared.settings.Settings.{Settings}
use Rattle.geometry.specs.declared.node_data.NodeData.{NodeData}
use Rattle.geometry.specs.Settings.{D}
use Rattle.geometry.specs.Cells.{child_data, route, may_split}
use Rattle.model.specs.declared.Dot.{Dot}
use Rattle.model.specs.Sums.{sum_below}
use Rattle.model.specs.Lists.{filter, All}
use Rattle.model.specs.Dots.{acceptable_dot}
use Rattle.model.specs.Trees.{Placed, Tree, leaf, branch, size}
use Rattle.model.specs.Shapes.{Shape, root, inserted}
use Rattle.model.specs.Calls.{Verdict, refuse, overflow, accept, insert_verdict}

-- ---- the fold

-- one dot more than those laid after it
abbrev pub one_more : Verdict ℕ ℕ → Verdict ℕ ℕ
one_more (refuse k) = refuse k
one_more (overflow n) = overflow n
one_more (accept x row number) = accept x row (suc number)

-- after an insert: its refusal, or the others on the shape that it left
abbrev pub after_insert : Verdict ℕ ℕ → (Shape → Verdict ℕ ℕ) → Verdict ℕ ℕ
after_insert (refuse k) others = refuse k
after_insert (overflow n) others = overflow n
after_insert (accept x row splits) others = one_more (others x)

-- each dot in its turn, whatever the count of changes; the answer is how many were laid
abbrev pub lay_all : List Dot → Shape → Verdict ℕ ℕ
lay_all [] x = accept x [] 0
lay_all (d ∷ ds) x = after_insert (insert_verdict d x) (lay_all ds)

abbrev pub laid : List Dot → Shape → Shape
laid [] x = x
laid (d ∷ ds) x = laid ds (inserted d x)

-- ---- the splits of them all

-- the rectangles that go to child i, in their order
abbrev pub routed_to : NodeData → ℕ → List AABB → List AABB
routed_to n i rects = filter (λ r. eqb (route n r) i) rects

abbrev pub rects_of : List Placed → List AABB
rects_of chain = map (λ d. d.dot.rect) chain

abbrev pub dot_rects : List Dot → List AABB
dot_rects ds = map (λ d. d.rect) ds

module _ (s : Settings) where
  -- so many rectangles do not stay in a leaf: they are more than the leaf limit, and it may split
  abbrev pub overfull : NodeData → ℕ → Bool
  overfull n number = may_split s n && ltb s.leaf_limit number

  -- Of the node and those that its splits make below it, the ones that are overfull. `levels` is how many levels may still be split, as in `insertAt`.
  abbrev pub overfull_cells : ℕ → NodeData → List AABB → ℕ
  overfull_cells zero n rects = 0
  overfull_cells (suc levels) n rects =
      let below = sum_below 5 (λ i. overfull_cells levels (child_data n i) (routed_to n i rects)) in
      cond (overfull n (length rects)) (1 + below) 0

  -- A leaf's dots and the new ones are split together; a branch stays, and its children take what goes to them.
  abbrev pub splits_for : ℕ → NodeData → Tree → List AABB → ℕ
  splits_for levels n (leaf chain) rects = overfull_cells levels n (rects_of chain ++ rects)
  splits_for zero n (branch g f) rects = 0
  splits_for (suc levels) n (branch g f) rects = sum_below 5 (λ i. splits_for levels (child_data n i) (f i) (routed_to n i rects))

unfoldable pub splits_of_all : List Dot → Shape → ℕ
splits_of_all ds x = splits_for x.settings (D x.settings) (root x) x.tree (dot_rects ds)

-- no dot that 4, 10 or 5 refuses, a place for each, and a free group for each split
pub record CanLay (ds : List Dot) (x : Shape) : Type 0 where
  pub acceptable_dots : All (λ d. acceptable_dot x.settings d ≡ true) ds
  pub places_enough : size x.tree + length ds ≤ x.places
  pub groups_enough : splits_of_all ds x ≤ length x.free_groups
