-- A leaf in the rows.
--     group-inside, place_inside, node-inside      the groups, places and nodes of a stored tree are there
--     leaf-inside, leaf-count, leaf-stands a leaf at the end of a path of a stored tree
--     here-inside, here-count, here-stands ..      the leaf that a rectangle routes to, in a world that holds a shape
--     leads-leaf, leads-has        the same of the leaf that the walk down has found
use Rattle.std.specs.Prelude.{◌≡◌, List, ℕ, ◌+◌, ◌*◌, ◌≤◌, ◌<◌, ℤ, length}
use Rattle.std.proofs.Common.{ap, sym, subst, ◌∙◌, arith}
use Rattle.std.proofs.Math.Decide.{dec_lt}
use Rattle.geometry.specs.declared.aabb.AABB.{AABB}
use Rattle.geometry.specs.declared.settings.Settings.{Settings}
use Rattle.geometry.specs.Cells.{root_data}
use Rattle.model.specs.Sums.{indicator, sum_over}
use Rattle.model.proofs.Laws.Sums.{indicator-same, indicator_other, by_dec}
use Rattle.model.specs.Trees.{Placed, Tree, leaf, child_node, sum_dots, at_place, group_count, place_count}
use Rattle.model.specs.Memory.{read, first_at, count_at, Represents}
use Rattle.model.proofs.Laws.Shapes.{below-no}
use Rattle.model.specs.Shapes.{Shape, root}
use Rattle.model.specs.Layout.{dots_for, World, Holds}
use Rattle.model.proofs.Laws.Entries.{by-node}
use Rattle.model.proofs.Laws.Layout.{holds-settings}
use Rattle.model.proofs.Laws.Memory.{holds-represented}
use Rattle.memory.specs.Rows.{HasNode}
use Rattle.tree.specs.Trees.{sum_nodes, node_count}
use Rattle.tree.proofs.Laws.Paths.{Children, sum_dots-sub, sum_nodes-sub, tree-sub, nodes-groups, reach-children}
use Rattle.tree.specs.Paths.{sub, node_at}
use Rattle.tree.specs.Stored.{Stored}
use Rattle.tree.specs.Chains.{ChainStands}
use Rattle.tree.proofs.Laws.Chains.{chained-stands}
use Rattle.tree.specs.declared.find.Leaf.{Leaf}
use Rattle.tree.proofs.Laws.Stored.{holds-stored}
use Rattle.tree.specs.Routes.{leaf_for, Guided, LeadsTo}
use Rattle.tree.proofs.Laws.Routes.{chain_for, path_to, path-reach, path-sub, path-node, holds-guided}

-- ---- of a stored tree

module _ (nodes dots : List ℕ) (rects : List ℤ) {G N : ℕ} {group_head place_head : ℕ} {t : Tree} {free spare : List ℕ}
    (stored : Stored G N (read nodes dots rects) group_head place_head t free spare) (nodes_fit : length nodes ≡ 2 + 10 * G) where
  pub group-inside : (g : ℕ) → 1 ≤ group_count g t + sum_over (indicator g) free → g < G
  group-inside g c = by_dec (dec_lt g G) (λ l. l) (λ l. absurd (omega (arith, stored.groups_once g, below-no g G (omega arith))))

  pub place_inside : (k : ℕ) → 1 ≤ place_count k t → k < N
  place_inside k c = by_dec (dec_lt k N) (λ l. l) (λ l. absurd (omega (arith, stored.places_once k, below-no k N (omega arith))))

  node-inside : (b : ℕ) → 1 ≤ node_count b 0 t → HasNode nodes b
  node-inside =
      by-node (λ b. 1 ≤ node_count b 0 t → HasNode nodes b)
      (λ c. omega arith)
      (λ q r b c. omega (arith, group-inside q (omega (arith, nodes-groups q r 0 t b, indicator_other (child_node q r) 0 (λ x. omega arith)))))

  module _ (path : List ℕ) {chain : List Placed} (children : Children path) (e : sub t path ≡ leaf chain) where
    pub leaf-inside : HasNode nodes (node_at 0 t path)
    leaf-inside =
        let b = node_at 0 t path in
        node-inside b (omega (arith, sum_nodes-sub (indicator b) 0 t path children, ap (sum_nodes (indicator b) b) e, indicator-same b))

    -- a sum over the chain is at most that over the tree
    pub leaf-sum : (k : Placed → ℕ) → sum_over k chain ≤ sum_dots k t
    leaf-sum k = omega (arith, sum_dots-sub k t path children, ap (sum_dots k) e)

    leaf-stored : Represents (read nodes dots rects) (node_at 0 t path) (leaf chain)
    leaf-stored = subst (Represents (read nodes dots rects) (node_at 0 t path)) e (tree-sub (read nodes dots rects) 0 t path children stored.tree)

    pub leaf-count : count_at nodes (node_at 0 t path) ≡ length chain
    leaf-count = leaf-stored.0

    pub leaf-stands : length dots ≡ dots_for N → length rects ≡ 4 * N
        → ChainStands dots rects (first_at nodes (node_at 0 t path)) (count_at nodes (node_at 0 t path)) chain
    leaf-stands dots_fit rects_fit =
        chained-stands dots rects (first_at nodes) (count_at nodes) (first_at nodes (node_at 0 t path)) (count_at nodes (node_at 0 t path)) chain
        (λ p c. let l = place_inside p (omega (arith, leaf-sum (at_place p))) in (omega arith, omega arith)) leaf-stored.0 leaf-stored.1

-- ---- of a world that holds a shape: the leaf that a rectangle routes to

module _ {w : World} {x : Shape} (h : Holds w x) (r : AABB) where
  abbrev spot : ℕ
  spot = (leaf_for r (root x) 0 x.tree).node

  abbrev here : List Placed
  here = chain_for r (root x) x.tree

  abbrev way : List ℕ
  way = path_to r (root x) x.tree

  pub way-children : Children way
  way-children = reach-children x.tree way (path-reach r (root x) x.tree)

  to-here : sub x.tree way ≡ leaf here
  to-here = path-sub r (root x) x.tree

  pub here-sum : (k : Placed → ℕ) → sum_over k here ≤ sum_dots k x.tree
  here-sum k = leaf-sum w.nodes w.dots w.rects (holds-stored w x h) (holds-represented w x h).nodes way way-children to-here k

  pub here_place : (k : ℕ) → 1 ≤ sum_over (at_place k) here → k < x.places
  here_place k c = place_inside w.nodes w.dots w.rects (holds-stored w x h) (holds-represented w x h).nodes k (omega (arith, here-sum (at_place k)))

  pub here-inside : HasNode w.nodes spot
  here-inside =
      subst (HasNode w.nodes) (path-node r (root x) 0 x.tree)
      (leaf-inside w.nodes w.dots w.rects (holds-stored w x h) (holds-represented w x h).nodes way way-children to-here)

  pub here-count : count_at w.nodes spot ≡ length here
  here-count =
      ap (count_at w.nodes) (sym (path-node r (root x) 0 x.tree))
      ∙ leaf-count w.nodes w.dots w.rects (holds-stored w x h) (holds-represented w x h).nodes way way-children to-here

  pub here-stands : ChainStands w.dots w.rects (first_at w.nodes spot) (count_at w.nodes spot) here
  here-stands =
      let rep = holds-represented w x h in
      subst (λ (a : ℕ). ChainStands w.dots w.rects (first_at w.nodes a) (count_at w.nodes a) here) (path-node r (root x) 0 x.tree)
      (leaf-stands w.nodes w.dots w.rects (holds-stored w x h) rep.nodes way way-children to-here rep.dots rep.rects)

  module _ {l : Leaf} (leads : LeadsTo w.state.settings w.nodes r l) where
    pub leads-leaf : l ≡ leaf_for r (root x) 0 x.tree
    leads-leaf =
        let e = holds-settings w x h in
        leads x.tree (subst (λ (y : Settings). Guided w.nodes (root_data y) 0 x.tree) (sym e) (holds-guided w x h))
        ∙ ap (λ (y : Settings). leaf_for r (root_data y) 0 x.tree) e

    pub leads-has : HasNode w.nodes l.node
    leads-has = subst (λ (y : Leaf). HasNode w.nodes y.node) (sym leads-leaf) here-inside
