-- The deal of a chain to the children of a group.
--     linked-read  a place put at the head of a leaf's chain
--     deal-turn    one turn of the loop, on the words
--     Dealing, deal-start, deal-place, deal-child, deal-on, deal-over      its invariant, begin, what a turn asks, a turn, its end
use Rattle.std.specs.Prelude.{◌≡◌, refl, List, [], ◌∷◌, false, ℕ, ◌+◌, ◌-◌, ◌≤◌, ◌<◌, ℤ, length}
use Rattle.std.proofs.Common.{ap, sym, ◌∙◌, subst, arith}
use Rattle.geometry.specs.declared.node_data.NodeData.{NodeData}
use Rattle.geometry.specs.Cells.{route_cell}
use Rattle.geometry.proofs.Laws.Geometry.{route-child}
use Rattle.geometry.specs.declared.aabb.AABB.{AABB}
use Rattle.geometry.specs.declared.centered_aabb.CenteredAABB.{CenteredAABB}
use Rattle.model.specs.Sums.{indicator, sum_over}
use Rattle.model.proofs.Laws.Sums.{indicator-same, changed_other, changed-all}
use Rattle.model.specs.Trees.{Placed, at_place, child_node}
use Rattle.model.specs.Memory.{Mem, read, first_at, count_at, next_at, rect_at}
use Rattle.model.specs.declared.Dot.{Dot}
use Rattle.model.specs.Insert.{route_dot}
use Rattle.memory.specs.declared.node.Node.{Node}
use Rattle.memory.specs.Rows.{HasNode, HasPlace, set_node_at, set_next_at, HasRect}
use Rattle.memory.proofs.Laws.Stores.{next-length, next-set, dot-next, node-length, count_set}
use Rattle.tree.specs.Stores.{set_next}
use Rattle.tree.specs.Chains.{ChainStands}
use Rattle.tree.proofs.Laws.Chains.{stands_here}
use Rattle.tree.proofs.Laws.Readings.{set_node, node-stored, next-stored}
use Rattle.tree.specs.Splits.{deal_words}
use Rattle.tree_insert.specs.Deal.{Dealable, Dealt}

-- a place is put at the head of a leaf's chain
abbrev pub link_words : Mem → ℕ → ℕ → Mem
link_words m a p = set_node (set_next m p (m.first a)) a (record { first = p; count = m.count a + 1 })

pub linked-read : (nodes dots : List ℕ) (rects : List ℤ) (a p : ℕ) → HasNode nodes a → HasPlace dots p
    → read (set_node_at nodes a (record { first = p; count = count_at nodes a + 1 })) (set_next_at dots p (first_at nodes a)) rects
    ≡ link_words (read nodes dots rects) a p
linked-read nodes dots rects a p hn hp =
    let v : Node = record { first = p; count = count_at nodes a + 1 } in
    node-stored nodes (set_next_at dots p (first_at nodes a)) rects a v hn
    ∙ ap (λ (m : Mem). set_node m a v) (next-stored nodes dots rects p (first_at nodes a) hp)

-- a store of a next that is none of the chain's
stands_frame : (dots : List ℕ) (rects : List ℤ) (p v h n : ℕ) (ds : List Placed) → HasPlace dots p → sum_over (at_place p) ds ≡ 0
    → ChainStands dots rects h n ds
    → ChainStands (set_next_at dots p v) rects h n ds
stands_frame dots rects p v h n [] hp z s = s
stands_frame dots rects p v h n (d ∷ ds) hp z s =
    let ne : ¬ (h ≡ p) = λ e. omega (arith, ap (λ (y : ℕ). indicator p y) (sym s.0 ∙ e), indicator-same p) in
    let other : next_at (set_next_at dots p v) h ≡ next_at dots h = ap (λ (f : ℕ → ℕ). f h) (next-set dots p v hp) ∙ changed_other (next_at dots) p v h ne in
    let dot = ap (λ (f : ℕ → Dot). f h) (dot-next dots rects p v) in (
      s.0,
      omega (arith, s.1, next-length dots p v),
      s.2,
      dot ∙ s.3,
      s.4,
      subst (λ (y : ℕ). ChainStands (set_next_at dots p v) rects y (n - 1) ds) (sym other)
          (stands_frame dots rects p v (next_at dots h) (n - 1) ds hp (omega arith) s.5),
    )

-- ---- a turn

module _ (nodes dots : List ℕ) (rects : List ℤ) (n : NodeData) (first at left : ℕ) (some : 1 ≤ left) where
  abbrev nodes₁ : ℕ → List ℕ
  nodes₁ child = set_node_at nodes (first + child) (record { first = at; count = count_at nodes (first + child) + 1 })

  abbrev dots₁ : ℕ → List ℕ
  dots₁ child = set_next_at dots at (first_at nodes (first + child))

  -- the rest is dealable, and dealing it is dealing the whole
  pub deal-turn : (s : Dealable nodes dots rects first at left) → let child = route_cell n.cell (rect_at rects at) in
      (r : Dealable (nodes₁ child) (dots₁ child) rects first (next_at dots at) (left - 1))
      × (deal_words n (read (nodes₁ child) (dots₁ child) rects) r.group r.chain ≡ deal_words n (read nodes dots rects) s.group s.chain)
  deal-turn s = go s.chain s.stands s.once
    where
      go : (ds : List Placed) → ChainStands dots rects at left ds → ((k : ℕ) → sum_over (at_place k) ds ≤ 1) → let child =
          route_cell n.cell (rect_at rects at) in
          (r : Dealable (nodes₁ child) (dots₁ child) rects first (next_at dots at) (left - 1))
          × (deal_words n (read (nodes₁ child) (dots₁ child) rects) r.group r.chain ≡ deal_words n (read nodes dots rects) s.group ds)
      go [] g o = absurd (omega arith)
      go (d ∷ ds) g o =
          let child = route_cell n.cell (rect_at rects at) in
          let b = first + child in
          let i = route-child n (rect_at rects at) in
          let hn : HasNode nodes b = omega (arith, s.nodes_in) in
          let v : Node = record { first = at; count = count_at nodes b + 1 } in
          let p = d.place in
          let same : child ≡ route_dot n d = ap (λ (y : Dot). route_cell n.cell y.rect) g.3 in
          let to : b ≡ child_node s.group (route_dot n d) = omega (arith, s.starts) in
          let free : sum_over (at_place at) ds ≡ 0 = omega (arith, o at, ap (λ (y : ℕ). indicator at y) (sym g.0), indicator-same at) in
          let rest : Dealable (nodes₁ child) (dots₁ child) rects first (next_at dots at) (left - 1) =
          record {
            group = s.group;
            starts = s.starts;
            chain = ds;
            stands = stands_frame dots rects at (first_at nodes b) (next_at dots at) (left - 1) ds g.1 free g.5;
            once = λ k. omega (arith, o k);
            nodes_in = omega (arith, s.nodes_in, node-length nodes b v);
            small = λ j l.
                subst (λ (f : ℕ → ℕ). f (first + j) + (left - 1) ≤ 65536) (sym (count_set nodes b v hn))
                (changed-all (λ (k y : ℕ). k ≡ first + j → y + (left - 1) ≤ 65536) (count_at nodes) b (count_at nodes b + 1) (first + j)
                (λ e z. omega (arith, s.small child i)) (λ ne z. omega (arith, s.small j l)) refl);
          } in (
            rest,
            ap (λ (m : Mem). deal_words n m s.group ds)
                (linked-read nodes dots rects b at hn g.1 ∙ (λ k. link_words (read nodes dots rects) (to k) (g.0 k))),
          )

-- ---- the loop

-- what is left to deal is what there was to deal
pub record Dealing (nodes₀ dots₀ : List ℕ) (rects : List ℤ) (cell : CenteredAABB) (first at₀ left₀ : ℕ) (nodes dots : List ℕ) (at left : ℕ) : Type 0 where
  pub nodes_kept : length nodes ≡ length nodes₀
  pub dots_kept : length dots ≡ length dots₀
  pub rest : (n : NodeData) → n.cell ≡ cell → (s : Dealable nodes₀ dots₀ rects first at₀ left₀)
      → (r : Dealable nodes dots rects first at left)
      × (deal_words n (read nodes dots rects) r.group r.chain ≡ deal_words n (read nodes₀ dots₀ rects) s.group s.chain)

pub deal-start : {nodes dots : List ℕ} {rects : List ℤ} {cell : CenteredAABB} {first at left : ℕ}
    → Dealing nodes dots rects cell first at left nodes dots at left
deal-start = record { nodes_kept = refl; dots_kept = refl; rest = λ n e s. (s, refl) }

module _ {nodes₀ dots₀ : List ℕ} {rects : List ℤ} {cell : CenteredAABB} {first at₀ left₀ : ℕ} {nodes dots : List ℕ} {at left : ℕ}
    (dealing : Dealing nodes₀ dots₀ rects cell first at₀ left₀ nodes dots at left) where
  -- a node with the cell
  abbrev with_cell : NodeData
  with_cell = record { cell = cell; depth = 0; is_child_0 = false }

  pub deal-over : left ≤ 0 → Dealt nodes₀ dots₀ rects cell first at₀ left₀ nodes dots
  deal-over e n ec s = let r = dealing.rest n ec s in sym (go r.0 r.0.chain r.0.stands) ∙ r.1
    where
      go : (r : Dealable nodes dots rects first at left) (ds : List Placed) → ChainStands dots rects at left ds
          → deal_words n (read nodes dots rects) r.group ds ≡ read nodes dots rects
      go r [] g = refl
      go r (d ∷ ds) g = absurd (omega (arith, g.4))

  module _ (some : 1 ≤ left) where
    pub deal-place : Dealable nodes₀ dots₀ rects first at₀ left₀ → HasPlace dots at × HasRect rects at
    deal-place given = let r = (dealing.rest with_cell refl given).0 in stands_here dots rects at left r.chain r.stands some

    module _ {rect : AABB} {child : ℕ} (er : rect ≡ rect_at rects at) (ec : child ≡ route_cell cell rect) where
      to : route_cell cell (rect_at rects at) ≡ child
      to = ap (route_cell cell) (sym er) ∙ sym ec

      -- what a turn asks, of the child that the rectangle goes to
      pub deal-child : Dealable nodes₀ dots₀ rects first at₀ left₀ → (child < 5) × HasNode nodes (first + child) × (count_at nodes (first + child) < 4294967295)
      deal-child given =
          let r = (dealing.rest with_cell refl given).0 in
          let five : child < 5 = omega (arith, to, route-child with_cell (rect_at rects at)) in
          (five, omega (arith, r.nodes_in), omega (arith, r.small child five))

      pub deal-on : {next left' : ℕ} {nodes' dots' : List ℕ} → left' ≡ left - 1 → next ≡ next_at dots at
          → nodes' ≡ set_node_at nodes (first + child) (record { first = at; count = count_at nodes (first + child) + 1 })
          → dots' ≡ set_next_at dots at (first_at nodes (first + child))
          → Dealing nodes₀ dots₀ rects cell first at₀ left₀ nodes' dots' next left'
      deal-on {next} {left'} {nodes'} {dots'} el ex en ed =
          rw el
          (record {
            nodes_kept = ap length en ∙ node-length nodes (first + child) _ ∙ dealing.nodes_kept;
            dots_kept = ap length ed ∙ next-length dots at (first_at nodes (first + child)) ∙ dealing.dots_kept;
            rest = λ n e s.
                let now = dealing.rest n e s in
                let turn = deal-turn nodes dots rects n first at left some now.0 in
                let there : route_cell n.cell (rect_at rects at) ≡ child = ap (λ (y : CenteredAABB). route_cell y (rect_at rects at)) e ∙ to in
                let node : ℕ → List ℕ = λ k. set_node_at nodes (first + k) (record { first = at; count = count_at nodes (first + k) + 1 }) in
                let link : ℕ → List ℕ = λ k. set_next_at dots at (first_at nodes (first + k)) in
                let goal : List ℕ → List ℕ → ℕ → Type 0 = λ x y z.
                (r : Dealable x y rects first z (left - 1))
                × (deal_words n (read x y rects) r.group r.chain ≡ deal_words n (read nodes₀ dots₀ rects) s.group s.chain) in
                subst (λ (z : ℕ). goal nodes' dots' z) (sym ex)
                (subst (λ (y : List ℕ). goal nodes' y (next_at dots at)) (ap link there ∙ sym ed)
                (subst (λ (x : List ℕ). goal x (link (route_cell n.cell (rect_at rects at))) (next_at dots at)) (ap node there ∙ sym en)
                (turn.0, turn.1 ∙ now.1)));
          })
