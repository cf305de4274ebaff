-- The split of a leaf.
--     taken-read   a leaf becomes a branch on a free group
--     split_deals, split_done      the chain can be dealt then, and the deal ends the split
--     stored-splittable    a leaf of a stored tree can be split, where a group is free
use Rattle.std.specs.Prelude.{List, ◌∷◌, ◌≡◌, refl, ℤ, length}
use Rattle.std.proofs.Math.Path.{ap}
use Rattle.std.proofs.Common.{sym, ◌∙◌, subst, arith}
use Prim.Native.Nat.{ℕ, ◌+◌, ◌<◌, ◌*◌, ◌≤◌}
use Rattle.std.proofs.Math.Decide.{ℕ_discrete}
use Rattle.geometry.specs.declared.node_data.NodeData.{NodeData}
use Rattle.geometry.specs.declared.centered_aabb.CenteredAABB.{CenteredAABB}
use Rattle.model.specs.Layout.{dots_for, branch_mark, none}
use Rattle.model.specs.Sums.{changed, indicator}
use Rattle.model.proofs.Laws.Sums.{changed-same, changed_other, by_dec, indicator-same}
use Rattle.model.specs.Memory.{Mem, read, count_at}
use Rattle.model.specs.Trees.{Placed, Tree, leaf, child_node, sum_dots, at_place, group_count}
use Rattle.model.proofs.Laws.Shapes.{below-le}
use Rattle.memory.specs.Nodes.{empty_leaf, node_at}
use Rattle.memory.specs.Rows.{set_node_at, HasNode}
use Rattle.memory.specs.declared.node.Node.{Node}
use Rattle.memory.proofs.Laws.Stores.{node-length, count_set}
use Rattle.tree.specs.Stores.{set_first, set_count}
use Rattle.tree.specs.Splits.{take_group, deal_words, split_words}
use Rattle.tree.proofs.Laws.Readings.{changed-id, set_node, node-stored}
use Rattle.tree.specs.Chains.{ChainStands}
use Rattle.tree.specs.Trees.{sum_nodes, node_count}
use Rattle.tree.specs.Paths.{sub}
use Rattle.tree.proofs.Laws.Paths.{Children, sum_dots-sub, sum_nodes-sub}
use Rattle.tree.specs.Stored.{Stored}
use Rattle.tree.proofs.Laws.Stored.{node-not_free}
use Rattle.tree.proofs.Laws.Leaves.{group-inside, leaf-inside, leaf-count, leaf-stands}
use Rattle.tree.specs.Paths as paths
use Rattle.tree_insert.specs.Deal.{Dealable, Dealt}
use Rattle.tree_insert.specs.LeafSplit.{Splittable}

-- the nodes once the group is taken
abbrev pub taken_nodes : List ℕ → ℕ → ℕ → List ℕ
taken_nodes nodes node first = set_node_at (set_node_at nodes node (record { first = first; count = branch_mark })) first empty_leaf

module _ {nodes dots : List ℕ} {rects : List ℤ} {node first : ℕ} (s : Splittable nodes dots rects node first) where
  taken-length : length (taken_nodes nodes node first) ≡ length nodes
  taken-length =
      let v : Node = record { first = first; count = branch_mark } in
      node-length (set_node_at nodes node v) first empty_leaf ∙ node-length nodes node v

  first_in : HasNode (set_node_at nodes node (record { first = first; count = branch_mark })) first
  first_in = omega (arith, s.nodes_in, node-length nodes node (record { first = first; count = branch_mark }))

  taken-count : (j : ℕ) → j < 5 → count_at (taken_nodes nodes node first) (first + j) ≡ 0
  unfolding empty_leaf
  taken-count j l =
      let v : Node = record { first = first; count = branch_mark } in
      let a : count_at (set_node_at nodes node v) (first + j) ≡ count_at nodes (first + j) =
      ap (λ (f : ℕ → ℕ). f (first + j)) (count_set nodes node v s.here)
      ∙ changed_other (count_at nodes) node branch_mark (first + j) (λ e. s.apart j l (sym e)) in
      ap (λ (f : ℕ → ℕ). f (first + j)) (count_set (set_node_at nodes node v) first empty_leaf first_in)
      ∙ by_dec (ℕ_discrete (first + j) first)
      (λ e. ap (changed (count_at (set_node_at nodes node v)) first 0) e ∙ changed-same (count_at (set_node_at nodes node v)) first 0)
      (λ ne. changed_other (count_at (set_node_at nodes node v)) first 0 (first + j) ne ∙ a ∙ s.empty j l)

  taken-read : (n : NodeData) → read (taken_nodes nodes node first) dots rects ≡ take_group n (read nodes dots rects) node s.group
  unfolding empty_leaf
  taken-read n =
      let v : Node = record { first = first; count = branch_mark } in
      let m = read nodes dots rects in
      let m₁ = set_node m node v in
      let zeroed : m₁.count first ≡ 0 =
      changed_other m.count node branch_mark first (λ e. s.apart 0 (omega arith) (omega (arith, e)))
      ∙ ap (count_at nodes) (omega arith) ∙ s.empty 0 (omega arith) in
      let kept : changed m₁.count first 0 ≡ m₁.count = ap (λ (z : ℕ). changed m₁.count first z) (sym zeroed) ∙ changed-id m₁.count first in
      node-stored (set_node_at nodes node v) dots rects first empty_leaf first_in
      ∙ ap (λ (y : Mem). set_node y first empty_leaf) (node-stored nodes dots rects node v s.here)
      ∙ (λ i. record { first = changed m₁.first first none; count = kept i; dot = m.dot; next = m.next })
      ∙ ap (λ (z : ℕ). set_first (set_count (set_first m node z) node branch_mark) z none) s.starts

  pub split_deals : {chain : Node} {nodes₁ : List ℕ} → chain ≡ node_at nodes node → nodes₁ ≡ taken_nodes nodes node first
      → Dealable nodes₁ dots rects first chain.first chain.count
  split_deals {chain} {nodes₁} e e₁ =
      record {
        group = s.group;
        starts = s.starts;
        chain = s.chain;
        stands = subst (λ (v : Node). ChainStands dots rects v.first v.count s.chain) (sym e) s.stands;
        once = s.once;
        nodes_in = omega (arith, s.nodes_in, taken-length, ap length e₁);
        small = λ j l. omega (arith, taken-count j l, s.small, ap (λ (y : List ℕ). count_at y (first + j)) e₁, ap (λ (v : Node). v.count) e);
      }

pub split_done : {nodes dots : List ℕ} {rects : List ℤ} {node : ℕ} {cell : CenteredAABB} {first : ℕ} {chain : Node} {nodes₁ : List ℕ}
    (nodes' dots' : List ℕ)
    → chain ≡ node_at nodes node → nodes₁ ≡ taken_nodes nodes node first
    → Dealt nodes₁ dots rects cell first chain.first chain.count nodes' dots'
    → (n : NodeData) → n.cell ≡ cell → (s : Splittable nodes dots rects node first)
    → read nodes' dots' rects ≡ split_words n (read nodes dots rects) node s.group s.chain
unfolding split_deals
split_done {dots = dots} {rects} nodes' dots' e e₁ dealt n c s =
    dealt n c (split_deals s e e₁)
    ∙ ap (λ (m : Mem). deal_words n m s.group s.chain) (ap (λ (y : List ℕ). read y dots rects) e₁ ∙ taken-read s n)

-- ---- a leaf of a stored tree

-- where a group is free, the leaf can be split
pub stored-splittable : (G N : ℕ) (nodes dots : List ℕ) (rects : List ℤ) (group_head place_head : ℕ) (t : Tree) (g : ℕ) (free spare : List ℕ)
    → Stored G N (read nodes dots rects) group_head place_head t (g ∷ free) spare
    → length nodes ≡ 2 + 10 * G → length dots ≡ dots_for N → length rects ≡ 4 * N → (path : List ℕ) (chain : List Placed) → Children path
    → sub t path ≡ leaf chain → length chain ≤ 65536
    → (s : Splittable nodes dots rects (paths.node_at 0 t path) group_head) × (s.group ≡ g) × (s.chain ≡ chain)
stored-splittable G N nodes dots rects group_head place_head t g free spare stored nodes_fit dots_fit rects_fit path chain children e short =
    let b = paths.node_at 0 t path in
    let f = stored.groups in
    let inside = group-inside nodes dots rects stored nodes_fit in
    let not_g : group_count g t ≡ 0 = omega (arith, stored.groups_once g, below-le g G, indicator-same g) in
    let count = leaf-count nodes dots rects stored nodes_fit path children e in
    let in_n : 1 ≤ node_count b 0 t = omega (arith, sum_nodes-sub (indicator b) 0 t path children, ap (sum_nodes (indicator b) b) e, indicator-same b) in (
      record {
        group = g;
        starts = f.0;
        chain = chain;
        stands = leaf-stands nodes dots rects stored nodes_fit path children e dots_fit rects_fit;
        once = λ k. omega (arith, stored.places_once k, below-le k N, sum_dots-sub (at_place k) t path children, ap (sum_dots (at_place k)) e);
        here = leaf-inside nodes dots rects stored nodes_fit path children e;
        nodes_in = omega (arith, f.0, inside g (omega (arith, indicator-same g)));
        apart = λ j l z. node-not_free t b g j l not_g in_n (omega (arith, f.0));
        empty = λ j l.
            let to : group_head + j ≡ child_node g j = omega (arith, f.0) in
            ap (count_at nodes) to
            ∙ by_dec (ℕ_discrete j 0) (λ z. ap (λ (y : ℕ). count_at nodes (child_node g y)) z ∙ f.1) (λ ne. (f.2 j (omega arith) l).1);
        small = omega (arith, count);
      },
      refl,
      refl,
    )
