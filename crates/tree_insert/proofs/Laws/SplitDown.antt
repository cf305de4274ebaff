-- The splits on the way down.
--     turn-down, turn-split        one turn of the loop, on the tree
--     inserting-splits, inserting-on       what a split asks, and where the insert is after it
--     SplittingDown, down-splits, down-on  the loop's invariant, what a split asks, a turn
use Rattle.std.specs.Prelude.{◌≡◌, List, [], ◌∷◌, ◌++◌, true, ℕ, suc, zero, ◌-◌, ◌≤◌, ◌<◌, ◌+◌, ℤ}
use Rattle.std.proofs.Math.Path.{refl, ap, sym, subst}
use Rattle.std.proofs.Common.{◌∙◌, arith}
use Rattle.std.proofs.Math.ListN.{length}
use Rattle.arithmetic.proofs.Laws.Tests.{by_bool}
use Rattle.geometry.specs.declared.node_data.NodeData.{NodeData}
use Rattle.geometry.specs.declared.settings.Settings.{Settings}
use Rattle.geometry.specs.Cells.{child_data, InRange, route, may_split, route_cell}
use Rattle.geometry.specs.declared.aabb.AABB.{AABB}
use Rattle.geometry.proofs.Laws.Ranges.{child-range, accepted}
use Rattle.geometry.proofs.Laws.Geometry.{route-child, may-splits}
use Rattle.model.specs.Trees.{Placed, Tree, leaf, branch, child_node}
use Rattle.model.specs.Insert.{route_dot, Grown, must_split, insert_at, deal, dealt}
use Rattle.model.specs.Sums.{sum_over}
use Rattle.model.proofs.Laws.Sums.{sum_over-one, sum_below_term}
use Rattle.model.proofs.Laws.Insert.{deal-sum}
use Rattle.model.specs.Insert.{split_count}
use Rattle.model.specs.declared.Dot.{Dot}
use Rattle.model.specs.Shapes.{Shape, placed_in}
use Rattle.model.specs.Memory.{Mem, read, first_at}
use Rattle.tree.specs.Paths.{sub, put, Reach}
use Rattle.tree.proofs.Laws.Splits.{split_tree, split-holds}
use Rattle.tree.proofs.Laws.Paths.{sub-put, put-put, sub_snoc, put_snoc, Children, reach-children, reach-put, node_snoc, reach_snoc}
use Rattle.tree.specs.Stored.{Stored}
use Rattle.tree.specs.Splits.{split_words}
use Rattle.tree.specs.declared.find.Leaf.{Leaf}
use Rattle.tree.specs.Paths as paths
use Rattle.tree_insert.specs.SplitDown.{Ended, ended_from, Inserting, Continues, CanSplitDown}
use Rattle.tree_insert.specs.LeafSplit.{Splittable, Split}
use Rattle.tree_insert.proofs.Laws.LeafSplit.{stored-splittable}

-- ---- one turn, on the tree

module _ (S : Settings) (d : Placed) where
  pub turn-down : (n : ℕ) (c : NodeData) (t : Tree) (p free : List ℕ) (g : ℕ) (f : ℕ → Tree) → Reach t p → sub t p ≡ branch g f
      → let i = route_dot c d in ended_from S d (suc n) c t p free ≡ ended_from S d n (child_data c i) t (p ++ i ∷ []) free
  turn-down n c t p free g f r e =
      let i = route_dot c d in
      ap (λ (x : Tree). let y = insert_at S (suc n) c d x free in record { tree = put t p y.tree; free = y.free }) e
      ∙ sym (ap (λ (x : Tree). let y = insert_at S n (child_data c i) d x free in record { tree = put t (p ++ i ∷ []) y.tree; free = y.free })
      (sub_snoc g f i t p r e)
      ∙ ap (λ (x : Tree). record { tree = x; free = (insert_at S n (child_data c i) d (f i) free).free })
      (put_snoc g f i t p (insert_at S n (child_data c i) d (f i) free).tree r e))

  pub turn-split : (n : ℕ) (c : NodeData) (t : Tree) (p : List ℕ) (g : ℕ) (free : List ℕ) (ds : List Placed) → Reach t p → sub t p ≡ leaf ds
      → must_split S c ds ≡ true
      → ended_from S d (suc n) c t p (g ∷ free) ≡ ended_from S d (suc n) c (put t p (split_tree c g ds)) p free
  turn-split n c t p g free ds r e b =
      let u = split_tree c g ds in
      let y = insert_at S (suc n) c d u free in
      let ended : Grown → Ended = λ x. record { tree = put t p x.tree; free = x.free } in
      let z : ended (insert_at S (suc n) c d (leaf ds) (g ∷ free)) ≡ ended y = rw b refl in
      ap (λ (x : Tree). let y = insert_at S (suc n) c d x (g ∷ free) in record { tree = put t p y.tree; free = y.free }) e
      ∙ z
      ∙ sym (ap (λ (x : Tree). let y = insert_at S (suc n) c d x free in record { tree = put (put t p u) p y.tree; free = y.free }) (sub-put u t p r)
      ∙ ap (λ (x : Tree). record { tree = x; free = y.free }) (put-put t p u y.tree r))

-- ---- one turn, in the rows

-- where a split is left, the leaf must split, and a level and a group are there for it
pub record Must (s : Settings) (levels : ℕ) (n : NodeData) (r : AABB) (chain : List Placed) (free : List ℕ) (left : ℕ) : Type 0 where
  pub below : ℕ
  pub level : levels ≡ suc below
  pub group : ℕ
  pub others : List ℕ
  pub taken : free ≡ group ∷ others
  pub must : must_split s n chain ≡ true
  pub next : split_count s below (child_data n (route n r)) r (dealt n chain (route n r)) ≡ left - 1

must : (s : Settings) (levels : ℕ) (n : NodeData) (r : AABB) (chain : List Placed) (free : List ℕ) (left : ℕ)
    → split_count s levels n r (leaf chain) ≡ left → 1 ≤ left → left ≤ length free
    → Must s levels n r chain free left
must s zero n r chain free left e some enough = absurd (omega arith)
must s (suc below) n r chain [] left e some enough = absurd (omega arith)
must s (suc below) n r chain (g ∷ free) left e some enough =
    by_bool (must_split s n chain)
    (λ m. record { below = below; level = refl; group = g; others = free; taken = refl; must = m; next = omega (arith, rw m at e) })
    (λ m. absurd (omega (arith, rw m at e)))

must-may : (s : Settings) (n : NodeData) (chain : List Placed) → must_split s n chain ≡ true → may_split s n ≡ true
must-may s n chain e = by_bool (may_split s n) (λ m. m) (λ m. Rattle.arithmetic.proofs.Laws.Tests.true_false (sym (rw m at e)))

dealt-length : (n : NodeData) (chain : List Placed) (i : ℕ) → i < 5 → length (deal n (λ j. []) chain i) ≤ length chain
dealt-length n chain i l =
    omega (
      arith,
      sum_over-one (deal n (λ j. []) chain i),
      sum_over-one chain,
      deal-sum n (λ d. 1) (λ j. []) chain,
      sum_below_term 5 (λ j. sum_over (λ d. 1) (deal n (λ k. []) chain j)) i l,
    )

child_in : (n : NodeData) (i : ℕ) → InRange n.cell → InRange (child_data n i).cell
unfolding child_data
child_in n i r = child-range n.cell i r

module _ {x : Shape} {dot : Dot} {place_head : ℕ} {nodes dots : List ℕ} {rects : List ℤ} {group_head node : ℕ} {n : NodeData} {left : ℕ}
    (now : Inserting x dot place_head nodes dots rects group_head node n left) (some : 1 ≤ left) where
  musts : Must x.settings now.levels n dot.rect now.chain now.free left
  musts = must x.settings now.levels n dot.rect now.chain now.free left now.rest some now.enough

  stored-group : Stored x.groups x.places (read nodes dots rects) group_head place_head now.tree (musts.group ∷ musts.others) x.free_places
  stored-group =
      subst (λ (f : List ℕ). Stored x.groups x.places (read nodes dots rects) group_head place_head now.tree f x.free_places)
      musts.taken now.stored

  at-children : Children now.path
  at-children = reach-children now.tree now.path now.reach

  splits : (s : Splittable nodes dots rects node group_head) × (s.group ≡ musts.group) × (s.chain ≡ now.chain)
  splits =
      subst (λ (b : ℕ). (s : Splittable nodes dots rects b group_head) × (s.group ≡ musts.group) × (s.chain ≡ now.chain)) now.at
      (stored-splittable x.groups x.places nodes dots rects group_head place_head now.tree
      musts.group musts.others x.free_places stored-group now.nodes_fit now.dots_fit now.rects_fit
      now.path now.chain at-children now.here now.short)

  pub inserting-splits : Splittable nodes dots rects node group_head
  inserting-splits = splits.0

  pub inserting-depth : n.depth < 255
  inserting-depth =
      omega (arith, (may-splits x.settings n (must-may x.settings n now.chain musts.must)).above, (accepted x.settings now.settings).depth)

  -- after the split, at the child
  pub inserting-on : {nodes' dots' : List ℕ} {next child : ℕ} {n' : NodeData} → length nodes' ≡ length nodes → length dots' ≡ length dots
      → Split nodes dots rects node n.cell group_head nodes' dots' next → child ≡ route n dot.rect → n' ≡ child_data n child
      → Inserting x dot place_head nodes' dots' rects next (group_head + child) n' (left - 1)
  unfolding inserting-splits
  inserting-on {nodes'} {dots'} {next} {child} {n'} ln ld done ec e' =
      let words = done.1 n refl inserting-splits in
      let d = placed_in dot x in
      let g = musts.group in
      let fs = musts.others in
      let t = now.tree in
      let p = now.path in
      let ds = now.chain in
      let i = route n dot.rect in
      let u = split_tree n g ds in
      let t₁ = put t p u in
      let r₁ = reach-put u t p now.reach in
      let e₁ : sub t₁ p ≡ u = sub-put u t p now.reach in
      let known : child_data n i ≡ n' = ap (child_data n) (sym ec) ∙ sym e' in
      let head : group_head ≡ child_node g 0 = stored-group.groups.0 in
      let same : split_words n (read nodes dots rects) (paths.node_at 0 t p) g ds ≡ read nodes' dots' rects =
      (λ k. split_words n (read nodes dots rects) (now.at k) (sym splits.1 k) (sym splits.2 k)) ∙ sym words in
      let first : first_at nodes (child_node g 0) ≡ next = ap (first_at nodes) (sym head) ∙ sym done.0 in
      record {
        tree = t₁;
        path = p ++ i ∷ [];
        free = fs;
        chain = deal n (λ j. []) ds i;
        levels = musts.below;
        settings = now.settings;
        nodes_fit = ln ∙ now.nodes_fit;
        dots_fit = ld ∙ now.dots_fit;
        rects_fit = now.rects_fit;
        reach = reach_snoc g (dealt n ds) i t₁ p (route-child n dot.rect) r₁ e₁;
        here = sub_snoc g (dealt n ds) i t₁ p r₁ e₁;
        at = node_snoc g (dealt n ds) i 0 t₁ p r₁ e₁ ∙ omega arith;
        stored =
            subst (λ (m : Mem). Stored x.groups x.places m next place_head t₁ fs x.free_places) same
            (subst (λ (h : ℕ). Stored x.groups x.places
            (split_words n (read nodes dots rects) (paths.node_at 0 t p) g ds) h place_head t₁ fs x.free_places) first
            (split-holds n x.groups x.places (read nodes dots rects) group_head place_head t g fs
            x.free_places p ds at-children now.here stored-group));
        rest = ap (λ (y : NodeData). split_count x.settings musts.below y dot.rect (dealt n ds i)) (sym known) ∙ musts.next;
        enough = omega (arith, now.enough, ap length musts.taken);
        short = omega (arith, dealt-length n ds i (route-child n dot.rect), now.short);
        range = subst (λ (y : NodeData). InRange y.cell) known (child_in n i now.range);
        ends =
            ap (λ (y : NodeData). ended_from x.settings d musts.below y t₁ (p ++ i ∷ []) fs) (sym known)
            ∙ sym (turn-split x.settings d musts.below n t p g fs ds now.reach now.here musts.must
            ∙ turn-down x.settings d musts.below n t₁ p fs g (dealt n ds) r₁ e₁)
            ∙ (λ k. ended_from x.settings d (sym musts.level k) n t p (sym musts.taken k)) ∙ now.ends;
      }

-- ---- the loop

-- the lengths are kept, and the insert continues
pub record SplittingDown (r : AABB) (rects : List ℤ) (nodes₀ dots₀ : List ℕ) (head₀ node₀ : ℕ) (n₀ : NodeData) (left₀ : ℕ)
    (nodes dots : List ℕ) (head node : ℕ) (n : NodeData) (left : ℕ) : Type 0 where
  pub nodes_kept : length nodes ≡ length nodes₀
  pub dots_kept : length dots ≡ length dots₀
  pub continues : Continues r rects nodes₀ dots₀ head₀ node₀ n₀ left₀ nodes dots head node n left

module _ {r : AABB} {rects : List ℤ} {nodes₀ dots₀ : List ℕ} {head₀ : ℕ} {l : Leaf} {left₀ : ℕ} (given : CanSplitDown r nodes₀ dots₀ rects head₀ l left₀)
    {nodes dots : List ℕ} {head node : ℕ} {n : NodeData} {left : ℕ}
    (down : SplittingDown r rects nodes₀ dots₀ head₀ l.node l.node_data left₀ nodes dots head node n left) where
  -- the insert that the function was called for
  now₀ : Inserting given.shape given.dot given.place_head nodes dots rects head node n left
  now₀ = down.continues given.shape given.dot given.place_head given.rect given.inserting

  module _ (some : 1 ≤ left) where
    pub down-splits : Splittable nodes dots rects node head
    down-splits = inserting-splits now₀ some

    pub down_data : InRange n.cell × (n.depth < 255)
    down_data = (now₀.range, inserting-depth now₀ some)

    pub down-on : {nodes' dots' : List ℕ} {next child left' : ℕ} {n' : NodeData} → left' ≡ left - 1 → length nodes' ≡ length nodes → length dots' ≡ length dots
        → Split nodes dots rects node n.cell head nodes' dots' next → child ≡ route_cell n.cell r → n' ≡ child_data n child
        → SplittingDown r rects nodes₀ dots₀ head₀ l.node l.node_data left₀ nodes' dots' next (head + child) n' left'
    down-on el ln ld done ec en =
        rw el
        (record {
          nodes_kept = ln ∙ down.nodes_kept;
          dots_kept = ld ∙ down.dots_kept;
          continues = λ x dot place_head e i.
              inserting-on (down.continues x dot place_head e i) some ln ld done (ec ∙ ap (route_cell n.cell) (sym e)) en;
        })
