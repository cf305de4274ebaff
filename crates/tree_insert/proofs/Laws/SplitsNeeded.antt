-- The splits that an insert needs: at each level the dots of the leaf's chain that lie within the bounds of the node reached.
--     Tallying, tally_start, tally_here, tally_fits, tally_on, tally_over      the count of a chain: its loop's invariant, begin, place, sum, turn and end
--     told-short, told-enough      what the answer says of the splits and the groups
--     Counting, need_start, need_on        the count of the splits: its loop's invariant, begin and turn
--     need_depth, need_fall        at a turn: a child is not too deep, and fewer steps are left
--     need_short, need_done        its ends: no group is left for a split; no split is due
use Rattle.std.specs.Prelude.{◌≡◌, refl, List, [], ◌∷◌, Some, None, Bool, true, false, cond, ◌&&◌, ◌⊎◌, ℕ, ◌+◌, ◌-◌, ◌≤◌, zero, suc, ◌<◌, length, eqb, leb}
use Rattle.std.proofs.Common.{ap, sym, ◌∙◌, inl, inr, ⊎_elim, arith, eq-eqb, le-leb, leb-true, leb-false}
use Rattle.std.proofs.Math.Path.{subst}
use Rattle.std.specs.Int.{w32}
use mir.Val.{Fits, bool_byte}
use Rattle.std.proofs.Math.Decide.{ℕ_discrete}
use Rattle.std.proofs.lemmas.Bool.{lt-leb}
use Rattle.arithmetic.proofs.Laws.Tests.{by_bool, true_false}
use Rattle.arithmetic.proofs.Laws.Linear.{and_t}
use Rattle.geometry.specs.declared.bounds.Bounds.{Bounds}
use Rattle.geometry.specs.Bounds.{in_bounds, all_bounds, bounds_below}
use Rattle.geometry.specs.declared.aabb.AABB.{AABB}
use Rattle.geometry.specs.declared.settings.Settings.{Settings}
use Rattle.geometry.specs.declared.node_data.NodeData.{NodeData}
use Rattle.geometry.specs.Cells.{InRange, child_data, may_divide, route, may_split}
use Rattle.geometry.proofs.Laws.Geometry.{route-child, levels_fall, may-splits}
use Rattle.geometry.specs.Levels.{levels_left}
use Rattle.geometry.proofs.Laws.Ranges.{accepted, child-range}
use Rattle.model.specs.Sums.{sum_over}
use Rattle.model.specs.Trees.{Placed, leaf}
use Rattle.model.specs.declared.Dot.{Dot}
use Rattle.model.specs.Layout.{none}
use Rattle.model.specs.Memory.{rect_at}
use Rattle.model.specs.Insert.{must_split, route_dot, deal}
use Rattle.model.proofs.Laws.Insert.{levels_suffice}
use Rattle.model.specs.Insert.{split_count}
use Rattle.model.proofs.Laws.Sums.{sum_over-one, by_dec}
use Rattle.model.proofs.Laws.Dealing.{deal_pick}
use Rattle.memory.specs.declared.node.Node.{Node}
use Rattle.memory.specs.Nodes.{node_at}
use Rattle.memory.specs.Rows.{HasRect}
use Rattle.memory.specs.Chains.{Passed}
use Rattle.memory.specs.Lent.{Held}
use Rattle.tree.specs.Chains.{ChainStands}
use Rattle.tree.proofs.Laws.Chains.{stands_here}
use Rattle.tree.proofs.Laws.Descent.{steps_left, steps_fall}
use Rattle.tree_insert.specs.SplitsNeeded.{within, SomeChain, CountedWithin, Countable, needed_of, SplitsTold}
use Rattle.tree_insert.proofs.Laws.FreeGroups.{Walking, walk_start, walk-on, walk_end}
use Rattle.tree_insert.proofs.Laws.Bounds.{one-most, Chosen, all-chosen, child-chosen}

-- ---- the count of a chain

-- the count that began at a head is at a place, with so many left
pub record Tallying (h : Held) (node : Node) (b : Bounds) (at left count : ℕ) : Type 0 where
  pub few : count + left ≤ node.count
  pub rest : (chain : List Placed) → ChainStands h.dots h.rects node.first node.count chain
      → (ds : List Placed) × ChainStands h.dots h.rects at left ds × (sum_over (within b) chain ≡ count + sum_over (within b) ds)

as_one : (t : Bool) → bool_byte t ≡ cond t 1 0
as_one true = refl
as_one false = refl

pub tally_start : {h : Held} {node : Node} {b : Bounds} → Tallying h node b node.first node.count 0
tally_start = record { few = omega arith; rest = λ chain s. (chain, s, omega arith) }

module _ {h : Held} {node : Node} {b : Bounds} {at left count : ℕ} (t : Tallying h node b at left count) where
  pub tally_here : SomeChain h node → {place next left' : ℕ} → Passed h.dots at left place next left' → HasRect h.rects place
  tally_here given p =
      let r = t.rest given.chain given.stands in subst (HasRect h.rects) (sym p.here) (stands_here h.dots h.rects at left r.0 r.1 p.some).1

  -- a dot is counted where its rectangle lies within the bounds
  module _ {place next left' : ℕ} (p : Passed h.dots at left place next left') (holds : Bool) {one : ℕ} (e : one ≡ bool_byte holds) where
    step : one ≡ cond holds 1 0
    step = e ∙ as_one holds

    pub tally_fits : Fits w32 node.count → Fits w32 (count + one)
    tally_fits f = record { fits = omega (arith, t.few, step, one-most holds, p.some, f.fits) }

    pub tally_on : {rect : AABB} → rect ≡ rect_at h.rects place → holds ≡ in_bounds b rect → Tallying h node b next left' (count + one)
    tally_on er eh =
        rw (p.rest)
        (record {
          few = omega (arith, step, one-most holds, p.some, t.few);
          rest = λ chain s. go chain (t.rest chain s).0 (t.rest chain s).1 (t.rest chain s).2;
        })
      where
        go : (chain ds : List Placed) → ChainStands h.dots h.rects at left ds → sum_over (within b) chain ≡ count + sum_over (within b) ds
            → (ds : List Placed) × ChainStands h.dots h.rects next (left - 1) ds × (sum_over (within b) chain ≡ count + one + sum_over (within b) ds)
        go chain [] g q = absurd (omega (arith, p.some))
        go chain (d ∷ ds) g q =
            let here : cond holds 1 0 ≡ within b d =
            ap (λ (y : Bool). cond y 1 0) (eh ∙ ap (in_bounds b) (er ∙ ap (rect_at h.rects) p.here ∙ ap (λ (y : Dot). y.rect) g.3)) in
            (ds, subst (λ (y : ℕ). ChainStands h.dots h.rects y (left - 1) ds) (sym p.next) g.5, omega (arith, here, step))

  pub tally_over : left ≡ 0 → CountedWithin h node b count
  tally_over none_left chain s = go (t.rest chain s).0 (t.rest chain s).1 (t.rest chain s).2
    where
      go : (ds : List Placed) → ChainStands h.dots h.rects at left ds → sum_over (within b) chain ≡ count + sum_over (within b) ds
          → count ≡ sum_over (within b) chain
      go [] g q = omega arith
      go (d ∷ ds) g q = absurd (omega (arith, g.4))

-- ---- what is told

pub told-short : (splits groups : ℕ) → None ≡ needed_of splits groups → groups < splits
told-short splits groups e =
    by_bool (leb splits groups)
    (λ t. let z : ◌≡◌ {A = ℕ} 0 1 = cc (rw t at e) in absurd (omega arith))
    (λ f. omega (arith, leb-false splits groups f))

pub told-enough : {told : ℕ} (splits groups : ℕ) → Some told ≡ needed_of splits groups → (told ≡ splits) × (told ≤ groups)
told-enough {told} splits groups e =
    by_bool (leb splits groups)
    (λ t. let same : told ≡ splits = cc (rw t at e) in (same, omega (arith, leb-true splits groups t)))
    (λ f. let z : ◌≡◌ {A = ℕ} 0 1 = cc (rw f at e) in absurd (omega arith))

-- ---- the splits, level by level

child_0 : (n : NodeData) (i : ℕ) → i ≡ 0 → (child_data n i).is_child_0 ≡ true
unfolding child_data
child_0 n i e = eq-eqb i 0 e

-- a child 0 does not split
child-stays : (s : Settings) (n : NodeData) (chain : List Placed) → n.is_child_0 ≡ true → must_split s n chain ≡ false
unfolding may_divide
child-stays s n chain e = rw e refl

no-split : (s : Settings) (levels : ℕ) (n : NodeData) (r : AABB) (chain : List Placed) → must_split s n chain ≡ false
    → split_count s levels n r (leaf chain) ≡ 0
no-split s zero n r chain e = refl
no-split s (suc levels) n r chain e = rw e refl

-- of a leaf with the chain: so many splits are counted, and the rest are those of a leaf at n whose chain has count dots, those within b;
-- at a child 0 there are none
pub record Counted (s : Settings) (h : Held) (node : Node) (n₀ : NodeData) (r : AABB) (k : Countable s h node n₀) (levels₀ : ℕ)
    (n : NodeData) (b : Bounds) (count splits : ℕ) : Type 0 where
  pub levels : ℕ
  pub chain : List Placed
  pub high : levels_left s n ≤ levels
  pub same : split_count s levels₀ n₀ r (leaf k.chain) ≡ splits + split_count s levels n r (leaf chain)
  pub told : (n.is_child_0 ≡ true) ⊎ ((count ≡ length chain) × Chosen b k.chain chain)

-- the loop's invariant, with the walk along the free groups: it has passed one a split
pub record Counting (s : Settings) (h : Held) (node : Node) (n₀ : NodeData) (r : AABB) (head group : ℕ) (n : NodeData) (b : Bounds)
    (count splits : ℕ) : Type 0 where
  pub range : InRange n.cell
  pub few : splits + steps_left n ≤ steps_left n₀
  pub all : (k : Countable s h node n₀) (levels₀ : ℕ) → levels_left s n₀ ≤ levels₀ → Counted s h node n₀ r k levels₀ n b count splits
  pub walk : Walking h.nodes head group splits

module _ {s : Settings} {h : Held} {node : Node} {n₀ : NodeData} {r : AABB} {head : ℕ} where
  pub need_start : {b : Bounds} → Countable s h node n₀ → b ≡ all_bounds → Counting s h node n₀ r head head n₀ b node.count 0
  need_start {b} given e =
      record {
        range = given.range;
        few = omega arith;
        all = λ k levels₀ high.
            record {
              levels = levels₀;
              chain = k.chain;
              high = high;
              same = omega arith;
              told = inr (k.counted, subst (λ (y : Bounds). Chosen y k.chain k.chain) (sym e) (all-chosen s k.chain k.dots_fit));
            };
        walk = walk_start;
      }

  module _ {group : ℕ} {n : NodeData} {b : Bounds} {count splits : ℕ} (counting : Counting s h node n₀ r head group n b count splits)
      (given : Countable s h node n₀) {full? : Bool} (tested : full? ≡ may_split s n && leb s.leaf_limit count) where
    one : 1 ≤ s.smallest_cell
    one = (accepted s given.settings).cell

    pub need_done : full? ≡ false → SplitsTold s h node n₀ r head (Some splits)
    need_done not k levels₀ high free listed =
        let c = counting.all k levels₀ high in
        let stays : must_split s n c.chain ≡ false =
        ⊎_elim (λ z. child-stays s n c.chain z)
        (λ e. ap (λ (y : ℕ). may_split s n && leb s.leaf_limit y) (sym e.0) ∙ sym tested ∙ not) c.told in
        let all : split_count s levels₀ n₀ r (leaf k.chain) ≡ splits = omega (arith, c.same, no-split s c.levels n r c.chain stays) in
        rw (all, le-leb splits (length free) (omega (arith, (counting.walk.rest free listed).2))) refl

    -- where the leaf is full and may split
    module _ (full : full? ≡ true) where
      may : may_split s n ≡ true
      may = (and_t (may_split s n) (leb s.leaf_limit count) (sym tested ∙ full)).0

      pub need_depth : n.depth < 255
      need_depth = omega (arith, (may-splits s n may).above, (accepted s given.settings).depth)

      pub need_fall : (child : ℕ) {n' : NodeData} → n' ≡ child_data n child → steps_left n' < steps_left n
      need_fall child e =
          subst (λ (y : NodeData). steps_left y < steps_left n) (sym e) (steps_fall n child (may-splits s n may).no_child0 need_depth)

      must : (chain : List Placed) → count ≡ length chain → must_split s n chain ≡ true
      must chain e = ap (λ (y : ℕ). may_split s n && leb s.leaf_limit y) (sym e) ∙ sym tested ∙ full

      -- a split is counted, and the rest are those of the child's leaf
      record Divided (k : Countable s h node n₀) (levels₀ : ℕ) : Type 0 where
        levels : ℕ
        chain : List Placed
        high : levels_left s n ≤ 1 + levels
        more : split_count s levels₀ n₀ r (leaf k.chain)
            ≡ splits + 1 + split_count s levels (child_data n (route n r)) r (leaf (deal n (λ j. []) chain (route n r)))
        chosen : Chosen b k.chain chain

      divided : (k : Countable s h node n₀) (levels₀ : ℕ) → levels_left s n₀ ≤ levels₀ → Divided k levels₀
      divided k levels₀ high = let c = counting.all k levels₀ high in go c.levels c.chain c.high c.same c.told
        where
          go : (levels : ℕ) (chain : List Placed) → levels_left s n ≤ levels
              → split_count s levels₀ n₀ r (leaf k.chain) ≡ splits + split_count s levels n r (leaf chain)
              → (n.is_child_0 ≡ true) ⊎ ((count ≡ length chain) × Chosen b k.chain chain) → Divided k levels₀
          go levels chain h same (inl c) = true_false (sym c ∙ (may-splits s n may).no_child0)
          go zero chain h same (inr c) = true_false (sym (must chain c.0) ∙ levels_suffice s one n chain (omega arith))
          go (suc levels) chain h same (inr c) =
              record { levels = levels; chain = chain; high = omega arith; more = omega (arith, rw (must chain c.0) at same); chosen = c.1 }

      -- no group is left
      pub need_short : group ≡ none → SplitsTold s h node n₀ r head None
      need_short e k levels₀ high free listed =
          let all = split_count s levels₀ n₀ r (leaf k.chain) in
          rw (lt-leb all (length free) (omega (arith, (divided k levels₀ high).more, walk_end counting.walk e free listed))) refl

      -- a turn, into the child
      module _ (left : ¬ (group ≡ none)) {link : Node} {child : ℕ} {n' : NodeData} {b' : Bounds} {count' : ℕ} (el : link ≡ node_at h.nodes group)
          (ec : child ≡ route n r) (en : n' ≡ child_data n child) (eb : b' ≡ bounds_below b n.cell child)
          (count-is : CountedWithin h node b' count') where
        known : child_data n (route n r) ≡ n'
        known = ap (child_data n) (sym ec) ∙ sym en

        counted-on : (k : Countable s h node n₀) (levels₀ : ℕ) → Divided k levels₀ → Counted s h node n₀ r k levels₀ n' b' count' (splits + 1)
        counted-on k levels₀ c =
            let i = route n r in
            let chain' = deal n (λ j. []) c.chain i in
            let chosen : 1 ≤ i → Chosen b' k.chain chain' =
            λ some h.
            deal_pick n h (λ j. []) c.chain i ∙ omega arith ∙ c.chosen (λ d. cond (eqb (route_dot n d) i) (h d) 0)
            ∙ child-chosen s b n i some (route-child n r) h k.chain k.dots_fit
            ∙ ap (λ (y : Bounds). sum_over (λ d. cond (in_bounds y d.dot.rect) (h d) 0) k.chain) (ap (bounds_below b n.cell) (sym ec) ∙ sym eb) in
            record {
              levels = c.levels;
              chain = chain';
              high = subst (λ (y : NodeData). levels_left s y ≤ c.levels) known (omega (arith, levels_fall s one n may i));
              same = omega (arith, c.more, ap (λ (y : NodeData). split_count s c.levels y r (leaf chain')) known);
              told =
                  by_dec (ℕ_discrete i 0)
                  (λ z. inl (subst (λ (y : NodeData). y.is_child_0 ≡ true) known (child_0 n i z)))
                  (λ ne.
                  let some : 1 ≤ i = omega arith in
                  inr (count-is k.chain k.stands ∙ sym (chosen some (λ d. 1)) ∙ sum_over-one chain', chosen some));
            }

        pub need_on : Counting s h node n₀ r head link.first n' b' count' (splits + 1)
        unfolding child_data
        need_on =
            record {
              range = subst (λ (y : NodeData). InRange y.cell) known (child-range n.cell (route n r) counting.range);
              few = omega (arith, counting.few, need_fall child en);
              all = λ k levels₀ high. counted-on k levels₀ (divided k levels₀ high);
              walk = walk-on counting.walk left el;
            }
