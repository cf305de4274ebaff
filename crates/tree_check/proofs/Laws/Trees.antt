-- The check of a node: a leaf by its chain, a branch by its group; each way by what the code reads.
--     fine-legible        a fine tree is told by its words
--     ready_again, marked-ready       what the next walk is given
--     group-given      what a group is given
--     tree_yes, tree-no        what a walk's answer says
--     empty-found      an empty leaf is good
--     leaf-over        a leaf that may split has at most the leaf limit's dots
--     leaf-scanned     a leaf's answer is its chain's
--     no-split, no-group, seen_group   a branch is good no more
--     branch-scanned   a branch's answer is its group's
use Rattle.std.specs.Prelude.{◌≡◌, List, [], Bool, ◌&&◌, ℕ, ◌+◌, ◌≤◌, ◌<◌, eqb, ltb, length, get_or, set, Some, None}
use Rattle.std.proofs.Math.Path.{refl, sym, subst}
use Rattle.std.proofs.Common.{ap, ◌∙◌}
use Rattle.std.proofs.Math.Bool.{true, false}
use Rattle.std.proofs.Math.Decide.{dec_lt}
use native.Mathlib.Omega.{arith}
use borrow.Author.Tests.{ltb-true, ltb-false, eqb-true, eqb-false}
use Rattle.arithmetic.proofs.Laws.Tests.{true_false}
use Rattle.arithmetic.proofs.Laws.Linear.{and_t}
use Rattle.geometry.specs.Cells.{may_split}
use Rattle.model.specs.Sums.{sum_below}
use Rattle.model.proofs.Laws.Sums.{indicator-same, by_dec}
use Rattle.model.specs.Trees.{Placed, Tree, leaf, branch, child_node, group_count}
use Rattle.model.specs.Layout.{none, branch_mark}
use Rattle.model.specs.Memory.{Mem, Chained}
use Rattle.model.proofs.Laws.Pattern.{Legible}
use Rattle.memory.specs.declared.node.Node.{Node}
use Rattle.memory.specs.Nodes.{node_at}
use Rattle.memory.specs.Lent.{Held, places_held, groups_held, mem_of}
use Rattle.tree_check.specs.declared.region.Region.{Region}
use Rattle.tree_check.specs.Regions.{fits, region_below}
use Rattle.tree_check.specs.Marks.{group_mark, Marked, MarksReady, WalkReady}
use Rattle.tree_check.proofs.Laws.Marks.{unmarked, was_marked, group-added, marks-ready, places-kept, once-one, once-rest, once-whole, added-whole}
use Rattle.tree_check.specs.Chains.{ChainGood, ChainFound, ChainScanned}
use Rattle.tree_check.specs.Frees.{GroupAt, empty_at}
use Rattle.tree_check.proofs.Laws.Frees.{empty-is}
use Rattle.tree_check.specs.Trees.{MaySplit, Fine, Sound, TreeGood, TreeFound, TreeScanned}
use Rattle.tree_check.specs.Trees.{GroupReady, GroupGood, GroupFound, GroupScanned}

pub fine-legible : (r : Region) (t : Tree) → Fine r t → Legible t
fine-legible r (leaf c) v = v.2
fine-legible r (branch g f) v = ((λ i b. fine-legible (region_below r i) (f i) (v.1 i b)), v.2)

-- the same rows, with other marks
pub ready_again : {rows : Held} {marks marks' : List ℕ} → WalkReady rows marks → MarksReady rows marks' → WalkReady rows marks'
ready_again r marked =
    record {
      node_room = r.node_room;
      dot_room = r.dot_room;
      rect_room = r.rect_room;
      mark_ready = marked;
      places_fit = r.places_fit;
      groups_fit = r.groups_fit;
    }

-- the same with a group marked
pub marked-ready : {rows : Held} {marks marks' : List ℕ} {group at : ℕ} {first : Bool} → WalkReady rows marks → group < groups_held rows
    → at ≡ places_held rows + group → Marked marks at marks' first → first ≡ true → WalkReady rows marks'
marked-ready {rows} {marks} {marks'} {group} {first = first} ready b p one f =
    let here : Marked marks (places_held rows + group) marks' first = subst (λ (y : ℕ). Marked marks y marks' first) p one in
    rw here.stored (ready_again ready (marks-ready marks group ready.mark_ready b (unmarked here f)))

pub group-given : {r : Region} {splits : Bool} {rows : Held} {group : ℕ} → Sound r → splits ≡ may_split r.settings r.node → splits ≡ true
    → group < groups_held rows → GroupReady r rows group
group-given sound may n b = record { sound = sound; splits = sym may ∙ n; within = b }

-- ---- what a walk's answer says

module _ {r r' : Region} (same : r ≡ r') (rows : Held) (marks marks' : List ℕ) (node : ℕ) (answer : Bool)
    (s : TreeScanned r rows marks node marks' answer) where
  scanned-at : {told : Bool} → answer ≡ told → TreeScanned r' rows marks node marks' told
  scanned-at {told} e = subst (λ (y : Region). TreeScanned y rows marks node marks' told) same
      (subst (λ (b : Bool). TreeScanned r rows marks node marks' b) e s)

  pub tree_yes : answer ≡ true → TreeFound r' rows marks node marks'
  unfolding TreeScanned
  tree_yes n = scanned-at n

  pub tree-no : answer ≡ false → TreeScanned r' rows marks node marks' false
  tree-no n = scanned-at n

module _ (r : Region) (rows : Held) (marks : List ℕ) (a : ℕ) (ready : WalkReady rows marks) where
  abbrev m : Mem
  m = mem_of rows

  bits : (j : ℕ) → get_or marks j 0 ≤ 1
  bits = ready.mark_ready.bits

  -- an empty leaf: nothing is counted, and nothing marked
  pub empty-found : empty_at rows.nodes a ≡ true → TreeFound r rows marks a marks
  unfolding branch_mark
  empty-found e =
      let words = empty-is rows.nodes a e in
      record {
        tree = leaf [];
        good = record {
          stands = (words.1, words.0);
          fine = (tt, (λ s. omega arith), omega arith);
          places_once = record { once = λ j b. omega (arith, bits j); within = λ j b. refl };
          groups_once = record { once = λ j b. omega (arith, bits (places_held rows + j)); within = λ j b. refl };
        };
        places_added = record { added = λ j b. omega arith };
        groups_added = record { added = λ j b. omega arith };
        ready = ready.mark_ready;
      }

  module _ {words : Node} {splits branches : Bool} (is : words ≡ node_at rows.nodes a) (may : splits ≡ may_split r.settings r.node)
      (told : branches ≡ eqb words.count branch_mark) where
    first-is : words.first ≡ m.first a
    first-is = ap (λ (n : Node). n.first) is

    count-is : words.count ≡ m.count a
    count-is = ap (λ (n : Node). n.count) is

    -- ---- a leaf

    module _ (is_leaf : branches ≡ false) where
      no-mark : m.count a ≡ branch_mark → ⊥
      no-mark e = eqb-false words.count branch_mark (sym told ∙ is_leaf) (count-is ∙ e)

      pub leaf-over : splits && ltb r.settings.leaf_limit words.count ≡ true → TreeScanned r rows marks a marks false
      unfolding TreeScanned
      leaf-over over (leaf c) h =
          let both = and_t splits (ltb r.settings.leaf_limit words.count) over in
          omega (arith, h.stands.0, h.fine.1 (sym may ∙ both.0), ltb-true r.settings.leaf_limit words.count both.1, count-is)
      leaf-over over (branch g f) h = no-mark h.stands.0

      leaf_in : (x : Tree) → TreeGood r rows marks a x
          → (chain : List Placed) × ChainGood (fits r) rows marks words.first words.count chain
      leaf_in (leaf c) h = (
        c,
        record {
          chained = subst (λ (y : ℕ). Chained m y c none) (sym first-is) h.stands.1;
          counted = sym (count-is ∙ h.stands.0);
          passing = h.fine.0;
          once = h.places_once;
        },
      )
      leaf_in (branch g f) h = absurd (no-mark h.stands.0)

      module _ (marks' : List ℕ) (size : length marks' ≡ length marks) (small : words.count < 4294967296)
          (under : splits && ltb r.settings.leaf_limit words.count ≡ false) where
        few : MaySplit r → words.count ≤ r.settings.leaf_limit
        few s = ltb-false _ _ (sym (λ i. (may ∙ s) i && ltb r.settings.leaf_limit words.count) ∙ under)

        leaf-out : ChainFound (fits r) rows marks words.first words.count marks' → TreeFound r rows marks a marks'
        unfolding branch_mark
        leaf-out f =
            record {
              tree = leaf f.chain;
              good = record {
                stands = (sym (f.good.counted ∙ count-is), subst (λ (y : ℕ). Chained m y f.chain none) first-is f.good.chained);
                fine = (f.good.passing, (λ s. omega (arith, few s, f.good.counted)), omega (arith, f.good.counted, no-mark, count-is));
                places_once = f.good.once;
                groups_once = record { once = λ j b. omega (arith, bits (places_held rows + j)); within = λ j b. refl };
              };
              places_added = f.added;
              groups_added = record { added = λ j b. omega (arith, f.kept (places_held rows + j) (omega arith)) };
              ready = record {
                room = size ∙ ready.mark_ready.room;
                bits = λ j. by_dec (dec_lt j (places_held rows))
                    (λ b. omega (arith, f.added.added j b, f.good.once.once j b)) (λ b. omega (arith, f.kept j (omega arith), bits j));
              };
            }

        pub leaf-scanned : (answer : Bool) → ChainScanned (fits r) rows marks words.first words.count marks' answer
            → TreeScanned r rows marks a marks' answer
        unfolding ChainScanned TreeScanned
        leaf-scanned true s = leaf-out s
        leaf-scanned false s = λ x h. let q = leaf_in x h in s q.0 q.1

    -- ---- a branch

    module _ (is_branch : branches ≡ true) where
      mark : m.count a ≡ branch_mark
      mark = sym count-is ∙ eqb-true words.count branch_mark (sym told ∙ is_branch)

      -- what a good branch is
      record Branch : Type 0 where
        pub group : ℕ
        pub children : ℕ → Tree
        pub may_split : MaySplit r
        pub first : words.first ≡ child_node group 0
        pub within : group < groups_held rows
        pub unseen : group_mark rows marks group ≡ 0
        pub below : GroupGood r rows (set marks (places_held rows + group) 1) group 5 children

      shape : (x : Tree) → TreeGood r rows marks a x → Branch
      shape (leaf c) h = absurd (omega (arith, h.stands.0, h.fine.2, mark))
      shape (branch g f) h =
          let b : g < groups_held rows =
          by_dec (dec_lt g (groups_held rows)) (λ x. x) (λ x. absurd (omega (arith, h.groups_once.within g (omega arith), indicator-same g))) in
          let z : group_mark rows marks g ≡ 0 = omega (arith, h.groups_once.once g b, indicator-same g) in
          let added = group-added marks g ready.mark_ready b z in
          record {
            group = g;
            children = f;
            may_split = h.fine.0;
            first = first-is ∙ h.stands.1;
            within = b;
            unseen = z;
            below = record {
              stands = h.stands.2;
              fine = h.fine.1;
              places_once = record {
                once = λ j c. omega (arith, h.places_once.once j c, places-kept marks g ready.mark_ready b z j c);
                within = h.places_once.within;
              };
              groups_once = once-rest added (λ j. sum_below 5 (λ i. group_count j (f i))) (λ j. group_count j (branch g f)) (λ j. refl) h.groups_once;
            };
          }

      -- the three refusals of a branch
      pub no-split : splits ≡ false → TreeScanned r rows marks a marks false
      unfolding TreeScanned
      no-split n x h = true_false (sym (shape x h).may_split ∙ sym may ∙ n)

      pub no-group : GroupAt rows words.first None → TreeScanned r rows marks a marks false
      unfolding TreeScanned
      no-group none_at x h = let s = shape x h in none_at s.group s.within s.first

      module _ {group : ℕ} (at : GroupAt rows words.first (Some group)) where
        only : (k : ℕ) → words.first ≡ child_node k 0 → group ≡ k
        only k first = omega (arith, first, at.1)

        pub seen_group : {marks₁ : List ℕ} {first : Bool} → Marked marks (places_held rows + group) marks₁ first → first ≡ false
            → TreeScanned r rows marks a marks₁ false
        unfolding TreeScanned
        seen_group one n x h = let s = shape x h in was_marked one n (ap (group_mark rows marks) (only s.group s.first) ∙ s.unseen)

        module _ {marks₁ : List ℕ} {first : Bool} (one : Marked marks (places_held rows + group) marks₁ first) (f : first ≡ true) (n : splits ≡ true)
            (marks' : List ℕ) where
          abbrev marked : List ℕ
          marked = set marks (places_held rows + group) 1

          z : group_mark rows marks group ≡ 0
          z = unmarked one f

          branch-found : GroupFound r rows marked group 5 marks' → TreeFound r rows marks a marks'
          branch-found k =
              let b = at.0 in
              let added = group-added marks group ready.mark_ready b z in
              let alone = once-one (group_mark rows marks) (groups_held rows) group (λ j. bits (places_held rows + j)) b z in
              let fs = k.children in
              let rest : ℕ → ℕ = λ j. sum_below 5 (λ i. group_count j (fs i)) in
              let whole : ℕ → ℕ = λ j. group_count j (branch group fs) in
              let kept = places-kept marks group ready.mark_ready b z in
              record {
                tree = branch group fs;
                good = record {
                  stands = (mark, sym first-is ∙ at.1, k.good.stands);
                  fine = (sym may ∙ n, k.good.fine, k.beyond);
                  places_once = record { once = λ j c. omega (arith, k.good.places_once.once j c, kept j c); within = k.good.places_once.within };
                  groups_once = once-whole added rest whole (λ j. refl) alone k.good.groups_once;
                };
                places_added = record { added = λ j c. omega (arith, k.places_added.added j c, kept j c) };
                groups_added = added-whole added rest whole (λ j. refl) k.groups_added;
                ready = k.ready;
              }

          by_mark : (answer : Bool) → GroupScanned r rows marked group 5 marks' answer
              → TreeScanned r rows marks a marks' answer
          unfolding GroupScanned TreeScanned
          by_mark true k = branch-found k
          by_mark false k =
              λ x h.
              let w = shape x h in
              let p : w.group ≡ group = sym (only w.group w.first) in
              k w.children (subst (λ (y : ℕ). GroupGood r rows (set marks (places_held rows + y) 1) y 5 w.children) p w.below)

          pub branch-scanned : (answer : Bool) → GroupScanned r rows marks₁ group 5 marks' answer → TreeScanned r rows marks a marks' answer
          branch-scanned answer k = by_mark answer (subst (λ (x : List ℕ). GroupScanned r rows x group 5 marks' answer) one.stored k)
