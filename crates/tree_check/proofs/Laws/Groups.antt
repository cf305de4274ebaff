-- The check of a group: child by child, from the last.
--     no-children      with no child left there is nothing to check
--     child_bad        a child that is not good
--     child-scanned    a good child, marked: the answer is that of the others
--     Ahead            a group between two children; ahead-empty, ahead-next, ahead_bad, ahead-end: the loop over them
use Rattle.std.specs.Prelude.{◌≡◌, refl, List, [], Bool, ℕ, ◌+◌, ◌-◌, ◌≤◌, ◌<◌, length}
use Rattle.std.proofs.Common.{ap, sym, ◌∙◌, subst, not-suc-le-zero, arith}
use Rattle.std.proofs.Math.Bool.{true, false}
use Rattle.model.specs.Sums.{sum_below, changed}
use Rattle.model.proofs.Laws.Sums.{sum_below_ext, changed-same, changed_other, changed-all, sum_below-last}
use Rattle.model.specs.Trees.{Tree, leaf, child_node, place_count, group_count}
use Rattle.model.specs.Memory.{Represents}
use Rattle.model.proofs.Laws.Pattern.{one-tree}
use Rattle.memory.specs.Lent.{Held, places_held, mem_of}
use Rattle.tree_check.specs.declared.region.Region.{Region}
use Rattle.tree_check.specs.Regions.{region_below}
use Rattle.tree_check.specs.Marks.{Once, MarksReady, WalkReady}
use Rattle.tree_check.proofs.Laws.Marks.{once-rest, once-whole, added-whole}
use Rattle.tree_check.specs.Frees.{empty_at}
use Rattle.tree_check.specs.Trees.{Fine, TreeGood, TreeFound, TreeScanned, GroupGood, GroupFound, GroupScanned}
use Rattle.tree_check.proofs.Laws.Trees.{fine-legible, ready_again, tree_yes, tree-no, empty-found}

-- of what is counted once, a part is
once-part : {mark : ℕ → ℕ} {limit : ℕ} (part rest whole : ℕ → ℕ) → ((j : ℕ) → whole j ≡ part j + rest j) → Once mark limit whole → Once mark limit part
once-part part rest whole sum o =
    record { once = λ j b. omega (arith, o.once j b, sum j); within = λ j b. omega (arith, o.within j b, sum j) }

module _ (r : Region) (rows : Held) (marks : List ℕ) (group left : ℕ) (ne : left ≡ 0 → ⊥) where
  -- the last of the children that are left
  abbrev last : ℕ
  last = left - 1

  last-good : (f : ℕ → Tree) → GroupGood r rows marks group left f
      → TreeGood (region_below r last) rows marks (child_node group last) (f last)
  last-good f h =
      record {
        stands = h.stands last (omega arith);
        fine = h.fine last (omega arith);
        places_once = once-part (λ j. place_count j (f last)) (λ j. sum_below last (λ i. place_count j (f i))) (λ j. sum_below left (λ i. place_count j (f i)))
            (λ j. sum_below-last left ne (λ i. place_count j (f i))) h.places_once;
        groups_once = once-part (λ j. group_count j (f last)) (λ j. sum_below last (λ i. group_count j (f i))) (λ j. sum_below left (λ i. group_count j (f i)))
            (λ j. sum_below-last left ne (λ i. group_count j (f i))) h.groups_once;
      }

  child_bad : (marks₁ : List ℕ) → TreeScanned (region_below r (left - 1)) rows marks (child_node group (left - 1)) marks₁ false
      → GroupScanned r rows marks group left marks₁ false
  unfolding TreeScanned GroupScanned
  child_bad marks₁ k f h = k (f (left - 1)) (last-good f h)

  -- the last child was found, and marked: the others
  module _ (marks₁ : List ℕ) (found : TreeFound (region_below r (left - 1)) rows marks (child_node group (left - 1)) marks₁) where
    rest-good : (f : ℕ → Tree) → GroupGood r rows marks group left f → GroupGood r rows marks₁ group (left - 1) f
    rest-good f h =
        let k = last-good f h in
        let told = fine-legible (region_below r last) in
        let same : found.tree ≡ f last =
        one-tree (mem_of rows) (child_node group last) found.tree (f last) (told found.tree found.good.fine) (told (f last) k.fine)
        found.good.stands k.stands in
        let rest : (Tree → ℕ) → ℕ = λ v. sum_below last (λ i. v (f i)) in
        let whole : (Tree → ℕ) → ℕ = λ v. sum_below left (λ i. v (f i)) in
        let sum : (v : Tree → ℕ) → whole v ≡ v found.tree + rest v =
        λ v. sum_below-last left ne (λ i. v (f i)) ∙ ap (λ (t : Tree). v t + rest v) (sym same) in
        record {
          stands = λ j c. h.stands j (omega arith);
          fine = λ j c. h.fine j (omega arith);
          places_once = once-rest found.places_added (λ j. rest (place_count j)) (λ j. whole (place_count j)) (λ j. sum (place_count j)) h.places_once;
          groups_once = once-rest found.groups_added (λ j. rest (group_count j)) (λ j. whole (group_count j)) (λ j. sum (group_count j)) h.groups_once;
        }

    rest-found : (marks₂ : List ℕ) → GroupFound r rows marks₁ group (left - 1) marks₂ → GroupFound r rows marks group left marks₂
    rest-found marks₂ k =
        let t = found.tree in
        let g = k.children in
        let f = changed g last t in
        let sum : (v : Tree → ℕ) → sum_below left (λ i. v (f i)) ≡ v t + sum_below last (λ i. v (g i)) = λ v.
        sum_below-last left ne (λ i. v (f i))
        ∙ ap (λ (y : ℕ). v (f last) + y) (sum_below_ext last (λ i. v (f i)) (λ i. v (g i)) (λ i b. ap v (changed_other g last t i (λ e. omega arith))))
        ∙ ap (λ (y : Tree). v y + sum_below last (λ i. v (g i))) (changed-same g last t) in
        let places-rest : ℕ → ℕ = λ j. sum_below last (λ i. place_count j (g i)) in
        let places-whole : ℕ → ℕ = λ j. sum_below left (λ i. place_count j (f i)) in
        let groups-rest : ℕ → ℕ = λ j. sum_below last (λ i. group_count j (g i)) in
        let groups-whole : ℕ → ℕ = λ j. sum_below left (λ i. group_count j (f i)) in
        record {
          children = f;
          good = record {
            stands = λ i b. changed-all (λ (i : ℕ) (x : Tree). Represents (mem_of rows) (child_node group i) x) g last t i
                (λ e. subst (λ (y : ℕ). Represents (mem_of rows) (child_node group y) t) (sym e) found.good.stands) (λ x. k.good.stands i (omega arith));
            fine = λ i b. changed-all (λ (i : ℕ) (x : Tree). Fine (region_below r i) x) g last t i
                (λ e. subst (λ (y : ℕ). Fine (region_below r y) t) (sym e) found.good.fine) (λ x. k.good.fine i (omega arith));
            places_once = once-whole found.places_added places-rest places-whole (λ j. sum (place_count j)) found.good.places_once k.good.places_once;
            groups_once = once-whole found.groups_added groups-rest groups-whole (λ j. sum (group_count j)) found.good.groups_once k.good.groups_once;
          };
          beyond = λ i b. changed_other g last t i (λ e. omega arith) ∙ k.beyond i (omega arith);
          places_added = added-whole found.places_added places-rest places-whole (λ j. sum (place_count j)) k.places_added;
          groups_added = added-whole found.groups_added groups-rest groups-whole (λ j. sum (group_count j)) k.groups_added;
          ready = k.ready;
        }

    child-scanned : (answer : Bool) (marks₂ : List ℕ) → GroupScanned r rows marks₁ group (left - 1) marks₂ answer
        → GroupScanned r rows marks group left marks₂ answer
    unfolding GroupScanned
    child-scanned true marks₂ k = rest-found marks₂ k
    child-scanned false marks₂ k = λ f h. k f (rest-good f h)

no-children : (r : Region) (rows : Held) (marks : List ℕ) (group left : ℕ) → MarksReady rows marks → left ≡ 0
    → GroupScanned r rows marks group left marks true
unfolding GroupScanned
no-children r rows marks group left ready z =
    subst (λ (y : ℕ). GroupFound r rows marks group y marks) (sym z)
    (record {
      children = λ i. leaf [];
      good = record {
        stands = λ i b. absurd (not-suc-le-zero b);
        fine = λ i b. absurd (not-suc-le-zero b);
        places_once = record { once = λ j b. omega (arith, ready.bits j); within = λ j b. refl };
        groups_once = record { once = λ j b. omega (arith, ready.bits (places_held rows + j)); within = λ j b. refl };
      };
      beyond = λ i b. refl;
      places_added = record { added = λ j b. omega arith };
      groups_added = record { added = λ j b. omega arith };
      ready = ready;
    })

-- ---- between two children

-- what is left to check leads to the whole
pub record Ahead (r : Region) (rows : Held) (group : ℕ) (marks₀ marks : List ℕ) (left : ℕ) : Type 0 where
  pub ready : WalkReady rows marks
  pub five : left ≤ 5
  pub size : length marks ≡ length marks₀
  pub whole : (marks' : List ℕ) (answer : Bool) → GroupScanned r rows marks group left marks' answer
      → GroupScanned r rows marks₀ group 5 marks' answer

-- by what the code reads of the last child
module _ {r : Region} {rows : Held} {group : ℕ} {marks₀ marks : List ℕ} {left : ℕ} (a : Ahead r rows group marks₀ marks left) where
  module _ (some : 0 < left) where
    ne : left ≡ 0 → ⊥
    ne e = omega arith

    found : (marks₁ : List ℕ) → TreeFound (region_below r (left - 1)) rows marks (child_node group (left - 1)) marks₁ → length marks₁ ≡ length marks
        → Ahead r rows group marks₀ marks₁ (left - 1)
    found marks₁ child same =
        record {
          ready = ready_again a.ready child.ready;
          five = omega (arith, a.five);
          size = same ∙ a.size;
          whole = λ marks' answer g. a.whole marks' answer (child-scanned r rows marks group left ne marks₁ child answer marks' g);
        }

    pub ahead-empty : {empty : Bool} → empty ≡ empty_at rows.nodes (child_node group (left - 1)) → empty ≡ true
        → Ahead r rows group marks₀ marks (left - 1)
    ahead-empty told taken =
        let child = child_node group (left - 1) in
        found marks (empty-found (region_below r (left - 1)) rows marks child a.ready (sym told ∙ taken)) refl

    module _ {below : Region} (is : below ≡ region_below r (left - 1)) (marks₁ : List ℕ) (answer : Bool)
        (s : TreeScanned below rows marks (child_node group (left - 1)) marks₁ answer) where
      pub ahead-next : answer ≡ true → length marks₁ ≡ length marks → Ahead r rows group marks₀ marks₁ (left - 1)
      ahead-next n same = found marks₁ (tree_yes is rows marks marks₁ (child_node group (left - 1)) answer s n) same

      pub ahead_bad : answer ≡ false → GroupScanned r rows marks₀ group 5 marks₁ false
      ahead_bad n =
          a.whole marks₁ false
          (child_bad r rows marks group left ne marks₁ (tree-no is rows marks marks₁ (child_node group (left - 1)) answer s n))

  pub ahead_end : left ≤ 0 → GroupScanned r rows marks₀ group 5 marks true
  ahead_end b = a.whole marks true (no-children r rows marks group left a.ready.mark_ready (omega arith))
