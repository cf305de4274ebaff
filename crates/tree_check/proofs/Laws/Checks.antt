-- The whole check, from the answers of its parts; each way by what the code reads.
--     no-live, no-tree, no-groups, no-places, told     the five ways through the walk of the whole
--     Freed, groups-found      the tree and the free groups were found
--     free-ready, places-ready     what its later parts are given
--     check_ready      what the walk is given, once the lengths and the settings are right and the marks are cleared
--     by_length, by-settings, by_tree, by_no-tree      the four ways through the check
use Rattle.std.specs.Prelude.{◌≡◌, refl, List, map, Bool, ℕ, ◌-◌, ◌≤◌, ◌<◌, length, get_or, replicate}
use Rattle.std.proofs.Common.{ap, ◌∙◌, subst, arith}
use Rattle.std.proofs.Math.Path.{sym}
use Rattle.std.proofs.Math.Logic.{inl, inr}
use Rattle.std.proofs.Math.Bool.{true, false}
use Rattle.std.proofs.lemmas.List.{length-replicate}
use Rattle.arithmetic.proofs.Laws.Tests.{true_false}
use Rattle.geometry.specs.Settings.{in_range}
use Rattle.model.specs.declared.State.{State}
use Rattle.model.specs.Layout.{blank, lengths_right, cleared}
use Rattle.memory.specs.Lengths.{lengths_fit}
use Rattle.memory.specs.Lent.{Held, places_held, groups_held, world_of}
use Rattle.memory.proofs.Laws.Lengths.{lengths-same, lengths-stated}
use Rattle.tree_check.specs.declared.region.Region.{Region}
use Rattle.tree_check.specs.Regions.{root_region, is_blank}
use Rattle.tree_check.specs.Marks.{AllMarked, WalkReady}
use Rattle.tree_check.specs.Chains.{ChainScanned}
use Rattle.tree_check.specs.Frees.{FreeFound, FreeScanned}
use Rattle.tree_check.specs.Trees.{TreeFound, TreeScanned}
use Rattle.tree_check.specs.Checks.{CheckReady, Decided, Checked}
use Rattle.tree_check.proofs.Laws.Marks.{zero-at}
use Rattle.tree_check.proofs.Laws.Trees.{ready_again, tree_yes, tree-no}
use Rattle.tree_check.proofs.Laws.Shapes.{found-holds, live-fits, tree-good, groups-good, places-good, all_one}

-- ---- the walk of the whole: the tree, then the free groups

-- both were found, and marked
pub record Freed (s : State) (rows : Held) (marks marks₂ : List ℕ) : Type 0 where
  pub ready : CheckReady s rows marks
  pub marks₁ : List ℕ
  pub tree : TreeFound (root_region s.settings) rows marks 0 marks₁
  pub free : FreeFound rows marks₁ s.free_group marks₂

module _ {s : State} {rows : Held} {marks : List ℕ} (ready : CheckReady s rows marks) where
  pub no-live : places_held rows < s.live → Decided (world_of s rows marks) false
  unfolding Decided
  no-live b x h = live-fits ready x h b

  module _ {root : Region} (is : root ≡ root_region s.settings) (marks₁ : List ℕ) (tree : Bool) (t : TreeScanned root rows marks 0 marks₁ tree) where
    pub no-tree : tree ≡ false → Decided (world_of s rows marks) false
    unfolding Decided TreeScanned
    no-tree n x h = tree-no is rows marks marks₁ 0 tree t n x.tree (tree-good ready x h)

    module _ (n : tree ≡ true) where
      found : TreeFound (root_region s.settings) rows marks 0 marks₁
      found = tree_yes is rows marks marks₁ 0 tree t n

      pub free-ready : WalkReady rows marks₁
      free-ready = ready_again ready.ready found.ready

      module _ (marks₂ : List ℕ) (free : Bool) (g : FreeScanned rows marks₁ s.free_group marks₂ free) where
        free-at : {answer : Bool} → free ≡ answer → FreeScanned rows marks₁ s.free_group marks₂ answer
        free-at e = subst (λ (b : Bool). FreeScanned rows marks₁ s.free_group marks₂ b) e g

        pub no-groups : free ≡ false → Decided (world_of s rows marks) false
        unfolding Decided FreeScanned
        no-groups e x h = free-at e x.free_groups (groups-good ready x h found)

        pub groups-found : free ≡ true → Freed s rows marks marks₂
        unfolding FreeScanned
        groups-found e = record { ready = ready; marks₁ = marks₁; tree = found; free = free-at e }

-- ---- then the free places, and the marks of all of them

module _ {s : State} {rows : Held} {marks marks₂ : List ℕ} (f : Freed s rows marks marks₂) where
  pub places-ready : WalkReady rows marks₂
  places-ready = ready_again f.ready.ready f.free.ready

  module _ {left : ℕ} (is : left ≡ places_held rows - s.live) (marks₃ : List ℕ) (chain : Bool)
      (p : ChainScanned is_blank rows marks₂ s.free_place left marks₃ chain) where
    chain-at : {answer : Bool} → chain ≡ answer → ChainScanned is_blank rows marks₂ s.free_place (places_held rows - s.live) marks₃ answer
    chain-at {answer} e =
        subst (λ (n : ℕ). ChainScanned is_blank rows marks₂ s.free_place n marks₃ answer) is
        (subst (λ (b : Bool). ChainScanned is_blank rows marks₂ s.free_place left marks₃ b) e p)

    pub no-places : chain ≡ false → Decided (world_of s rows marks) false
    unfolding Decided ChainScanned
    no-places n x h = chain-at n (map blank x.free_places) (places-good f.ready x h f.tree f.free)

    pub told : chain ≡ true → s.live ≤ places_held rows → length marks₃ ≡ length marks₂ → (answer : Bool) → AllMarked marks₃ answer
        → Decided (world_of s rows marks) answer
    unfolding Decided AllMarked ChainScanned
    told n live size true all = found-holds f.ready live f.tree f.free (chain-at n) (λ j b. all j (omega (arith, size, f.free.ready.room)))
    told n live size false all = λ x h. all.2 (all_one f.ready x h f.tree f.free (chain-at n) all.0 (omega (arith, all.1, size, f.free.ready.room)))

-- the marks do not matter, but for their number
told-marks : (s : State) (h : Held) (marks marks' : List ℕ) → length marks ≡ length marks' → (answer : Bool)
    → Decided (world_of s h marks) answer → Decided (world_of s h marks') answer
unfolding Decided cleared
told-marks s h marks marks' e true t =
    (t.0, record { valid = t.1.valid; words = (λ i. world_of s h (replicate {A = ℕ} (sym e i) 0)) ∙ t.1.words })
told-marks s h marks marks' e false t =
    λ x y. t x (record { valid = y.valid; words = (λ i. world_of s h (replicate {A = ℕ} (e i) 0)) ∙ y.words })

-- ---- the check

module _ (s : State) (h : Held) (marks : List ℕ) {fit : Bool}
    (lengths : fit ≡ lengths_fit (length h.nodes) (length h.dots) (length h.rects) (length marks)) where
  right : {b : Bool} → fit ≡ b → lengths_right (world_of s h marks) ≡ b
  right e = sym (lengths-same s h.nodes h.dots h.rects marks) ∙ sym lengths ∙ e

  pub by_length : fit ≡ false → Checked s h marks marks 1
  by_length n =
      let e = right n in
      record { bad_length = λ _. (refl, refl); bad_settings = λ l _. true_false (sym l ∙ e); checked = λ l _. true_false (sym l ∙ e) }

  module _ (n : fit ≡ true) {good : Bool} (settings : good ≡ in_range s.settings) where
    l : lengths_right (world_of s h marks) ≡ true
    l = right n

    pub by-settings : good ≡ false → Checked s h marks marks 2
    by-settings g =
        let e = sym settings ∙ g in
        record { bad_length = λ k. true_false (sym l ∙ k); bad_settings = λ _ _. (refl, refl); checked = λ _ k. true_false (sym k ∙ e) }

    module _ (g : good ≡ true) {marks₁ : List ℕ} (zeros : marks₁ ≡ replicate (length marks) 0) where
      pub check_ready : CheckReady s h marks₁
      unfolding places_held groups_held
      check_ready =
          let stated = lengths-stated _ _ _ _ (sym lengths ∙ n) in
          let z : (j : ℕ) → get_or marks₁ j 0 ≡ 0 = λ j. ap (λ (y : List ℕ). get_or y j 0) zeros ∙ zero-at (length marks) j in
          record {
            ready = record {
              node_room = stated.nodes_length;
              dot_room = stated.dots_length;
              rect_room = stated.rects_length;
              mark_ready = record { room = ap length zeros ∙ length-replicate {A = ℕ} (length marks) 0 ∙ stated.marks_length; bits = λ j. omega (arith, z j) };
              places_fit = stated.places_fit;
              groups_fit = stated.groups_fit;
            };
            zeros = z;
            accepted = sym settings ∙ g;
          }

      module _ (tree : Bool) (marks₂ : List ℕ) {marks' : List ℕ} (t : Decided (world_of s h marks₁) tree) (same₁ : length marks₁ ≡ length marks)
          (same₂ : length marks₂ ≡ length marks₁) (m : marks' ≡ replicate (length marks₂) 0) where
        known : {answer : Bool} → tree ≡ answer → Decided (world_of s h marks) answer
        known {answer} e = told-marks s h marks₁ marks same₁ answer (subst (Decided (world_of s h marks₁)) e t)

        cleared-are : marks' ≡ replicate (length marks) 0
        cleared-are = m ∙ ap (λ (n : ℕ). replicate {A = ℕ} n 0) (same₂ ∙ same₁)

        accepted-is : in_range s.settings ≡ true
        accepted-is = sym settings ∙ g

        pub by_tree : tree ≡ true → Checked s h marks marks' 0
        unfolding Decided
        by_tree e =
            record {
              bad_length = λ k. true_false (sym l ∙ k);
              bad_settings = λ _ k. true_false (sym accepted-is ∙ k);
              checked = λ _ _. (cleared-are, inl (refl, known e));
            }

        pub by_no-tree : tree ≡ false → Checked s h marks marks' 3
        unfolding Decided
        by_no-tree e =
            record {
              bad_length = λ k. true_false (sym l ∙ k);
              bad_settings = λ _ k. true_false (sym accepted-is ∙ k);
              checked = λ _ _. (cleared-are, inr (refl, known e));
            }
