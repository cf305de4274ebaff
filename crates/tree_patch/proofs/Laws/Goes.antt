-- The tests of whether a patch can be laid, together.
--     no-places, off_the_film      a test that it does not pass
--     none_off_the_film    it passes the last of these: insert accepts every rectangle
--     groups-told  it passes them all: the free groups decide
use Rattle.std.specs.Prelude.{◌≡◌, Bool, true, false, not, ℕ, suc, ◌+◌, ◌≤◌, ◌<◌, ℤ, length, leb}
use Rattle.std.proofs.Common.{ap, ◌∙◌, arith}
use Rattle.std.proofs.Math.Path.{sym, subst}
use mathlib.Core.List.{List, [], ◌∷◌}
use borrow.Author.Tests.{leb-true, le-leb, not-false}
use Rattle.arithmetic.proofs.Laws.Linear.{and_t}
use Rattle.arithmetic.proofs.Laws.Tests.{true_false}
use Rattle.geometry.specs.declared.aabb.AABB.{AABB}
use Rattle.geometry.specs.declared.bounds.Bounds.{Bounds}
use Rattle.geometry.specs.declared.settings.Settings.{Settings}
use Rattle.geometry.specs.Bounds.{in_bounds}
use Rattle.geometry.specs.Settings.{in_range, acceptable}
use Rattle.model.specs.declared.State.{State}
use Rattle.model.specs.declared.patch.Patch.{Patch}
use Rattle.model.specs.Lists.{All}
use Rattle.model.specs.Dots.{good_ink, acceptable_dot}
use Rattle.model.specs.Trees.{size}
use Rattle.model.specs.Shapes.{Shape}
use Rattle.model.specs.Layout.{world, places_in, Holds}
use Rattle.model.specs.Patch.{patch_rects, numbered, patch_dots, ids_fit, PatchGoes}
use Rattle.model.proofs.Laws.Layout.{holds-settings}
use Rattle.model.proofs.Laws.Memory.{holds-represented}
use Rattle.model.proofs.Laws.Patch.{numbered-length}
use Rattle.memory.specs.Lent.{holding}
use Rattle.tree_insert.specs.FreeGroups.{FreeIn}
use Rattle.tint.specs.Counts.{within_bounds, unit_bounds}
use Rattle.tint.proofs.Laws.Filters.{filter-few}
use Rattle.tint.proofs.Laws.Units.{all-within, within_all}
use Rattle.tree_patch.specs.Counts.{AllAcceptable, PatchCounted}
use Rattle.tree_patch.specs.Goes.{GoesTold}
use Rattle.tree_insert.proofs.Laws.FreeGroups.{free-listed}

-- ---- the dots are acceptable exactly if their rectangles are

module _ (s : Settings) where
  rects-dots : (id : ℕ) (rects : List AABB) → All (λ r. acceptable s r ≡ true) rects → All (λ d. acceptable_dot s d ≡ true) (numbered id rects)
  unfolding acceptable_dot good_ink
  rects-dots id [] a = tt
  rects-dots id (r ∷ rects) a = (rw a.0 (le-leb 0 15 (omega arith)), rects-dots (suc id) rects a.1)

  dots-rects : (id : ℕ) (rects : List AABB) → All (λ d. acceptable_dot s d ≡ true) (numbered id rects) → All (λ r. acceptable s r ≡ true) rects
  unfolding acceptable_dot
  dots-rects id [] a = tt
  dots-rects id (r ∷ rects) a =
      ((and_t (acceptable s r) (good_ink (record { id = id; rect = r; ink = 0 })) a.0).0, dots-rects (suc id) rects a.1)

-- the rectangles of a patch are as many as its dots
rects-many : (p : Patch) {number : ℕ} → number ≡ length (patch_dots p) → number ≡ length (patch_rects p)
unfolding patch_dots
rects-many p many = many ∙ numbered-length p.first_id (patch_rects p)

-- those that insert accepts
in_bounds_lem : (s : Settings) (p : Patch) {b : Bounds} {within : ℕ} → b ≡ unit_bounds s → within ≡ length (within_bounds b (patch_rects p))
    → within ≡ length (within_bounds (unit_bounds s) (patch_rects p))
in_bounds_lem s p bounds counted = counted ∙ ap (λ (c : Bounds). length (within_bounds c (patch_rects p))) bounds

-- the live dots, and N
counts : {s : State} {nodes dots : List ℕ} {rects : List ℤ} {marks : List ℕ} {x : Shape} → Holds (world s nodes dots rects marks) x
    → (s.live ≡ size x.tree) × (places_in (length dots) ≡ x.places)
counts {s} {nodes} {dots} {rects} {marks} {x} h =
    let rep = holds-represented (world s nodes dots rects marks) x h in (rep.live, omega (arith, rep.dots))

pub none_off_the_film : (s : Settings) (p : Patch) {number : ℕ} → number ≡ length (patch_dots p) → in_range s ≡ true → {b : Bounds} → b ≡ unit_bounds s
    → {within : ℕ} → within ≡ length (within_bounds b (patch_rects p)) → number ≤ within → AllAcceptable s p
none_off_the_film s p many settings bounds counted whole =
    let few = filter-few (in_bounds (unit_bounds s)) (patch_rects p) in
    record { each = within_all s settings p (omega (arith, rects-many p many, in_bounds_lem s p bounds counted, whole, few)) }

module _ (s : State) (p : Patch) {nodes dots : List ℕ} {rects : List ℤ} where
  -- a test that every patch passes that can be laid
  fails : ((marks : List ℕ) (x : Shape) → Holds (world s nodes dots rects marks) x → PatchGoes p x → ⊥) → GoesTold s p (holding nodes dots rects) false
  fails never = record { exactly = λ marks x h. ((λ e. true_false (sym e)), λ g. absurd (never marks x h g)) }

  module _ {number : ℕ} (many : number ≡ length (patch_dots p)) where
    pub no-places : {places : ℕ} → places ≡ places_in (length dots) → places < s.live + number → GoesTold s p (holding nodes dots rects) false
    no-places is few = fails (λ marks x h g. omega (arith, many, is, few, counts h, g.can.places_enough))

    module _ (settings : in_range s.settings ≡ true) {b : Bounds} (bounds : b ≡ unit_bounds s.settings) {within : ℕ}
        (counted : within ≡ length (within_bounds b (patch_rects p))) where
      pub off_the_film : within < number → GoesTold s p (holding nodes dots rects) false
      unfolding patch_dots
      off_the_film few = fails (λ marks x h g.
          let same = holds-settings (world s nodes dots rects marks) x h in
          let ok = dots-rects x.settings p.first_id (patch_rects p) g.can.acceptable_dots in
          let mine = subst (λ (t : Settings). All (λ r. acceptable t r ≡ true) (patch_rects p)) (sym same) ok in
          omega (arith, few, rects-many p many, in_bounds_lem s.settings p bounds counted, all-within s.settings settings p mine))

    pub groups-told : {fit : Bool} → fit ≡ ids_fit (patch_dots p) → not fit ≡ false → s.live + number ≤ places_in (length dots)
        → AllAcceptable s.settings p → (splits : ℕ) → PatchCounted s (holding nodes dots rects) p splits
        → {goes : Bool} → ((free : List ℕ) → FreeIn nodes s.free_group free → goes ≡ leb splits (length free))
        → GoesTold s p (holding nodes dots rects) goes
    unfolding patch_dots PatchCounted
    groups-told {fit} test n room acceptable-all splits counts-splits {goes} free =
        record {
          exactly = λ marks x h.
              let same = holds-settings (world s nodes dots rects marks) x h in
              let ok = (subst (λ (t : Settings). AllAcceptable t p) same acceptable-all).each in
              let told = free x.free_groups (free-listed s nodes dots rects marks x h) in
              let made = counts-splits marks x h in (
                (λ e. record {
                  ids = sym test ∙ not-false fit n;
                  can = record {
                    acceptable_dots = rects-dots x.settings p.first_id (patch_rects p) ok;
                    places_enough = omega (arith, many, room, counts h);
                    groups_enough = omega (arith, made, leb-true splits (length x.free_groups) (sym told ∙ e));
                  };
                }),
                λ g. told ∙ le-leb splits (length x.free_groups) (omega (arith, made, g.can.groups_enough)),
              );
        }
