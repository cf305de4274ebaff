-- The answer of a patch, by its rule.
--     some-starts  it can be laid: none of its dots is laid yet
--     laid-whole   all of them are laid
--     refused-14, refused-16       it cannot be laid; its dots cannot be counted
use Rattle.std.specs.Prelude.{◌≡◌, refl, Bool, true, false, not, ℕ, ◌+◌, ◌*◌, ℤ}
use Rattle.std.proofs.Math.Path.{ap, sym}
use Rattle.std.proofs.Common.{◌∙◌, arith}
use Rattle.std.proofs.Math.Logic.{⊎_elim}
use mathlib.Core.List.{List, []}
use Rattle.std.proofs.Math.ListN.{length}
use borrow.Author.Tests.{leb-true, not-true, not-false}
use Rattle.arithmetic.proofs.Laws.Tests.{true_false}
use Rattle.geometry.specs.declared.aabb.AABB.{AABB}
use Rattle.model.specs.declared.State.{State}
use Rattle.model.specs.declared.patch.Patch.{Patch}
use Rattle.model.specs.Shapes.{Shape}
use Rattle.model.specs.Layout.{world, layout, cleared, Holds}
use Rattle.model.specs.declared.refusal.Refusal.TheVariants.{TooManyChanges}
use Rattle.model.specs.Calls.{refused, answered, accept, exit, carried_out, largest_count, counted, can_count}
use Rattle.model.specs.Laying.{laid}
use Rattle.model.specs.Patch.{patch_fits, patch_rects, numbered, patch_dots, patch_verdict, patch_rule}
use Rattle.model.proofs.Laws.Layout.{holds-changes}
use Rattle.model.proofs.Laws.Calls.{counted_low, counted_past}
use Rattle.model.proofs.Laws.Laying.{laid-changes}
use Rattle.model.proofs.Laws.Patch.{patch-goes, patch_cases, numbered-length}
use Rattle.memory.specs.Lent.{holding}
use Rattle.tree.specs.Operations.{IsTree, CarriedOut}
use Rattle.tree.proofs.Laws.Operations.{refusal-exit}
use Rattle.model.specs.declared.answers.Changed.{Changed}
use Rattle.tree_patch.specs.Laid.{rects_before, none_laid, Progress, SomeProgress, Proceeds}
use Rattle.tree_patch.specs.Goes.{GoesTold}
use Rattle.tree_patch.proofs.Laws.Order.{before_end}

module _ {s : State} {p : Patch} {nodes dots : List ℕ} {rects : List ℤ} {goes : Bool} (told : GoesTold s p (holding nodes dots rects) goes) where
  pub refused-14 : not goes ≡ true → CarriedOut (patch_rule p) s (holding nodes dots rects) s (holding nodes dots rects) (refused 14)
  unfolding cleared patch_rule
  refused-14 n marks x h =
      ⊎_elim
      (λ e. ap (carried_out (world s nodes dots rects marks) []) (sym (ap counted e)))
      (λ g. true_false (sym ((told.exactly marks x h).1 g) ∙ not-true goes n))
      (patch_cases p x h.valid)

  module _ (n : not goes ≡ false) {number : ℕ} (many : number ≡ length (patch_dots p)) {counts : Bool} (count : counts ≡ can_count s number) where
    -- the rule, but for 16
    goes-whole : (marks : List ℕ) (x : Shape) → Holds (world s nodes dots rects marks) x
        → patch_verdict p x ≡ accept (laid (patch_dots p) x) [] (length (patch_dots p))
    goes-whole marks x h = (patch-goes p x h.valid ((told.exactly marks x h).0 (not-false goes n))).0

    more : (marks : List ℕ) (x : Shape) → Holds (world s nodes dots rects marks) x → (laid (patch_dots p) x).changes ≡ s.changes + number
    more marks x h = omega (arith, laid-changes (patch_dots p) x, holds-changes (world s nodes dots rects marks) x h, many)

    pub refused-16 : not counts ≡ true → CarriedOut (patch_rule p) s (holding nodes dots rects) s (holding nodes dots rects) (refused 16)
    unfolding patch_rule
    refused-16 past marks x h =
        let ds = patch_dots p in
        refusal-exit s nodes dots rects marks (patch_rule p x) TooManyChanges
        (ap counted (goes-whole marks x h) ∙ counted_past (laid ds x) [] (length ds) s number count (more marks x h) (not-true counts past))

  module _ (fits : patch_fits p ≡ true) (n : not goes ≡ false) {number : ℕ} (many : number ≡ length (patch_dots p)) {counts : Bool}
      (count : counts ≡ can_count s number) (few : not counts ≡ false) where
    starts : (marks : List ℕ) (x : Shape) → Holds (world s nodes dots rects marks) x → Progress p 0 0 (none_laid s) (holding nodes dots rects) marks x
    unfolding rects_before can_count
    starts marks x h =
        let room = leb-true (s.changes + number) largest_count (sym count ∙ not-false counts few) in
        record {
          fits = fits;
          valid = h.valid;
          goes = (told.exactly marks x h).0 (not-false goes n);
          counts = omega (arith, room, many, holds-changes (world s nodes dots rects marks) x h);
          holds = h;
          number = refl;
        }

    pub some-starts : IsTree s (holding nodes dots rects) → SomeProgress p 0 0 (none_laid s) (holding nodes dots rects)
    some-starts t = record { marks = t.marks; shape = t.shape; progress = starts t.marks t.shape t.holds }

    pub laid-whole : (l : Changed) (nodes' dots' : List ℕ) (rects' : List ℤ)
        → Proceeds p 0 0 (none_laid s) (holding nodes dots rects) 0 (16 * p.rows) l (holding nodes' dots' rects')
        → CarriedOut (patch_rule p) s (holding nodes dots rects) l.state (holding nodes' dots' rects') (answered l.number)
    unfolding cleared patch_dots patch_rule
    laid-whole l nodes' dots' rects' done marks x h =
        let start = starts marks x h in
        let end = done.on marks x start in
        let all = before_end p in
        let whole : layout (laid (numbered p.first_id (rects_before p 0 (16 * p.rows))) x) ≡ layout (laid (patch_dots p) x) =
        ap (λ (rs : List AABB). layout (laid (numbered p.first_id rs) x)) all in
        let laid-all : l.number ≡ length (patch_dots p) = end.number ∙ ap length all ∙ sym (numbered-length p.first_id (patch_rects p)) in
        (λ i. exit ((end.holds.words ∙ whole) i) [] (answered (laid-all i)))
        ∙ ap (carried_out (world s nodes dots rects marks) [])
        (sym (ap counted (patch-goes p x h.valid start.goes).0
        ∙ counted_low (laid (patch_dots p) x) [] (length (patch_dots p)) (omega (arith, laid-changes (patch_dots p) x, start.counts))))
