-- A patch that the check refuses.
--     patch-refused        a refusal of the check
use Rattle.std.specs.Prelude.{◌≡◌, List, [], Bool, true, false, not, ℕ, ℤ, Result, Err}
use Rattle.std.proofs.Common.{sym, ◌∙◌}
use Rattle.std.proofs.lemmas.Bool.{not-false}
use Rattle.arithmetic.proofs.Laws.Tests.{true_false}
use Rattle.model.specs.declared.State.{State}
use Rattle.model.specs.declared.patch.Patch.{Patch}
use Rattle.model.specs.Layout.{World, world}
use Rattle.model.specs.declared.refusal.Refusal.{Refusal}
use Rattle.model.specs.Refusals.{refusal_reply, refusal_number}
use Rattle.model.specs.Calls.{Reply, exit, Obeys}
use Rattle.model.specs.Patch.{patch_fits, patch_rule, LayPatch}
use Rattle.memory.specs.Lent.{holding}
use Rattle.tree_check.specs.Checks.{Checked}
use Rattle.calls.proofs.Laws.Pattern.{call-refused}

module _ (p : Patch) {b : Bool} (test : b ≡ patch_fits p) (n : not b ≡ false) where
  pub patch-fits : patch_fits p ≡ true
  patch-fits = sym test ∙ not-false b n

  good : {w w' : World} {reply : Reply ℕ} → Obeys true (patch_rule p) w [] (exit w' [] reply) → LayPatch w p w' reply
  good o = record { bad_patch = λ e. true_false (sym patch-fits ∙ e); good_patch = λ _. o }

  module _ {s : State} {nodes dots : List ℕ} {rects : List ℤ} {marks marks' : List ℕ} {checked : Result (Unit {0}) Refusal}
      (c : Checked s (holding nodes dots rects) marks marks' (refusal_number checked)) where
    pub patch-refused : {e : Refusal} → checked ≡ Err e → LayPatch (world s nodes dots rects marks) p (world s nodes dots rects marks') (refusal_reply e)
    patch-refused ne = good (call-refused c (patch_rule p) [] ne)
