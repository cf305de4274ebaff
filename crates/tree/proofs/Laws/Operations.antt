-- The exit of an operation, and what it knows of its tree.
--     refused-exit, refusal-exit, shaped-exit    a refusal keeps the words, by its number or its name; an answer's words hold the rule's shape
--     same-marks   the marks don't matter
--     tree-settings        the settings of a tree are in range
use Rattle.std.specs.Prelude.{◌≡◌, true, ℕ, ℤ, length}
use Rattle.std.proofs.Math.Path.{ap}
use Rattle.std.proofs.Common.{sym, ◌∙◌}
use mathlib.Core.List.{List, []}
use Rattle.std.proofs.Math.ListN.{replicate}
use Rattle.std.proofs.lemmas.List.{length-replicate}
use Rattle.geometry.specs.Settings.{in_range}
use Rattle.model.specs.declared.State.{State}
use Rattle.model.specs.declared.refusal.Refusal.{Refusal}
use Rattle.model.specs.Shapes.{Shape}
use Rattle.model.specs.Layout.{World, world, cleared, layout, Holds}
use Rattle.model.specs.Calls.{refused, answered, Verdict, refuse, accept, exit, carried_out}
use Rattle.model.specs.Refusals.{refuses, refusal_reply}
use Rattle.model.proofs.Laws.Refusals.{refused-keeps}
use Rattle.model.proofs.Laws.Layout.{cleared-holds, holds-settings}
use Rattle.memory.specs.Lent.{Held, world_of}
use Rattle.tree.specs.Operations.{IsTree}

module _ {A : Type 0} (s : State) (nodes dots : List ℕ) (rects : List ℤ) (marks : List ℕ) (verdict : Verdict ℕ A) where
  -- a refusal: the words are as they were
  pub refused-exit : (k : ℕ) → verdict ≡ refuse k
      → exit (world s nodes dots rects (replicate (length marks) 0)) [] (refused k) ≡ carried_out (world s nodes dots rects marks) [] verdict
  unfolding cleared
  refused-exit k e = rw e

  pub refusal-exit : (e : Refusal) → verdict ≡ refuses e
      → exit (world s nodes dots rects (replicate (length marks) 0)) [] (refusal_reply e) ≡ carried_out (world s nodes dots rects marks) [] verdict
  unfolding cleared
  refusal-exit e p = rw p (sym (refused-keeps (world s nodes dots rects marks) [] e))

  -- an answer: the words hold the shape that the rule says
  pub shaped-exit : (s' : State) (nodes' dots' : List ℕ) (rects' : List ℤ) (x : Shape) (a : A)
      → Holds (world s' nodes' dots' rects' (replicate (length marks) 0)) x → verdict ≡ accept x [] a
      → exit (world s' nodes' dots' rects' (replicate (length marks) 0)) [] (answered a) ≡ carried_out (world s nodes dots rects marks) [] verdict
  unfolding cleared
  shaped-exit s' nodes' dots' rects' x a h e =
      let zeros = ap (λ (n : ℕ). replicate {A = ℕ} n 0) (length-replicate {A = ℕ} (length marks) 0) in
      let words : world s' nodes' dots' rects' (replicate (length marks) 0) ≡ layout x =
      (λ i. world s' nodes' dots' rects' (sym zeros i)) ∙ h.words in
      rw e (ap (λ (w : World). exit w [] (answered a)) words)

-- the marks don't matter
pub same-marks : (s : State) (nodes dots : List ℕ) (rects : List ℤ) (marks : List ℕ) (x : Shape) → Holds (world s nodes dots rects marks) x
    → Holds (world s nodes dots rects (replicate (length marks) 0)) x
unfolding cleared
same-marks s nodes dots rects marks x h = cleared-holds (world s nodes dots rects marks) x h

pub tree-settings : {s : State} {h : Held} → IsTree s h → in_range s.settings ≡ true
tree-settings {s} {h} t = ap in_range (holds-settings (world_of s h t.marks) t.shape t.holds) ∙ t.holds.valid.settings_fit
