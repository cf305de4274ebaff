-- What every call does once the check has answered.
--     checked-shared       the check of rows that are lent on for reading
--     checked-few          a check is refused 1 to 3
--     found-tree           a check that says 0 has found a tree
--     checked-tree         a check that is not refused has found a tree
--     call-refused         a refusal is handed back, and nothing else is changed
--     call_carried         else the operation without the check makes the exit
use Rattle.std.specs.Prelude.{◌≡◌, List, true, ℕ, ℤ, length, replicate, Result, Ok, Err}
use Rattle.std.proofs.Common.{ap, ◌∙◌, ⊎_elim, arith}
use Rattle.arithmetic.proofs.Laws.Tests.{by_bool}
use Rattle.geometry.specs.Settings.{in_range}
use Rattle.model.specs.declared.State.{State}
use Rattle.model.specs.Shapes.{Shape}
use Rattle.model.specs.Layout.{world, lengths_right, Holds}
use Rattle.model.specs.declared.refusal.Refusal.{Refusal}
use Rattle.model.specs.Calls.{Reply, Verdict, exit, carried_out, Obeys}
use Rattle.model.specs.Refusals.{number_of, refusal_reply, refusal_number}
use Rattle.model.proofs.Laws.Refusals.{number-positive, reply-plain}
use Rattle.memory.specs.Lent.{Held, holding, world_of}
use Rattle.tree_check.specs.Checks.{Checked}
use Rattle.tree_check.proofs.Laws.Calls.{checked-obeys}
use Rattle.tree.specs.Operations.{IsTree}

pub checked-shared : {s : State} {nodes dots nodes' dots' : List ℕ} {rects rects' : List ℤ} {marks marks' : List ℕ} {k : ℕ}
    → (nodes ≡ nodes') × (dots ≡ dots') × (rects ≡ rects')
    → Checked s (holding nodes dots rects) marks marks' k → Checked s (holding nodes' dots' rects') marks marks' k
checked-shared same c = rw (← same.0, ← same.1, ← same.2) c

checked-few : {s : State} {h : Held} {marks marks' : List ℕ} {k : ℕ} → Checked s h marks marks' k → ¬ (k ≡ 8)
checked-few {s} {h} {marks} c eight =
    let w = world_of s h marks in
    by_bool (lengths_right w)
    (λ l.
    by_bool (in_range s.settings) (λ i. ⊎_elim (λ p. absurd (omega (arith, p.0, eight))) (λ p. absurd (omega (arith, p.0, eight))) (c.checked l i).1)
    (λ i. absurd (omega (arith, (c.bad_settings l i).0, eight))))
    (λ l. absurd (omega (arith, (c.bad_length l).0, eight)))

pub found-tree : {s : State} {h : Held} {marks marks' : List ℕ} → Checked s h marks marks' 0 → IsTree s h
found-tree {s} {h} {marks} found =
    let w = world_of s h marks in
    by_bool (lengths_right w)
    (λ l.
    by_bool (in_range s.settings)
    (λ i.
    ⊎_elim (λ p. record { marks = marks; shape = p.1.0; holds = p.1.1 }) (λ p. absurd (omega (arith, p.0))) (found.checked l i).1)
    (λ i. absurd (omega (arith, (found.bad_settings l i).0))))
    (λ l. absurd (omega (arith, (found.bad_length l).0)))

module _ {s : State} {nodes dots : List ℕ} {rects : List ℤ} {marks marks' : List ℕ} {checked : Result (Unit {0}) Refusal}
    (c : Checked s (holding nodes dots rects) marks marks' (refusal_number checked)) where
  pub checked-tree : {u : Unit {0}} → checked ≡ Ok u → IsTree s (holding nodes dots rects)
  checked-tree is = let found : Checked s (holding nodes dots rects) marks marks' 0 = rw is at c in found-tree found

  module _ {B A : Type 0} (rule : Shape → Verdict B A) (row : List B) where
    pub call-refused : {e : Refusal} → checked ≡ Err e
        → Obeys true rule (world s nodes dots rects marks) row (exit (world s nodes dots rects marks') row (refusal_reply e))
    call-refused {e} is =
        let found : Checked s (holding nodes dots rects) marks marks' (number_of e) = rw is at c in
        let plain = ap (exit (world s nodes dots rects marks') row) (reply-plain A e (checked-few found)) in
        checked-obeys s nodes dots rects marks marks' (number_of e) found rule row _ (λ h. plain)
        (λ z m x h. absurd (omega (arith, z, number-positive e)))

    pub call_carried : {u : Unit {0}} → checked ≡ Ok u → {s' : State} {nodes' dots' : List ℕ} {rects' : List ℤ} {row' : List B} {reply : Reply A}
        → ((m : List ℕ) (x : Shape) → Holds (world s nodes dots rects m) x
        → exit (world s' nodes' dots' rects' (replicate (length m) 0)) row' reply ≡ carried_out (world s nodes dots rects m) row (rule x))
        → Obeys true rule (world s nodes dots rects marks) row (exit (world s' nodes' dots' rects' marks') row' reply)
    call_carried is {s'} {nodes'} {dots'} {rects'} {row'} {reply} done =
        let found : Checked s (holding nodes dots rects) marks marks' 0 = rw is at c in
        checked-obeys s nodes dots rects marks marks' 0 found rule row _ (λ h. absurd (omega arith))
        (λ q m x h. (λ i. exit (world s' nodes' dots' rects' (m i)) row' reply) ∙ done marks x h)
