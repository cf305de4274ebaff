-- The whole batch, from the check and the run of all records.
--     batch-tree, batch-room       what the run asks
--     batch-refused        a refusal of the whole batch: nothing was done
--     batch-done           THE CONTRACT: after the last record
--     count_done           how many records are carried out: all, or none where the batch is refused
use Rattle.std.specs.Prelude.{◌≡◌, refl, List, ◌++◌, Bool, true, false, ◌&&◌, ℕ, ◌≤◌, ℤ, eqb, length, drop, Result, Ok, Err, IfOk}
use Rattle.std.proofs.Common.{ap, sym, subst, ◌∙◌, arith, eq-eqb, eqb-true, ne_eqb}
use Rattle.arithmetic.proofs.Laws.Tests.{by_bool, true_false}
use Rattle.model.specs.declared.Record.{Record}
use Rattle.model.specs.declared.State.{State}
use Rattle.model.specs.declared.refusal.Refusal.{Refusal}
use Rattle.model.specs.Layout.{world, cleared, lengths_right}
use Rattle.model.specs.Calls.{refused, answered, exit, Obeys, Batch, batch_rule, batch_words}
use Rattle.model.specs.Refusals.{number_of, refusal_reply, refusal_number}
use Rattle.model.proofs.Laws.Refusals.{number-positive, reply-plain}
use Rattle.model.proofs.Laws.Batches.{batch-words}
use Rattle.memory.specs.Lent.{holding}
use Rattle.tree.specs.Operations.{IsTree}
use Rattle.calls.proofs.Laws.Pattern.{checked-tree, call-refused, call_carried}
use Rattle.batch_step.specs.Steps.{Begun}
use Rattle.batch_step.specs.Runs.{AllCarriedOut}
use Rattle.batch.specs.declared.Batched.{Batched}
use Rattle.batch.specs.Answers.{carried_out as carried_out_records, carried_out_by}

no-two : (b : Bool) → b && false ≡ true → ⊥
no-two true e = true_false (sym e)
no-two false e = true_false (sym e)

pub count_done : (rs : List Record) (r : Result Batched Refusal) → IfOk r (λ b. b.count ≡ length rs)
    → carried_out_records r ≡ carried_out_by rs (refusal_number r)
count_done rs (Ok b) all = all
count_done rs (Err e) all = sym (rw (ne_eqb (number_of e) 0 (λ z. omega (arith, z, number-positive e))) refl)

module _ (rs : List Record) (answers : List ℕ) {s : State} {nodes dots : List ℕ} {rects : List ℤ} {marks marks' : List ℕ} {checked : Result (Unit {0}) Refusal}
    (b : Begun (length rs) (length answers) s (holding nodes dots rects) marks marks' (refusal_number checked)) where
  batch-equal : {u : Unit {0}} → checked ≡ Ok u → length rs ≡ length answers
  batch-equal is =
      by_bool (eqb (length rs) (length answers)) (λ e. eqb-true _ _ e)
      (λ e.
      let other = (b.unequal (λ q. true_false (sym (eq-eqb _ _ q) ∙ e))).0 in
      let none : 0 ≡ 1 = rw is at other in
      absurd (omega (arith, none)))

  pub batch-tree : {u : Unit {0}} → checked ≡ Ok u → IsTree s (holding nodes dots rects) × (length rs ≤ length answers)
  batch-tree is = (checked-tree (b.checked (batch-equal is)) is, omega (arith, batch-equal is))

  pub batch-refused : {e : Refusal} → checked ≡ Err e
      → Batch (world s nodes dots rects marks) rs answers (world s nodes dots rects marks') answers (refusal_reply e)
  unfolding Batch
  batch-refused {e} is =
      let w = world s nodes dots rects marks in
      let out = exit (world s nodes dots rects marks') answers (refusal_reply e) in
      by_bool (eqb (length rs) (length answers))
      (λ same.
      subst (λ (fits : Bool). Obeys fits (batch_rule rs) w answers out) (sym same)
      (call-refused (b.checked (eqb-true _ _ same)) (batch_rule rs) answers is))
      (λ other.
      let u = b.unequal (λ q. true_false (sym (eq-eqb _ _ q) ∙ other)) in
      let one : number_of e ≡ 1 = rw is at u.0 in
      let plain : refusal_reply {A = Unit {0}} e ≡ refused 1 = reply-plain (Unit {0}) e (λ eight. omega (arith, one, eight)) ∙ ap refused one in
      let bad : out ≡ exit w answers (refused 1) = λ j. exit (world s nodes dots rects (u.1 j)) answers (plain j) in
      subst (λ (fits : Bool). Obeys fits (batch_rule rs) w answers out) (sym other)
      (record {
        bad_length = λ l. bad;
        bad_settings = λ l v. absurd (no-two (lengths_right w) l);
        no_tree = λ l v n. absurd (no-two (lengths_right w) l);
        tree = λ l v x h. absurd (no-two (lengths_right w) l);
      }))

  pub batch-done : {u : Unit {0}} → checked ≡ Ok u → {s' : State} {answers' nodes' dots' : List ℕ} {rects' : List ℤ}
      → AllCarriedOut rs s answers (holding nodes dots rects) s' answers' (holding nodes' dots' rects')
      → Batch (world s nodes dots rects marks) rs answers (world s' nodes' dots' rects' marks') answers' (answered tt)
  unfolding Batch batch_rule cleared
  batch-done is {s'} {answers'} {nodes'} {dots'} {rects'} run =
      let same = batch-equal is in
      let w = world s nodes dots rects marks in
      let out = exit (world s' nodes' dots' rects' marks') answers' (answered tt) in
      subst (λ (fits : Bool). Obeys fits (batch_rule rs) w answers out) (sym (eq-eqb _ _ same))
      (call_carried (b.checked same) (batch_rule rs) answers is (λ m x h.
      let a = run.words m x h in
      let row : answers' ≡ batch_words rs x ++ drop (length (batch_words rs x)) answers =
      a.1 ∙ ap (λ (k : ℕ). batch_words rs x ++ drop k answers) (sym (batch-words rs x)) in
      λ j. exit (a.0.words j) (row j) (answered tt)))
