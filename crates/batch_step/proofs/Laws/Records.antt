-- From the single operations to the records of a batch.
--     insert_done, remove_done, cleanup_done       a record by its operation's answer
--     of_kind, other_kind      a record by its kind
--     stepped      the row with a record's word
use Rattle.std.specs.Prelude.{◌≡◌, refl, List, [], ℕ, ℤ, length, replicate, set, Option, Some, None, Result, Ok, Err}
use Rattle.std.proofs.Math.Path.{ap}
use Rattle.std.proofs.Common.{sym, ◌∙◌, subst, subst₂}
use Rattle.model.specs.declared.Dot.{Dot}
use Rattle.model.specs.declared.Record.{Record}
use Rattle.model.specs.declared.State.{State}
use Rattle.model.specs.declared.answers.Changed.{Changed}
use Rattle.model.specs.declared.refusal.Refusal.{Refusal}
use Rattle.model.specs.Shapes.{Shape}
use Rattle.model.specs.Layout.{World, cleared, layout, Holds, same_settings}
use Rattle.model.specs.Calls.{Reply, refused, too_many, Verdict, refuse, overflow, accept, exit, carried_out}
use Rattle.model.specs.Refusals.{number_of, refusal_reply}
use Rattle.model.proofs.Laws.Refusals.{by_number-map}
use Rattle.model.specs.Calls.{Recorded, recorded, refused_word, yes_no, insert_rule, remove_rule, cleanup_rule, carry_out}
use Rattle.model.specs.Answers.{change_reply, change_state, yes_no_reply, yes_no_state}
use Rattle.model.proofs.Laws.Layout.{same-settings, holds-settings}
use Rattle.model.proofs.Laws.Calls.{world_of_lem, reply_of}
use Rattle.model.proofs.Laws.Batches.{record-valid, record-settings, insert-record, remove-record, cleanup-record, other_record}
use Rattle.memory.specs.Lent.{Held, holding, world_of}
use Rattle.tree.specs.Operations.{IsTree, CarriedOut}
use Rattle.tree_cleanup.specs.Answers.{CleanedUp}
use Rattle.batch_step.specs.Steps.{record_of, reply_word, RecordCarriedOut, Stepped}

-- ---- a record by its operation

module _ {A : Type 0} (word : A → ℕ) (w w' : World) (x : Shape) (reply : Reply A) (same : cleared w ≡ layout x) where
  left_by : (v : Verdict ℕ A) → exit w' [] reply ≡ carried_out w [] v → (w' ≡ layout (recorded word x v).shape)
      × (reply_word word reply ≡ (recorded word x v).word)
  left_by (refuse k) e = (world_of_lem e ∙ same, ap (reply_word word) (reply_of e))
  left_by (overflow n) e = (world_of_lem e ∙ same, ap (reply_word word) (reply_of e))
  left_by (accept y row a) e = (world_of_lem e, ap (reply_word word) (reply_of e))

module _ {A : Type 0} (word : A → ℕ) (rule : Shape → Verdict ℕ A) (r : Record) (is : (x : Shape) → carry_out r x ≡ recorded word x (rule x))
    {s s' : State} {h h' : Held} {reply : Reply A} (done : CarriedOut rule s h s' h' reply) where
  -- an operation of the rule that the record stands for
  by_rule : RecordCarriedOut (carry_out r) s h s' h' (reply_word word reply)
  unfolding cleared
  by_rule marks x g =
      let w = world_of s h marks in
      let e = left_by word w (world_of s' h' (replicate (length marks) 0)) x reply g.words (rule x) (done marks x g) in (
        record { valid = record-valid r x g.valid; words = e.0 ∙ ap (λ (z : Recorded). layout z.shape) (sym (is x)) },
        e.1 ∙ ap (λ (z : Recorded). z.word) (sym (is x)),
      )

  by_answer : {u : State} {n : ℕ} → (n ≡ reply_word word reply) × (u ≡ s') → RecordCarriedOut (carry_out r) s h u h' n
  by_answer left = subst₂ (λ (v : State) (m : ℕ). RecordCarriedOut (carry_out r) s h v h' m) (sym left.1) (sym left.0) by_rule

module _ {s u : State} {h h' : Held} {n : ℕ} where
  pub insert_done : (dot : Dot) (a : Result Changed Refusal) → CarriedOut (insert_rule dot) s h (change_state s a) h' (change_reply a)
      → (n ≡ reply_word (λ m. m) (change_reply a)) × (u ≡ change_state s a)
      → RecordCarriedOut (carry_out (record_of 0 dot)) s h u h' n
  insert_done dot a done left =
      by_answer (λ m. m) (insert_rule dot) (record_of 0 dot) (λ x. insert-record (record_of 0 dot) x refl) done left

  pub remove_done : (dot : Dot) (a : Result (Option State) Refusal)
      → CarriedOut (remove_rule dot.id dot.rect) s h (yes_no_state s a) h' (yes_no_reply a)
      → (n ≡ reply_word yes_no (yes_no_reply a)) × (u ≡ yes_no_state s a)
      → RecordCarriedOut (carry_out (record_of 1 dot)) s h u h' n
  remove_done dot a done left =
      by_answer yes_no (remove_rule dot.id dot.rect) (record_of 1 dot) (λ x. remove-record (record_of 1 dot) x refl) done left

-- a cleanup's record may have any dot
module _ {s : State} {nodes dots : List ℕ} {rects : List ℤ} {nodes' : List ℕ} where
  pub cleanup_done : {u : State} {n : ℕ} (a : Result (Option State) Refusal) → CleanedUp s nodes nodes' a
      → (n ≡ reply_word yes_no (yes_no_reply a)) × (u ≡ yes_no_state s a)
      → (dot : Dot) → RecordCarriedOut (carry_out (record_of 2 dot)) s (holding nodes dots rects) u (holding nodes' dots rects) n
  unfolding CleanedUp
  cleanup_done a done left dot =
      by_answer yes_no cleanup_rule (record_of 2 dot) (λ x. cleanup-record (record_of 2 dot) x refl) (done dots rects) left

-- ---- the kind of a record

-- a record of another kind changes nothing
pub other_kind : {s : State} {h : Held} (r : Record) {n : ℕ} → ¬ (r.kind ≡ 0) → ¬ (r.kind ≡ 1) → ¬ (r.kind ≡ 2)
    → n ≡ refused_word 9
    → RecordCarriedOut (carry_out r) s h s h n
other_kind {s} {h} r a b c w marks x g =
    let e = sym (other_record r x a b c) in
    (subst (λ (z : Recorded). Holds (world_of s h marks) z.shape) e g, w ∙ ap (λ (z : Recorded). z.word) e)

-- a record is one of its kind
pub of_kind : (r : Record) (k : ℕ) → r.kind ≡ k → {s s' : State} {h h' : Held} {n : ℕ}
    → RecordCarriedOut (carry_out (record_of k r.dot)) s h s' h' n → RecordCarriedOut (carry_out r) s h s' h' n
of_kind r k e {s} {s'} {h} {h'} {n} d = subst (λ (j : ℕ). RecordCarriedOut (carry_out (record_of j r.dot)) s h s' h' n) (sym e) d

-- ---- the row with the record's word, and the settings as they were

module _ (r : Record) {s s' : State} {h h' : Held} (t : IsTree s h) {n : ℕ} (done : RecordCarriedOut (carry_out r) s h s' h' n) where
  kept-settings : s'.settings ≡ s.settings
  kept-settings =
      let x = t.shape in
      holds-settings (world_of s' h' t.marks) (carry_out r x).shape (done t.marks x t.holds).0
      ∙ record-settings r x t.holds.valid
      ∙ sym (holds-settings (world_of s h t.marks) x t.holds)

  same-carried_out : {u : State} → u ≡ same_settings s s' → RecordCarriedOut (carry_out r) s h u h' n
  same-carried_out e = subst (λ (v : State). RecordCarriedOut (carry_out r) s h v h' n) (same-settings s s' kept-settings ∙ sym e) done

pub stepped : (r : Record) (i : ℕ) {s s' u : State} {answers : List ℕ} {h h' : Held} {n : ℕ}
    → IsTree s h → RecordCarriedOut (carry_out r) s h s' h' n → u ≡ same_settings s s' → Stepped r i s answers h u (set answers i n) h'
stepped r i {answers = answers} t done e = record { words = λ marks x g. let w = same-carried_out r t done e marks x g in (w.0, ap (set answers i) w.1) }
