-- The run of all records.
--     run-ready    what a record asks
--     run-step     a record is one more
use Rattle.std.specs.Prelude.{◌≡◌, refl, ℕ, zero, suc, ◌≤◌, ◌<◌, get_or, set}
use Rattle.std.proofs.Math.Path.{ap, sym, subst}
use Rattle.std.proofs.Common.{◌∙◌, arith, take-suc, drop-cons}
use mathlib.Core.List.{List, [], ◌∷◌, ◌++◌}
use Rattle.std.proofs.Math.ListN.{length, take, drop}
use Rattle.std.proofs.Math.Seq.{append_snoc, set-append_seam}
use Rattle.model.specs.declared.Record.{Record}
use Rattle.model.specs.declared.State.{State}
use Rattle.model.specs.Layout.{Holds}
use Rattle.model.specs.Calls.{batch_shape, batch_words, carry_out}
use Rattle.model.proofs.Laws.Batches.{batch-words, batch-append}
use Rattle.memory.specs.Lent.{Held, world_of}
use Rattle.tree.specs.Operations.{IsTree}
use Rattle.batch_step.specs.Steps.{no_record, Stepped}
use Rattle.batch_step.specs.Runs.{AllCarriedOut}

-- the word of record i goes where the row's tail begins
row_step : (ws answers : List ℕ) (i v : ℕ) → length ws ≡ i → i < length answers → set (ws ++ drop i answers) i v ≡ (ws ++ (v ∷ [])) ++ drop (suc i) answers
row_step ws answers i v e l =
    ap (λ (r : List ℕ). set (ws ++ r) i v) (drop-cons answers i 0 l)
    ∙ subst (λ (k : ℕ). set (ws ++ get_or answers i 0 ∷ drop (suc i) answers) k v ≡ ws ++ v ∷ drop (suc i) answers) e
    (set-append_seam ws (get_or answers i 0) (drop (suc i) answers) v)
    ∙ sym (append_snoc ws v (drop (suc i) answers))

pub take-length : (rs : List Record) (i : ℕ) → i ≤ length rs → length (take i rs) ≡ i
take-length rs zero l = refl
take-length [] (suc i) l = absurd (omega arith)
take-length (r ∷ rs) (suc i) l = ap suc (take-length rs i (omega arith))

module _ (rs : List Record) {s : State} {answers : List ℕ} {h : Held} where
  -- where i records are done
  module _ (i : ℕ) {s₁ : State} {answers₁ : List ℕ} {h₁ : Held} (run : AllCarriedOut (take i rs) s answers h s₁ answers₁ h₁) where
    pub run-ready : IsTree s h → IsTree s₁ h₁
    run-ready t = record { marks = t.marks; shape = batch_shape (take i rs) t.shape; holds = (run.words t.marks t.shape t.holds).0 }

    pub run-step : i < length rs → length rs ≤ length answers
        → {s' : State} {answers' : List ℕ} {h' : Held} → Stepped (get_or rs i no_record) i s₁ answers₁ h₁ s' answers' h'
        → AllCarriedOut (take (suc i) rs) s answers h s' answers' h'
    run-step small room {s'} {answers'} {h'} d = record {
      words = λ marks x g.
          let r = get_or rs i no_record in
          let a = run.words marks x g in
          let y = batch_shape (take i rs) x in
          let c = d.words marks y a.0 in
          let more = take-suc rs i no_record small in
          let app = batch-append (take i rs) (r ∷ []) x in
          let shapes : (carry_out r y).shape ≡ batch_shape (take (suc i) rs) x = sym app.0 ∙ ap (λ (l : List Record). batch_shape l x) (sym more) in
          let rows : batch_words (take i rs) x ++ ((carry_out r y).word ∷ []) ≡ batch_words (take (suc i) rs) x =
          sym app.1 ∙ ap (λ (l : List Record). batch_words l x) (sym more) in
          let done : length (take i rs) ≡ i = take-length rs i (omega (arith, small)) in
          let next : length (take (suc i) rs) ≡ suc i = take-length rs (suc i) (omega (arith, small)) in
          let n : length (batch_words (take i rs) x) ≡ i = batch-words (take i rs) x ∙ done in (
            subst (Holds (world_of s' h' marks)) shapes c.0,
            c.1
                ∙ ap (λ (l : List ℕ). set l i (carry_out r y).word) (a.1 ∙ ap (λ (k : ℕ). batch_words (take i rs) x ++ drop k answers) done)
                ∙ row_step (batch_words (take i rs) x) answers i (carry_out r y).word n (omega (arith, small, room))
                ∙ ap (λ (l : List ℕ). l ++ drop (suc i) answers) rows
                ∙ ap (λ (k : ℕ). batch_words (take (suc i) rs) x ++ drop k answers) (sym next),
          );
    }
