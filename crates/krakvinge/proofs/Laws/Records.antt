-- Laws of a batch's records as a row of words.
--     batch-twelve    what the code's test of the lengths says
--     records_length, records_at       how many records a row has, and each of them
--     batch-out        what a batch returns that is refused
use Rattle.std.specs.Prelude.{◌≡◌, refl, List, [], ◌∷◌, Bool, false, not, ℕ, ◌+◌, ◌*◌, ◌/◌, ◌%◌, ◌<◌, eqb, length, get_or}
use Rattle.std.proofs.Common.{sym, ◌∙◌, subst, arith, eqb-true}
use Rattle.arithmetic.proofs.Laws.Linear.{and_t}
use Rattle.model.specs.Lists.{join_below}
use Rattle.model.proofs.Laws.Lists.{length-join_below}
use Rattle.model.proofs.Laws.Entries.{get_d_join_below}
use Rattle.model.specs.declared.refusal.Refusal.{Refusal}
use Rattle.model.specs.Calls.{Reply, refused, too_many, answered}
use Rattle.model.specs.Refusals.{refusal_reply}
use Rattle.model.proofs.Laws.Refusals.{by_number-map}
use Rattle.batch_step.specs.Steps.{no_record}
use Rattle.host_rows.specs.Records.{record_words, record_in, records_in, batch_fits}
use Rattle.host_rows.specs.Answers.{result_of, refused_result, answer_row, Out}
use Rattle.host_rows.proofs.Laws.Rows.{fit}

pub batch-twelve : (state records : List ℕ) {b : Bool} → b ≡ batch_fits state records → not b ≡ false → length state ≡ 12
unfolding batch_fits
batch-twelve state records test n = eqb-true _ _ (and_t (eqb (length state) 12) (eqb (length records % record_words) 0) (fit test n)).0

pub records_length : (row : List ℕ) → length (records_in row) ≡ length row / record_words
unfolding records_in
records_length row = omega (arith, length-join_below (length row / record_words) 1 (λ i. record_in row i ∷ []) (λ i. refl))

pub records_at : (row : List ℕ) (i : ℕ) → i < length row / record_words → get_or (records_in row) i no_record ≡ record_in row i
unfolding records_in
records_at row i l =
    let at : 1 * i + 0 ≡ i = omega arith in
    subst (λ (k : ℕ). get_or (join_below (length row / record_words) (λ j. record_in row j ∷ [])) k no_record ≡ record_in row i) at
    (get_d_join_below 1 (length row / record_words) (λ j. record_in row j ∷ []) (λ j. refl) i 0 no_record l (omega arith))

-- a batch has no answer row, whatever it replies
no_row : (reply : Reply (Unit {0})) → [] ≡ answer_row (λ done. []) [] reply
no_row (refused k) = refl
no_row (too_many n) = refl
no_row (answered a) = refl

pub batch-out : (e : Refusal) {result : ℕ} → result ≡ refused_result e → Out {A = Unit {0}} (λ done. []) (refusal_reply e) [] [] result
batch-out e is = record {
  answer = no_row (refusal_reply e);
  returned = is ∙ sym (by_number-map (result_of {A = Unit {0}}) refused too_many e);
}
