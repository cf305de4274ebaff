-- What an exported call writes and returns, by its reply (§18.3, §18.4).
--     result_of     what is returned: 0 or the refusal, 8 with 256 times the number wanted added
--     refused_result       the same of a refusal
--     state_row, answer_row  the state row and the answer row after a reply; a refused call leaves them as they were
--     number, yes_or_no, splits_told, hits_opened, wide        the two words of an answer
--     Out          an answer row and a result, by a reply
--     made_row      the state row after a make
use Rattle.std.specs.Prelude.{◌≡◌, List, [], ◌∷◌, Bool, ℕ, ◌+◌, ◌*◌, Result}
use Rattle.words.specs.Words.{low_word, high_word}
use Rattle.model.specs.declared.State.{State}
use Rattle.model.specs.declared.answers.Asked.{Asked}
use Rattle.model.specs.declared.answers.Found.{Found}
use Rattle.model.specs.declared.refusal.Refusal.{Refusal}
use Rattle.model.specs.Calls.{Reply, refused, too_many, answered, refusal, yes_no}
use Rattle.model.specs.Refusals.{by_number}
use Rattle.model.specs.Answers.{make_reply, make_state}
use Rattle.host_rows.specs.Rows.{state_in, with_state}

-- §18.3: the refusal's number, 8 with 256 times the number of answers added
abbrev pub result_of : {A : Type 0} → Reply A → ℕ
result_of {A} (refused k) = refusal {A = A} (refused k)
result_of {A} (too_many n) = refusal {A = A} (too_many n) + 256 * n
result_of {A} (answered a) = refusal (answered a)

-- the same by the refusal
abbrev pub refused_result : Refusal → ℕ
refused_result = by_number (λ k. k) (λ n. 8 + 256 * n)

abbrev pub state_row : {A : Type 0} → State → List ℕ → Reply A → List ℕ
state_row s row (refused k) = row
state_row s row (too_many n) = row
state_row s row (answered a) = with_state s row

abbrev pub answer_row : {A : Type 0} → (A → List ℕ) → List ℕ → Reply A → List ℕ
answer_row words row (refused k) = row
answer_row words row (too_many n) = row
answer_row words row (answered a) = words a

-- an answer's two words
abbrev pub number : ℕ → List ℕ
number n = n ∷ 0 ∷ []

abbrev pub yes_or_no : Bool → List ℕ
yes_or_no yes? = yes_no yes? ∷ 0 ∷ []

abbrev pub splits_told : Asked → List ℕ
splits_told a = number a.splits

abbrev pub hits_opened : Found → List ℕ
hits_opened l = l.hits ∷ l.opened ∷ []

-- §18.8: a number of 64 bits, the low word first
abbrev pub wide : ℕ → List ℕ
wide n = low_word n ∷ high_word n ∷ []

-- the answer row and what is returned, by the reply
pub record Out {A : Type 0} (words : A → List ℕ) (reply : Reply A) (row row' : List ℕ) (result : ℕ) : Type 0 where
  pub answer : row' ≡ answer_row words row reply
  pub returned : result ≡ result_of reply

-- make has no answer row
abbrev pub made_row : Result State Refusal → List ℕ → List ℕ
made_row m row = state_row (make_state (state_in row) m) row (make_reply m)
