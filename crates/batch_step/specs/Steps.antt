-- What the steps of a batch leave.
--     reply_word            the answer word of a reply
--     RecordCarriedOut     what a record leaves, for every marks and shape that the words hold
--     no_record            stands where a row has no record
--     Stepped              the same with the answer row
--     Begun                the check of all that a batch is lent
use Rattle.std.specs.Prelude.{◌≡◌, List, ℕ, set}
use Rattle.model.specs.declared.Dot.{Dot}
use Rattle.model.specs.declared.Record.{Record}
use Rattle.model.specs.declared.State.{State}
use Rattle.model.specs.Dots.{zero_dot}
use Rattle.model.specs.Shapes.{Shape}
use Rattle.model.specs.Layout.{Holds}
use Rattle.model.specs.Calls.{Reply, refused, too_many, answered, Recorded, refused_word, carry_out}
use Rattle.memory.specs.Lent.{Held, world_of}
use Rattle.tree_check.specs.Checks.{Checked}

abbrev pub record_of : ℕ → Dot → Record
record_of kind dot = record { kind = kind; dot = dot }

-- §10.4: the answer word of a reply
abbrev pub reply_word : {A : Type 0} → (A → ℕ) → Reply A → ℕ
reply_word word (refused k) = refused_word k
reply_word word (too_many n) = refused_word 8
reply_word word (answered a) = word a

-- the words hold the shape that the rule leaves, and the answer is its word
abbrev pub RecordCarriedOut : (Shape → Recorded) → State → Held → State → Held → ℕ → Type 0
RecordCarriedOut rule s h s' h' word =
    (marks : List ℕ) (x : Shape) → Holds (world_of s h marks) x
    → Holds (world_of s' h' marks) (rule x).shape × (word ≡ (rule x).word)

-- stands where a row has no record
abbrev pub no_record : Record
no_record = record { kind = 0; dot = zero_dot }

-- §10.3, §10.5: a record's word in its place of the row, and the state that the next record gets
pub record Stepped (r : Record) (i : ℕ) (s : State) (answers : List ℕ) (h : Held) (s' : State) (answers' : List ℕ) (h' : Held) : Type 0 where
  pub words : (marks : List ℕ) (x : Shape) → Holds (world_of s h marks) x
      → Holds (world_of s' h' marks) (carry_out r x).shape × (answers' ≡ set answers i (carry_out r x).word)

-- §10.3, §11.6: rows of unequal length are 1; then the check
pub record Begun (records words : ℕ) (s : State) (h : Held) (marks marks' : List ℕ) (refusal : ℕ) : Type 0 where
  pub unequal : (records ≡ words → ⊥) → (refusal ≡ 1) × (marks' ≡ marks)
  pub checked : records ≡ words → Checked s h marks marks' refusal
