-- What all records of a batch leave.
--     AllCarriedOut        for every marks and shape that the words hold
use Rattle.std.specs.Prelude.{◌≡◌, List, ◌++◌, ℕ, length, drop}
use Rattle.model.specs.declared.Record.{Record}
use Rattle.model.specs.declared.State.{State}
use Rattle.model.specs.Shapes.{Shape}
use Rattle.model.specs.Layout.{Holds}
use Rattle.model.specs.Calls.{batch_shape, batch_words}
use Rattle.memory.specs.Lent.{Held, world_of}

-- §10.3: record after record, each on what the one before left; the row begins with their words and keeps its tail
pub record AllCarriedOut (rs : List Record) (s : State) (answers : List ℕ) (h : Held) (s' : State) (answers' : List ℕ) (h' : Held) : Type 0 where
  pub words : (marks : List ℕ) (x : Shape) → Holds (world_of s h marks) x
      → Holds (world_of s' h' marks) (batch_shape rs x) × (answers' ≡ batch_words rs x ++ drop (length rs) answers)
