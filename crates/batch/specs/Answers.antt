-- What the batch's answer says.
--     batch_reply       its refusal as a whole
--     batch_state       the state after it
--     carried_out, carried_out_by     how many records it carries out, by the answer and by the refusal
use Rattle.std.specs.Prelude.{List, cond, ℕ, eqb, length, Result, Ok, Err}
use Rattle.model.specs.declared.Record.{Record}
use Rattle.model.specs.declared.State.{State}
use Rattle.model.specs.declared.refusal.Refusal.{Refusal}
use Rattle.model.specs.Calls.{Reply, refused, answered}
use Rattle.model.specs.Refusals.{refusal_reply}
use Rattle.batch.specs.declared.Batched.{Batched}

-- a refusal of the whole batch
abbrev pub batch_reply : Result Batched Refusal → Reply (Unit {0})
batch_reply (Ok b) = answered tt
batch_reply (Err e) = refusal_reply e

abbrev pub batch_state : State → Result Batched Refusal → State
batch_state s (Ok b) = b.state
batch_state s (Err e) = s

abbrev pub carried_out : Result Batched Refusal → ℕ
carried_out (Ok b) = b.count
carried_out (Err e) = 0

-- all, or none where the batch is refused as a whole
abbrev pub carried_out_by : List Record → ℕ → ℕ
carried_out_by records refusal = cond (eqb refusal 0) (length records) 0
