-- What each answer of a call says (§16.4): its reply, and the state after it. A refused call keeps the state that it was given.
use Rattle.std.specs.Prelude.{Bool, true, false, ℕ, Option, Some, None, Result, Ok, Err}
use Rattle.model.specs.declared.State.{State}
use Rattle.model.specs.declared.answers.Changed.{Changed}
use Rattle.model.specs.declared.answers.Asked.{Asked}
use Rattle.model.specs.declared.answers.Found.{Found}
use Rattle.model.specs.declared.refusal.Refusal.{Refusal}
use Rattle.model.specs.Calls.{Reply}
use Rattle.model.specs.Refusals.{reply}

-- make: nothing beside the state
abbrev pub make_reply : Result State Refusal → Reply (Unit {0})
make_reply = reply (λ s. tt)

abbrev pub make_state : State → Result State Refusal → State
make_state s (Ok s') = s'
make_state s (Err e) = s

-- insert and place: the number of splits; a patch: the number of dots laid
abbrev pub change_reply : Result Changed Refusal → Reply ℕ
change_reply = reply (λ changed. changed.number)

abbrev pub change_state : State → Result Changed Refusal → State
change_state s (Ok changed) = changed.state
change_state s (Err e) = s

-- remove and cleanup: yes, with the state after it, or no
abbrev pub is_yes : Option State → Bool
is_yes (Some s) = true
is_yes None = false

abbrev pub yes_no_reply : Result (Option State) Refusal → Reply Bool
yes_no_reply = reply is_yes

abbrev pub yes_no_state : State → Result (Option State) Refusal → State
yes_no_state s (Ok (Some s')) = s'
yes_no_state s (Ok None) = s
yes_no_state s (Err e) = s

-- ask: the splits needed, and the ticket
abbrev pub ask_reply : Result Asked Refusal → Reply Asked
ask_reply = reply (λ asked. asked)

-- query and collect_ids: the hits, whose ids the row begins with, and the nodes opened
abbrev pub query_reply : Result Found Refusal → Reply Found
query_reply = reply (λ found. found)

-- all and leaves: how many ids, how many leaves there are; references: the dots in all leaves; the grid report: the total
abbrev pub number_reply : Result ℕ Refusal → Reply ℕ
number_reply = reply (λ n. n)
