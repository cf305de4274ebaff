-- The answer to the first line (§13.5).
--     Start, going, ended          what a line leads to that may be the last
--     MakeLine     make, and the line of its reply
--     Started      the first line: an `S`; or another line or none, and the end
use Rattle.std.specs.Prelude.{◌≡◌, List, [], ◌∷◌, ℕ, Option, Some, None}
use Rattle.geometry.specs.declared.settings.Settings.{Settings}
use Rattle.geometry.specs.Settings.{D}
use Rattle.model.specs.declared.State.{State}
use Rattle.model.specs.Layout.{World}
use Rattle.model.specs.Calls.{Reply, refused, too_many, answered, Make}
use Rattle.lines.specs.Text.{answer}
use Rattle.lines.specs.Reading.{Output, Written}
use Rattle.lines.specs.Lines.{LineOf}
use Rattle.lines.specs.declared.line.Call.TheVariants as call
use Rattle.lines.specs.declared.line.Call.{Call}
use Rattle.ticket.specs.declared.Step.{Step}
use Rattle.ticket.specs.Ticket.{refusal_line, reply_line}

-- the state that the program goes on with, or none at the end; and where the answer's bytes end
abbrev pub Start : Type 0
Start = Step (Option State)

abbrev pub going : State → ℕ → Start
going s n = record { state = Some s; next = n }

abbrev pub ended : ℕ → Start
ended n = record { state = None; next = n }

abbrev pub state_after : State → Option State → State
state_after before (Some s) = s
state_after before None = before

abbrev pub after_start : State → Start → State
after_start before r = state_after before r.state

-- the program goes on, with make's state, exactly if make was accepted
abbrev pub start_of : Reply (Unit {0}) → State → ℕ → Start
start_of (refused k) s n = ended n
start_of (too_many k) s n = ended n
start_of (answered a) s n = going s n

-- §13.5: `S,` and D; with settings out of range `E,2`, and the end
pub record MakeLine (w : World) (s : Settings) (r : Start) (w' : World) (out : Output) : Type 0 where
  pub reply : Reply (Unit {0})
  pub call : Make w s w' reply
  pub goes : r ≡ start_of reply w'.state out.next
  pub line : Written out (reply_line (λ _. answer 83 (D s ∷ [])) reply)

-- §13.5: any other first line, or none, is `E,9`, and the end
pub record NoStart (w : World) (r : Start) (w' : World) (out : Output) : Type 0 where
  pub ends : r ≡ ended out.next
  pub kept : w' ≡ w
  pub line : Written out (refusal_line 9)

abbrev pub FirstAnswer : World → Option Call → Start → World → Output → Type 0
FirstAnswer w (Some (call.Settings s)) r w' out = MakeLine w s r w' out
FirstAnswer w (Some (call.Insert id x)) r w' out = NoStart w r w' out
FirstAnswer w (Some (call.InsertInk d)) r w' out = NoStart w r w' out
FirstAnswer w (Some (call.Remove id x)) r w' out = NoStart w r w' out
FirstAnswer w (Some call.Cleanup) r w' out = NoStart w r w' out
FirstAnswer w (Some (call.Query q)) r w' out = NoStart w r w' out
FirstAnswer w None r w' out = NoStart w r w' out

-- THE STATEMENT for the first line: what it says, and the answer to that
pub record Started (w : World) (input : List ℕ) (r : Start) (w' : World) (out : Output) : Type 0 where
  pub says : Option Call
  pub is : LineOf input says
  pub answer : FirstAnswer w says r w' out
