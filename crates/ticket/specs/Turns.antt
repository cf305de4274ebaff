-- What a program does with the lines of a ticket, one after another (§13.5, §13.6, §19.5).
--     is_over       the end, or an answer that could not be written
--     Lent, world_of, output_of      the rows that it works in; the world that they are with a state; the row of its answers
--     phase_of, GoesTo      the phase that an answer leads to, and what comes of the writing of it
--     FirstTurn, LaterTurn the first line, and one after it
--     TurnIn, Turn THE STATEMENT for a line, by the phase
--     Turns        for lines one after another
use Rattle.std.specs.Prelude.{◌≡◌, Bool, true, false, List, [], ◌∷◌, ℕ, ℤ, Option, Some, None}
use Rattle.model.specs.declared.State.{State}
use Rattle.model.specs.Layout.{World, world}
use Rattle.lines.specs.Reading.{Output, output}
use Rattle.ticket.specs.First.{Start, going, after_start, Started}
use Rattle.ticket.specs.Ticket.{Answered}
use Rattle.ticket.specs.Report.{Turned}
use Rattle.ticket.specs.declared.Program.{Program}
use Rattle.ticket.specs.declared.Program.TheVariants as program
use Rattle.ticket.specs.declared.Phase.{Phase}
use Rattle.ticket.specs.declared.Phase.TheVariants as phase

-- whether no line is answered any more
abbrev pub is_over : Phase → Bool
is_over phase.First = false
is_over (phase.Going s) = false
is_over phase.Ended = true
is_over phase.Failed = true

pub record Lent : Type 0 where
  pub nodes : List ℕ
  pub dots : List ℕ
  pub rects : List ℤ
  pub marks : List ℕ
  pub row : List ℕ
  pub out : List ℕ

abbrev pub lent : List ℕ → List ℕ → List ℤ → List ℕ → List ℕ → List ℕ → Lent
lent nodes dots rects marks row out = record { nodes = nodes; dots = dots; rects = rects; marks = marks; row = row; out = out }

abbrev pub world_of : State → Lent → World
world_of s l = world s l.nodes l.dots l.rects l.marks

abbrev pub output_of : Lent → Lent → ℕ → Output
output_of l l' next = output l.out l'.out next

abbrev pub phase_of : Option State → Phase
phase_of (Some s) = phase.Going s
phase_of None = phase.Ended

-- an answer leads on, or all answers break off, as where it could not be written: which of the two, no contract can say, since none says what is written
pub data GoesTo (wanted : Phase) : Phase → Type 0 where
  leads_on : GoesTo wanted wanted
  breaks_off : GoesTo wanted phase.Failed

-- §13.5: there is no state before the first line, so any will do
pub record FirstTurn (l : Lent) (line : List ℕ) (q : Phase) (l' : Lent) : Type 0 where
  pub says : Start
  pub answer : (before : State) → Started (world_of before l) line says (world_of (after_start before says) l') (output_of l l' says.next)
  pub row : l'.row ≡ l.row
  pub goes : GoesTo (phase_of says.state) q

-- §13.6, §19.5: by the program; dotcheck goes on after each
abbrev pub LaterAnswer : Program → State → Lent → List ℕ → Start → Lent → Type 0
LaterAnswer program.Dotcheck s l line says l' =
    (says ≡ going (after_start s says) says.next)
    × Answered (world_of s l) l.row line (world_of (after_start s says) l') l'.row (output_of l l' says.next)
LaterAnswer program.Gridreport s l line says l' =
    Turned (world_of s l) l.row line says (world_of (after_start s says) l') l'.row (output_of l l' says.next)

pub record LaterTurn (p : Program) (s : State) (l : Lent) (line : List ℕ) (q : Phase) (l' : Lent) : Type 0 where
  pub says : Start
  pub answer : LaterAnswer p s l line says l'
  pub goes : GoesTo (phase_of says.state) q

-- after the end, and after an answer that could not be written, nothing is changed
abbrev pub TurnIn : Program → Phase → Lent → List ℕ → Phase → Lent → Type 0
TurnIn p phase.First l line q l' = FirstTurn l line q l'
TurnIn p (phase.Going s) l line q l' = LaterTurn p s l line q l'
TurnIn p phase.Ended l line q l' = (q ≡ phase.Ended) × (l' ≡ l)
TurnIn p phase.Failed l line q l' = (q ≡ phase.Failed) × (l' ≡ l)

pub record Turn (p : Program) (from : Phase) (l : Lent) (line : List ℕ) (q : Phase) (l' : Lent) : Type 0 where
  pub taken : TurnIn p from l line q l'

pub data Turns (p : Program) : Phase → Lent → List (List ℕ) → Phase → Lent → Type 0 where
  over : {q : Phase} {l : Lent} → Turns p q l [] q l
  turned : {q m q' : Phase} {l k l' : Lent} {line : List ℕ} {lines : List (List ℕ)} → Turn p q l line m k → Turns p m k lines q' l'
      → Turns p q l (line ∷ lines) q' l'
