-- What the reads of a program come to (§13.1, §13.2, §13.5).
--     Chunked      the bytes of one read: its whole lines are answered, a part of one is kept
--     ReadAnswered, ReadOn         one read, or the input's end, or a read that failed
--     Reading      the reads so far
--     ticket_lines, AllAnswered     THE STATEMENT for a run: there are bytes, in some pieces, whose lines are those that were answered
use Rattle.std.specs.Prelude.{◌≡◌, Option, Some, None, List, [], ◌∷◌, ℕ, ◌≤◌, length, take}
use Rattle.line_reader.specs.Cut.{lines, joined, progress, read_bytes, read_pieces, hand_out}
use Rattle.ticket.specs.declared.Program.{Program}
use Rattle.ticket.specs.declared.Phase.{Phase}
use Rattle.ticket.specs.declared.Phase.TheVariants as phase
use Rattle.ticket.specs.Turns.{Lent, Turns}
use Rattle.ticket_end.specs.declared.Progress.{Progress}
use Rattle.ticket_end.specs.End.{end_phase, Finished}

-- the lines that end in the bytes, the first of them begun by the part that was kept; room: how much of a line is kept
pub record Chunked (p : Program) (from : Phase) (kept bytes : List ℕ) (room : ℕ) (l : Lent) (to : Progress) (line : List ℕ) (l' : Lent) : Type 0 where
  pub whole : List (List ℕ)
  pub cut : read_bytes hand_out room (progress [] kept) bytes ≡ progress whole (take to.kept line)
  pub turns : Turns p from l whole to.phase l'
  pub within : to.kept ≤ length line

-- by what a read brought: bytes, which the buffer begins with; the input's end; an error, after which a part of a line is no line
pub data ReadAnswered (p : Program) (from : Progress) (got : Option ℕ) (line₀ : List ℕ) (l : Lent) (buffer : List ℕ) (to : Progress) (line : List ℕ) (l' : Lent)
    : Type 0 where
  some : (count : ℕ) → got ≡ Some count → (count ≡ 0 → ⊥)
      → Chunked p from.phase (take from.kept line₀) (take count buffer) (length line₀) l to line l'
      → ReadAnswered p from got line₀ l buffer to line l'
  none : got ≡ Some 0 → Finished p from.phase (take from.kept line₀) l to.phase l' → ReadAnswered p from got line₀ l buffer to line l'
  failed : got ≡ None → to.phase ≡ phase.Failed → l' ≡ l → ReadAnswered p from got line₀ l buffer to line l'

-- a read of some bytes or none, whichever they are
pub record ReadOn (p : Program) (from : Progress) (line₀ : List ℕ) (l : Lent) (buffer : List ℕ) (to : Progress) (line : List ℕ) (l' : Lent) : Type 0 where
  pub got : Option ℕ
  pub answered : ReadAnswered p from got line₀ l buffer to line l'

-- the pieces that came so far: their whole lines are answered
pub record Reading (p : Program) (room : ℕ) (l : Lent) (to : Progress) (line : List ℕ) (l' : Lent) : Type 0 where
  pub pieces : List (List ℕ)
  pub whole : List (List ℕ)
  pub cut : read_pieces hand_out room (progress [] []) pieces ≡ progress whole (take to.kept line)
  pub turns : Turns p phase.First l whole to.phase l'

-- §13.5: an input without a line is answered as one empty line
abbrev pub ticket_lines : List (List ℕ) → List (List ℕ)
ticket_lines [] = [] ∷ []
ticket_lines (l ∷ ls) = l ∷ ls

-- a run that no error ended. No contract says which bytes a read brings, so that these are all of them cannot be said here
pub record AllAnswered (p : Program) (l : Lent) (l' : Lent) : Type 0 where
  pub pieces : List (List ℕ)
  pub last : Phase
  pub turns : Turns p phase.First l (ticket_lines (lines (joined pieces))) last l'
  pub ends : end_phase last ≡ phase.Ended
