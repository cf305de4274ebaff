-- The input's end (§13.2, §13.5).
--     left_over     the line that is left over
--     is_left       whether there is one
--     end_phase     the phase at the end
--     Finished     what is left over is answered
use Rattle.std.specs.Prelude.{◌≡◌, Bool, true, List, [], ◌∷◌, ℕ, ltb}
use Rattle.line_reader.specs.Cut.{last_line}
use Rattle.ticket.specs.declared.Program.{Program}
use Rattle.ticket.specs.declared.Phase.{Phase}
use Rattle.ticket.specs.declared.Phase.TheVariants as phase
use Rattle.ticket.specs.Turns.{Lent, Turns}

-- §13.2, §13.5: a last line may lack its LF; a first line that is missing is an empty one
abbrev pub left_over : Phase → List ℕ → List (List ℕ)
left_over phase.First kept = kept ∷ []
left_over (phase.Going s) kept = last_line kept
left_over phase.Ended kept = last_line kept
left_over phase.Failed kept = last_line kept

-- whether anything is
abbrev pub is_left : Phase → ℕ → Bool
is_left phase.First kept = true
is_left (phase.Going s) kept = ltb 0 kept
is_left phase.Ended kept = ltb 0 kept
is_left phase.Failed kept = ltb 0 kept

abbrev pub end_phase : Phase → Phase
end_phase phase.First = phase.Ended
end_phase (phase.Going s) = phase.Ended
end_phase phase.Ended = phase.Ended
end_phase phase.Failed = phase.Failed

pub record Finished (p : Program) (from : Phase) (kept : List ℕ) (l : Lent) (q : Phase) (l' : Lent) : Type 0 where
  pub last : Phase
  pub turns : Turns p from l (left_over from kept) last l'
  pub ends : q ≡ end_phase last
