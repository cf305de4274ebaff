-- Room for the longest answer, by the words of the row that the answer is made of.
--     word_bytes    how many bytes a word takes, for each program
--     Room         as many bytes as the longest answer takes
use Rattle.std.specs.Prelude.{ℕ, ◌+◌, ◌*◌, ◌≤◌}
use Rattle.ticket.specs.declared.Program.{Program}
use Rattle.ticket.specs.declared.Program.TheVariants as program

-- an id and its comma; a line of a report
abbrev pub word_bytes : Program → ℕ
word_bytes program.Dotcheck = 11
word_bytes program.Gridreport = 17

pub record Room (p : Program) (words bytes : ℕ) : Type 0 where
  pub enough : 24 + word_bytes p * words ≤ bytes
