-- The answer to a later line of gridreport (§19.5, §19.6).
--     line_text, report_lines        a window's line, and the report's text, line by line, and the total
--     GridAnswered the grid report, and its lines
--     Turned       THE STATEMENT: a grid's line is answered by its report, and is the last; any other as dotcheck answers it
use Rattle.std.specs.Prelude.{◌≡◌, List, ◌++◌, ℕ, Option, Some, None}
use Rattle.grid.specs.declared.grid.Grid.{Grid}
use Rattle.grid.specs.Grids.{columns_of, rows_of}
use Rattle.model.specs.Lists.{join_over}
use Rattle.model.specs.Grid.{WindowLine}
use Rattle.model.specs.Layout.{World}
use Rattle.model.specs.Calls.{Reply, GridReport}
use Rattle.lines.specs.Report.{window_line, total_line, report}
use Rattle.lines.specs.Reading.{Output, Written}
use Rattle.lines.specs.Grids.{GridLineOf}
use Rattle.ticket.specs.First.{Start, going, ended}
use Rattle.ticket.specs.Ticket.{reply_line, Answered}

-- §19.6: a line for each window, in their order, then the total's
abbrev pub line_text : WindowLine → List ℕ
line_text l = window_line l.column l.row l.count

abbrev pub report_lines : List WindowLine → ℕ → List ℕ
report_lines ls total = join_over line_text ls ++ total_line total

-- §19.5: the report of a grid, or its refusal
pub record GridAnswered (w : World) (g : Grid) (row : List ℕ) (w' : World) (row' : List ℕ) (out : Output) : Type 0 where
  pub reply : Reply ℕ
  pub call : GridReport w g row w' row' reply
  pub line : Written out (reply_line (report (columns_of g) (rows_of g) row') reply)

abbrev pub TurnAnswer : World → List ℕ → List ℕ → Option Grid → Start → World → List ℕ → Output → Type 0
TurnAnswer w row input (Some g) r w' row' out = (r ≡ ended out.next) × GridAnswered w g row w' row' out
TurnAnswer w row input None r w' row' out = (r ≡ going w'.state out.next) × Answered w row input w' row' out

pub record Turned (w : World) (row input : List ℕ) (r : Start) (w' : World) (row' : List ℕ) (out : Output) : Type 0 where
  pub says : Option Grid
  pub is : GridLineOf input says
  pub answer : TurnAnswer w row input says r w' row' out
