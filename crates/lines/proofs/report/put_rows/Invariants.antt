-- The invariant: the lines of the rows passed are in the row of bytes.
use Rattle.lines.specs.Reading.{Put}
use Rattle.lines.specs.Report.{window_lines}
use Rattle.lines.proofs.report.put_rows.Given as goal

abbrev pub invariant-loop-row : goal.invariant-loop-row
invariant-loop-row l = Put l.initial.out 0 (window_lines l.columns l.row l.counts) l.out l.next
