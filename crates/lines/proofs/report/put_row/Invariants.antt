-- The invariant: the lines of the columns passed are in the row.
use Rattle.lines.specs.Reading.{Put}
use Rattle.lines.specs.Report.{window_row}
use Rattle.lines.proofs.report.put_row.Given as goal

abbrev pub invariant-loop-column : goal.invariant-loop-column
invariant-loop-column l = Put l.initial.out l.at (window_row l.column l.row l.counts 0) l.out l.next
