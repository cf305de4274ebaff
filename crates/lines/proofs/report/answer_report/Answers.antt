-- The windows' lines, then the total's.
-- the total's line begins where the windows' end
use Rattle.std.proofs.Common.{arith, rules}
use Rattle.lines.proofs.Laws.Report.{rows_end, report-written}
use Rattle.lines.proofs.report.answer_report.Goals as goal

pub put_total-requires : goal.put_total-requires
put_total-requires c = omega (arith, rows_end _ _ _ c.requires.columns_bound.0 c.requires.columns_bound.1 c.put_rows-end.ensures)

pub returns : goal.returns
returns c = search (rules, report-written)
