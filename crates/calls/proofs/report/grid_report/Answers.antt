-- The check, then the report without it.
use Rattle.model.proofs.Laws.Refusals.{handed-on}
use Rattle.calls.proofs.Laws.Calls.{grid_refused, grid_answered_lem}
use Rattle.calls.proofs.report.grid_report.Goals as goal

pub returns-in_err-check : goal.returns-in_err-check
returns-in_err-check c = rw (handed-on c.from_residual.ensures.1) (grid_refused c.check.ensures _ _ c.in_err-check.was)

pub returns : goal.returns
returns c = grid_answered_lem c.check.ensures _ _ c.in_ok-check.was _ _ c.report_row.ensures
