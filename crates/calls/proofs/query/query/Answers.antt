-- The check, then the query without it.
use Rattle.model.proofs.Laws.Refusals.{handed-on}
use Rattle.calls.proofs.Laws.Calls.{query-refused, query-answered}
use Rattle.calls.proofs.query.query.Goals as goal

pub returns-in_err-check : goal.returns-in_err-check
returns-in_err-check c = rw (handed-on c.from_residual.ensures.1) (query-refused c.check.ensures _ _ c.in_err-check.was)

pub returns : goal.returns
returns c = query-answered c.check.ensures _ _ c.in_ok-check.was _ _ c.query_row.ensures
