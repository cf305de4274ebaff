-- The check, then all without it.
use Rattle.model.proofs.Laws.Refusals.{handed-on}
use Rattle.calls.proofs.Laws.Calls.{all-refused, all-answered}
use Rattle.calls.proofs.all.all.Goals as goal

pub returns-in_err-check : goal.returns-in_err-check
returns-in_err-check c = rw (handed-on c.from_residual.ensures.1) (all-refused c.check.ensures _ c.in_err-check.was)

pub returns : goal.returns
returns c = all-answered c.check.ensures _ c.in_ok-check.was _ _ c.all_row.ensures
