-- The check, then the leaves without it.
use Rattle.model.proofs.Laws.Refusals.{handed-on}
use Rattle.calls.proofs.Laws.Calls.{leaves-refused, leaves-answered}
use Rattle.calls.proofs.leaves.leaves.Goals as goal

pub returns-in_err-check : goal.returns-in_err-check
returns-in_err-check c = rw (handed-on c.from_residual.ensures.1) (leaves-refused c.check.ensures _ c.in_err-check.was)

pub returns : goal.returns
returns c = leaves-answered c.check.ensures _ c.in_ok-check.was _ _ c.leaves_row.ensures
