-- The check, then the cleanup without it.
use Rattle.model.proofs.Laws.Refusals.{handed-on}
use Rattle.calls.proofs.Laws.Calls.{cleanup-refused, cleanup-answered}
use Rattle.calls.proofs.cleanup.cleanup.Goals as goal

pub returns-in_err-check : goal.returns-in_err-check
returns-in_err-check c = rw (handed-on c.from_residual.ensures.1) (cleanup-refused c.check.ensures c.in_err-check.was)

pub returns : goal.returns
returns c = cleanup-answered c.check.ensures c.in_ok-check.was _ _ c.cleanup_tree.ensures
