-- The check, whose tree has as many dots as the live number.
use Rattle.model.proofs.Laws.Refusals.{handed-on}
use Rattle.calls.proofs.Laws.Calls.{references-refused, references-counted}
use Rattle.calls.proofs.references.references.Goals as goal

pub returns-in_err-check : goal.returns-in_err-check
returns-in_err-check c = rw (handed-on c.from_residual.ensures.1) (references-refused c.check.ensures c.in_err-check.was)

pub returns : goal.returns
returns c = references-counted c.check.ensures c.in_ok-check.was
