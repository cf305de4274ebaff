-- The check, then the ask without it.
use Rattle.model.proofs.Laws.Refusals.{handed-on}
use Rattle.calls.proofs.Laws.Calls.{ask-refused, ask-answered}
use Rattle.calls.proofs.ask.ask.Goals as goal

pub returns-in_err-check : goal.returns-in_err-check
returns-in_err-check c = rw (handed-on c.from_residual.ensures.1) (ask-refused c.check.ensures _ c.in_err-check.was)

pub returns : goal.returns
returns c = ask-answered c.check.ensures _ c.in_ok-check.was c.ask_dot.ensures
