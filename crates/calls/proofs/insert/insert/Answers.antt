-- The check, then the insert without it.
use Rattle.model.proofs.Laws.Refusals.{handed-on}
use Rattle.calls.proofs.Laws.Pattern.{checked-shared}
use Rattle.calls.proofs.Laws.Calls.{insert-refused, insert-answered}
use Rattle.calls.proofs.insert.insert.Goals as goal

pub returns-in_err-check-clause-obeys : goal.returns-in_err-check-clause-obeys
returns-in_err-check-clause-obeys c =
    let found = checked-shared c.shared.ensures c.check.ensures in
    rw (handed-on c.from_residual.ensures.1) (insert-refused found _ c.in_err-check.was)

pub returns-clause-obeys : goal.returns-clause-obeys
returns-clause-obeys c =
    let found = checked-shared c.shared.ensures c.check.ensures in
    insert-answered found _ c.in_ok-check.was c.insert_dot.ensures.carried_out
