-- A row of another length, or the check.
use Rattle.krakvinge.proofs.Laws.Exports.{check_other, check_row, check_refused}
use Rattle.krakvinge.proofs.asking.krakvinge_check.Goals as goal

pub returns-then-state-ne12 : goal.returns-then-state-ne12
returns-then-state-ne12 c = rw c.refused.ensures (check_other _ _ _ _ _ c.if-state-ne12.true)

pub returns-in-Ok : goal.returns-in-Ok
returns-in-Ok c = check_row _ _ _ _ _ _ _ _ c.if-state-ne12.false c.state_in-before.ensures.0 (rw c.in-Ok.is at c.check.ensures)

pub returns-in-Err : goal.returns-in-Err
returns-in-Err c =
    let found = rw c.in-Err.is at c.check.ensures in
    check_refused _ _ _ _ _ _ _ _ _ c.if-state-ne12.false c.state_in-before.ensures.0 found c.refused-in-Err.ensures
