-- A row of another length, or make with the state in its row.
use Rattle.std.proofs.Common.{rules}
use Rattle.krakvinge.proofs.Laws.Exports.{make_other, make-row}
use Rattle.krakvinge.proofs.changing.krakvinge_make.Goals as goal

pub returns : goal.returns
returns c = make-row _ _ _ _ _ _ _ _ _ _ _ _ c.make-done.result c.if-state-ne12.false c.settings_in-settings.ensures c.make-done.ensures.makes
    (search rules) (search rules) (search rules) c.make_out.ensures.1 c.make_out.ensures.0

pub returns-then-state-ne12 : goal.returns-then-state-ne12
returns-then-state-ne12 c = rw c.refused.ensures (make_other _ _ _ _ _ c.if-state-ne12.true)
