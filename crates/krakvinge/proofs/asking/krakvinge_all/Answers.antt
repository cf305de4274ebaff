-- The call's own contract, after a test of both rows.
use Rattle.std.proofs.Common.{ap, not, refl, rules}
use Rattle.host_rows.proofs.Laws.Rows.{twelve, two}
use Rattle.krakvinge.proofs.Laws.Exports.{exported_other, exported_read}
use Rattle.krakvinge.proofs.asking.krakvinge_all.Goals as goal

pub returns : goal.returns
returns c = exported_read _ c.rows_fit.ensures (ap not c.if-not-rows_fit.false)
    c.state_in-before.ensures c.all-done.ensures refl c.answer_out.ensures

pub returns-then-not-rows_fit : goal.returns-then-not-rows_fit
returns-then-not-rows_fit c = search (rules, exported_other)

pub state_in-before-requires : goal.state_in-before-requires
state_in-before-requires c = search (rules, twelve)

pub answer_out-requires : goal.answer_out-requires
answer_out-requires c = search (rules, two)
