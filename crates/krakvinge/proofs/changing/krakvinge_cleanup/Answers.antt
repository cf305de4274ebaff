-- The call's own contract, after a test of both rows.
use Rattle.std.proofs.Common.{ap, not, refl, rules}
use Rattle.model.specs.Answers.{yes_no_state}
use Rattle.host_rows.proofs.Laws.Rows.{twelve, twelve-two}
use Rattle.krakvinge.proofs.Laws.Exports.{exported_other, exported_changed}
use Rattle.krakvinge.proofs.changing.krakvinge_cleanup.Goals as goal

pub yes_no_out-requires : goal.yes_no_out-requires
yes_no_out-requires c =
    let lengths = twelve-two _ _ c.rows_fit.ensures (ap not c.if-not-rows_fit.false) in
    (lengths.0, lengths.1, c.state_in-before.ensures.1)

pub returns : goal.returns
returns c = exported_changed (λ t. yes_no_state t c.cleanup-done.result) _ c.rows_fit.ensures (ap not c.if-not-rows_fit.false)
    c.state_in-before.ensures.0 c.cleanup-done.ensures (record { nodes = refl; dots = refl; rects = refl }) c.yes_no_out.ensures.0 c.yes_no_out.ensures.1

pub returns-then-not-rows_fit : goal.returns-then-not-rows_fit
returns-then-not-rows_fit c = search (rules, exported_other)

pub state_in-before-requires : goal.state_in-before-requires
state_in-before-requires c = search (rules, twelve)
