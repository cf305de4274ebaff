-- The call's own contract, after a test of both rows.
use Rattle.std.proofs.Common.{ap, not, rules}
use Rattle.model.specs.Answers.{yes_no_state}
use Rattle.host_rows.proofs.Laws.Rows.{twelve, twelve-two, told}
use Rattle.krakvinge.proofs.Laws.Exports.{exported_other, exported_changed}
use Rattle.krakvinge.proofs.changing.krakvinge_remove.Goals as goal

pub yes_no_out-requires : goal.yes_no_out-requires
yes_no_out-requires c =
    let lengths = twelve-two _ _ c.rows_fit.ensures (ap not c.if-not-rows_fit.false) in
    (lengths.0, lengths.1, c.state_in-before.ensures.1)

pub returns : goal.returns
returns c =
    let f = c.ranges in
    let said = rw (told f.x1 f.y1 f.x2 f.y2) at c.remove-done.ensures.obeys in
    exported_changed (λ t. yes_no_state t c.remove-done.result) _ c.rows_fit.ensures (ap not c.if-not-rows_fit.false)
    c.state_in-before.ensures.0 said (search rules) c.yes_no_out.ensures.0 c.yes_no_out.ensures.1

pub returns-then-not-rows_fit : goal.returns-then-not-rows_fit
returns-then-not-rows_fit c = search (rules, exported_other)

pub state_in-before-requires : goal.state_in-before-requires
state_in-before-requires c = search (rules, twelve)
