-- The call's own contract, after a test of the three rows.
use Rattle.std.proofs.Common.{ap, not, rules}
use Rattle.model.specs.Answers.{change_state}
use Rattle.host_rows.proofs.Laws.Tickets.{ticket-lengths}
use Rattle.krakvinge.proofs.Laws.Exports.{exported_other, exported_changed}
use Rattle.krakvinge.proofs.ticketing.krakvinge_place.Goals as goal

pub state_in-before-requires : goal.state_in-before-requires
state_in-before-requires c = (ticket-lengths _ _ _ c.ticket_fits.ensures (ap not c.if-not-ticket_fits.false)).state_fits

pub ticket_in-given-requires : goal.ticket_in-given-requires
ticket_in-given-requires c = (ticket-lengths _ _ _ c.ticket_fits.ensures (ap not c.if-not-ticket_fits.false)).ticket_fits

pub change_out-requires : goal.change_out-requires
change_out-requires c =
    let lengths = ticket-lengths _ _ _ c.ticket_fits.ensures (ap not c.if-not-ticket_fits.false) in
    (lengths.state_fits, lengths.answer_fits)

pub returns : goal.returns
returns c =
    let said = rw c.ticket_in-given.ensures at c.place-done.ensures.obeys in
    exported_changed (λ t. change_state t c.place-done.result) _ c.ticket_fits.ensures (ap not c.if-not-ticket_fits.false)
    c.state_in-before.ensures.0 said (search rules) c.change_out.ensures.0 c.change_out.ensures.1

pub returns-then-not-ticket_fits : goal.returns-then-not-ticket_fits
returns-then-not-ticket_fits c = search (rules, exported_other)
