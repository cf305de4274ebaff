-- The call's own contract, after a test of the three rows.
use Rattle.std.proofs.Common.{ap, not, refl, rules}
use Rattle.host_rows.proofs.Laws.Rows.{told}
use Rattle.host_rows.proofs.Laws.Tickets.{ticket-lengths}
use Rattle.krakvinge.proofs.Laws.Exports.{exported_other, exported_read}
use Rattle.krakvinge.proofs.ticketing.krakvinge_ask.Goals as goal

pub state_in-before-requires : goal.state_in-before-requires
state_in-before-requires c = (ticket-lengths _ _ _ c.ticket_fits.ensures (ap not c.if-not-ticket_fits.false)).state_fits

pub ask_out-requires : goal.ask_out-requires
ask_out-requires c =
    let lengths = ticket-lengths _ _ _ c.ticket_fits.ensures (ap not c.if-not-ticket_fits.false) in
    (lengths.ticket_fits, lengths.answer_fits)

pub returns : goal.returns
returns c =
    let f = c.ranges in
    let said = rw (told f.x1 f.y1 f.x2 f.y2) at c.ask-done.ensures in
    exported_read _ c.ticket_fits.ensures (ap not c.if-not-ticket_fits.false)
    c.state_in-before.ensures (said, c.ask_out.ensures.0) refl c.ask_out.ensures.1

pub returns-then-not-ticket_fits : goal.returns-then-not-ticket_fits
returns-then-not-ticket_fits c = search (rules, exported_other)
