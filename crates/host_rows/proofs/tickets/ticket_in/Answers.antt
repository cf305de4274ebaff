-- The dot, and the count after it.
use Rattle.host_rows.specs.Tickets.{ticket_in}
use Rattle.host_rows.proofs.tickets.ticket_in.Goals as goal

pub returns : goal.returns
unfolding ticket_in
returns c = λ i. record { dot = c.dot_in-dot.ensures i; changes = c.wide_in-changes.ensures.0 i }
