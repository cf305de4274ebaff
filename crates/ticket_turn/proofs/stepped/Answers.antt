-- The answer leads on, or all answers break off.
use Rattle.std.proofs.Common.{rules}
use Rattle.ticket.specs.Turns.{breaks_off}
use Rattle.ticket.proofs.Laws.Turns.{goes_on, goes_end}
use Rattle.ticket_turn.proofs.stepped.Goals as goal

pub returns-in-Some-Some : goal.returns-in-Some-Some
returns-in-Some-Some g c = search (rules, goes_on)

pub returns-in-Some-None : goal.returns-in-Some-None
returns-in-Some-None g c = search (rules, goes_end)

pub returns-in-None-default : goal.returns-in-None-default
returns-in-None-default g c = breaks_off
