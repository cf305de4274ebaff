-- Query's answer, by its cases, and the line written for it.
use Rattle.std.proofs.Common.{rules}
use Rattle.ticket.proofs.Laws.Replies.{query-refused, listed}
use Rattle.ticket_queries.proofs.answer_listing.Goals as goal

pub returns-in-Err : goal.returns-in-Err
returns-in-Err c = search (rules, query-refused)

pub returns-in-Ok : goal.returns-in-Ok
returns-in-Ok c = search (rules, listed)
