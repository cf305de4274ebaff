-- Cleanup's answer, by its cases, and the line written for it.
use Rattle.std.proofs.Common.{rules}
use Rattle.ticket.proofs.Laws.Replies.{cleanup-refused, cleaned, not-cleaned}
use Rattle.ticket_changes.proofs.answer_cleanup.Goals as goal

pub returns-in-Err : goal.returns-in-Err
returns-in-Err c = search (rules, cleanup-refused)

pub returns-in-Ok-Some : goal.returns-in-Ok-Some
returns-in-Ok-Some c = search (rules, cleaned)

pub returns-in-Ok-None : goal.returns-in-Ok-None
returns-in-Ok-None c = search (rules, not-cleaned)
