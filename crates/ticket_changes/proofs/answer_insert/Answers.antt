-- Insert's answer, by its cases, and the line written for it.
use Rattle.std.proofs.Common.{rules}
use Rattle.ticket.proofs.Laws.Replies.{insert-refused, inserted}
use Rattle.ticket_changes.proofs.answer_insert.Goals as goal

pub returns-in-Err : goal.returns-in-Err
returns-in-Err c = search (rules, insert-refused)

pub returns-in-Ok : goal.returns-in-Ok
returns-in-Ok c = search (rules, inserted)
