-- Make's answer, by its cases, and the line written for it.
use Rattle.std.proofs.Common.{rules}
use Rattle.ticket.proofs.Laws.Replies.{make-refused, made}
use Rattle.ticket_first.proofs.answer_settings.Goals as goal

pub returns-in-Err : goal.returns-in-Err
returns-in-Err c = search (rules, make-refused)

pub returns-in-Ok : goal.returns-in-Ok
returns-in-Ok c = search (rules, made)
