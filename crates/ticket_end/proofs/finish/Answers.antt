-- The kept bytes are turned if they are a line.
use Rattle.std.proofs.Common.{rules}
use Rattle.ticket_end.proofs.Laws.End.{finish-last, finish-none}
use Rattle.ticket_end.proofs.finish.Goals as goal

pub returns-then-is_left : goal.returns-then-is_left
returns-then-is_left g c = search (rules, finish-last)

pub returns-else-is_left : goal.returns-else-is_left
returns-else-is_left g c = search (rules, finish-none)
