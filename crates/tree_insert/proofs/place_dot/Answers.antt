-- A stale ticket is refused, any other is the insert of its dot.
use Rattle.std.proofs.Common.{rules}
use Rattle.tree_insert.proofs.Laws.Answers.{place-stale, place-fresh}
use Rattle.tree_insert.proofs.place_dot.Goals as goal

pub returns-then-ticket-state : goal.returns-then-ticket-state
returns-then-ticket-state c = search (rules, place-stale)

pub returns : goal.returns
returns c = search (rules, place-fresh)
