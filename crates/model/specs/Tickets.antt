-- Ask, and place by ticket (§21).
--     ask_rule, place_rule   what the calls do with a tree
--     Ask, Place   the calls on any lent words
use Rattle.std.specs.Prelude.{[], true, cond, ℕ, eqb}
use Rattle.model.specs.declared.Dot.{Dot}
use Rattle.model.specs.declared.Ticket.{Ticket}
use Rattle.model.specs.declared.answers.Asked.{Asked}
use Rattle.model.specs.Shapes.{Shape, splits_needed}
use Rattle.model.specs.Layout.{World}
use Rattle.model.specs.Calls.{Reply, Verdict, refuse, overflow, accept, exit, Obeys, insert_rule}

-- §21.3: what an accepted ask answers
abbrev pub asked_of : Dot → Shape → Asked
asked_of dot x = record { splits = splits_needed dot x; ticket = record { dot = dot; changes = x.changes } }

-- §21.3: it is refused as the insert is; else it leaves the tree as it is
abbrev pub told : Dot → Shape → Verdict ℕ ℕ → Verdict ℕ Asked
told dot x (refuse k) = refuse k
told dot x (overflow n) = overflow n
told dot x (accept y row splits) = accept x [] (asked_of dot x)

unfoldable pub ask_rule : Dot → Shape → Verdict ℕ Asked
ask_rule dot x = told dot x (insert_rule dot x)

-- §21.4: 15 where the ticket's count is not that of the state; else the insert of its dot
unfoldable pub place_rule : Ticket → Shape → Verdict ℕ ℕ
place_rule t x = cond (eqb t.changes x.changes) (insert_rule t.dot x) (refuse 15)

unfoldable pub Ask : World → Dot → World → Reply Asked → Type 0
Ask w dot w' reply = Obeys true (ask_rule dot) w [] (exit w' [] reply)

unfoldable pub Place : World → Ticket → World → Reply ℕ → Type 0
Place w t w' reply = Obeys true (place_rule t) w [] (exit w' [] reply)
