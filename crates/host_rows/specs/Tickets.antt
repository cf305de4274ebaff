-- A ticket as a row of eight words (§18.10).
--     ticket_in     the ticket in a row
--     with_dot, ticket_words a row with the words of a dot; the words of a ticket
--     ticket_row    the ticket row after an ask
--     ticket_fits   a ticket row of eight words beside the others
use Rattle.std.specs.Prelude.{List, [], ◌∷◌, Bool, ◌&&◌, ℕ, eqb, length, set}
use Rattle.words.specs.Words.{word_of, low_word, high_word}
use Rattle.model.specs.declared.Dot.{Dot}
use Rattle.model.specs.declared.Ticket.{Ticket}
use Rattle.model.specs.declared.answers.Asked.{Asked}
use Rattle.model.specs.Calls.{Reply, refused, too_many, answered}
use Rattle.host_rows.specs.Rows.{dot_in, wide_in}

unfoldable pub ticket_in : List ℕ → Ticket
ticket_in row = record { dot = dot_in row 0; changes = wide_in row 6 }

-- a row that begins with the six words of a dot
abbrev pub with_dot : Dot → List ℕ → List ℕ
with_dot d row =
    let r = d.rect in
    set (set (set (set (set (set row 0 d.id) 1 (word_of r.x1)) 2 (word_of r.y1)) 3 (word_of r.x2)) 4 (word_of r.y2)) 5 d.ink

abbrev pub ticket_words : Ticket → List ℕ
ticket_words t =
    let r = t.dot.rect in
    t.dot.id ∷ word_of r.x1 ∷ word_of r.y1 ∷ word_of r.x2 ∷ word_of r.y2 ∷ t.dot.ink ∷ low_word t.changes ∷ high_word t.changes ∷ []

abbrev pub ticket_row : Reply Asked → List ℕ → List ℕ
ticket_row (refused k) row = row
ticket_row (too_many n) row = row
ticket_row (answered a) row = ticket_words a.ticket

unfoldable pub ticket_fits : List ℕ → List ℕ → List ℕ → Bool
ticket_fits state answer ticket = eqb (length state) 12 && eqb (length answer) 2 && eqb (length ticket) 8
