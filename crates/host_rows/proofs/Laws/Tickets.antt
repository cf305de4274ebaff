-- Laws of a ticket as a row.
--     ticket-back  a ticket's words are that ticket
--     ticket-lengths       what the code's test of the lengths says
use Rattle.std.specs.Prelude.{◌≡◌, refl, List, [], ◌∷◌, Bool, false, not, ◌&&◌, ℕ, eqb, length, set}
use Rattle.std.proofs.Common.{arith, SFits, eqb-true}
use Rattle.std.specs.Int.{w32}
use Rattle.arithmetic.proofs.Laws.Linear.{and_t}
use Rattle.words.specs.Words.{word_of}
use Rattle.words.proofs.Laws.Words.{signed_word, wide-words}
use Rattle.geometry.specs.declared.aabb.AABB.{AABB}
use Rattle.model.specs.declared.Dot.{Dot}
use Rattle.model.specs.declared.Ticket.{Ticket}
use Rattle.host_rows.specs.Rows.{dot_in, with_wide}
use Rattle.host_rows.specs.Tickets.{ticket_in, with_dot, ticket_words, ticket_fits}
use Rattle.host_rows.proofs.Laws.Rows.{fit}

-- six stores, four of them by `word_of`

-- the coordinates are i32
pub record Fits32 (r : AABB) : Type 0 where
  pub x1 : SFits w32 r.x1
  pub y1 : SFits w32 r.y1
  pub x2 : SFits w32 r.x2
  pub y2 : SFits w32 r.y2

pub ticket-back : (t : Ticket) → Fits32 t.dot.rect → ticket_in (ticket_words t) ≡ t
unfolding ticket_in dot_in
ticket-back t f =
    let r = t.dot.rect in
    λ i. record {
      dot = record {
        id = t.dot.id;
        rect = record {
          x1 = signed_word r.x1 f.x1 i;
          y1 = signed_word r.y1 f.y1 i;
          x2 = signed_word r.x2 f.x2 i;
          y2 = signed_word r.y2 f.y2 i;
        };
        ink = t.dot.ink;
      };
      changes = wide-words t.changes i;
    }

-- the lengths
pub record TicketRows (state answer ticket : List ℕ) : Type 0 where
  pub state_fits : length state ≡ 12
  pub answer_fits : length answer ≡ 2
  pub ticket_fits : length ticket ≡ 8

pub ticket-lengths : (state answer ticket : List ℕ) {b : Bool} → b ≡ ticket_fits state answer ticket → not b ≡ false → TicketRows state answer ticket
unfolding ticket_fits
ticket-lengths state answer ticket test n =
    let all = and_t (eqb (length state) 12 && eqb (length answer) 2) (eqb (length ticket) 8) (fit test n) in
    let both = and_t (eqb (length state) 12) (eqb (length answer) 2) all.0 in
    record { state_fits = eqb-true _ _ both.0; answer_fits = eqb-true _ _ both.1; ticket_fits = eqb-true _ _ all.1 }
