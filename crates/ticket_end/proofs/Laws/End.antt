-- The input's end.
--     finish-last, finish-none     a line that is left is answered, or none is
--     end_over     no line is answered any more
use Rattle.std.specs.Prelude.{◌≡◌, refl, Bool, true, false, List, [], ◌∷◌, ℕ, ◌≤◌, length, take, ltb}
use Rattle.std.proofs.Common.{sym, subst, ◌∙◌, arith, ltb-true, ltb-false, length-take-le}
use Rattle.arithmetic.proofs.Laws.Tests.{true_false}
use Rattle.line_reader.specs.Cut.{last_line}
use Rattle.ticket.specs.declared.Program.{Program}
use Rattle.ticket.specs.declared.Phase.{Phase}
use Rattle.ticket.specs.declared.Phase.TheVariants as phase
use Rattle.ticket.specs.Turns.{is_over, Lent, Turn, Turns, over, turned}
use Rattle.ticket_end.specs.End.{left_over, is_left, end_phase, Finished}

some-last : (bytes : List ℕ) → 1 ≤ length bytes → last_line bytes ≡ bytes ∷ []
some-last [] h = absurd (omega arith)
some-last (b ∷ bs) h = refl

module _ (kept : ℕ) (line : List ℕ) where
  some_bytes : kept ≤ length line → ltb 0 kept ≡ true → last_line (take kept line) ≡ take kept line ∷ []
  some_bytes fits e = some-last (take kept line) (omega (arith, ltb-true 0 kept e, length-take-le kept line fits))

  no_bytes : ltb 0 kept ≡ false → last_line (take kept line) ≡ []
  no_bytes e = let none : kept ≡ 0 = omega (arith, ltb-false 0 kept e) in rw none refl

  left-line : (q : Phase) → kept ≤ length line → is_left q kept ≡ true → left_over q (take kept line) ≡ take kept line ∷ []
  left-line phase.First fits e = refl
  left-line (phase.Going s) fits e = some_bytes fits e
  left-line phase.Ended fits e = some_bytes fits e
  left-line phase.Failed fits e = some_bytes fits e

  left-none : (q : Phase) → is_left q kept ≡ false → left_over q (take kept line) ≡ []
  left-none phase.First e = true_false e
  left-none (phase.Going s) e = no_bytes e
  left-none phase.Ended e = no_bytes e
  left-none phase.Failed e = no_bytes e

  module _ {p : Program} {q r : Phase} {l : Lent} {left : Bool} (test : left ≡ is_left q kept) where
    -- a line that is left is turned
    pub finish-last : {m : Phase} {l' : Lent} → left ≡ true → kept ≤ length line → Turn p q l (take kept line) m l' → r ≡ end_phase m
        → Finished p q (take kept line) l r l'
    finish-last {m} {l'} taken fits t ends =
        let one = left-line q fits (sym test ∙ taken) in
        record { last = m; turns = subst (λ (ls : List (List ℕ)). Turns p q l ls m l') (sym one) (turned t over); ends = ends }

    pub finish-none : left ≡ false → r ≡ end_phase q → Finished p q (take kept line) l r l
    finish-none untaken ends =
        let none = left-none q (sym test ∙ untaken) in
        record { last = q; turns = subst (λ (ls : List (List ℕ)). Turns p q l ls q l) (sym none) over; ends = ends }

pub end_over : (q : Phase) → is_over (end_phase q) ≡ true
end_over phase.First = refl
end_over (phase.Going s) = refl
end_over phase.Ended = refl
end_over phase.Failed = refl
