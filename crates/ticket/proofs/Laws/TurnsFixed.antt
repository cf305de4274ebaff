-- A turn leaves nothing open but whether its answer was written.
--     turn_fixed   two exits of one turn leave the same rows
use Rattle.std.specs.Prelude.{◌≡◌, refl, List, ℕ}
use Rattle.std.proofs.Common.{ap, sym, ◌∙◌}
use Rattle.model.specs.declared.State.{State}
use Rattle.lines.specs.Reading.{Output}
use Rattle.ticket.specs.First.{Start, after_start}
use Rattle.ticket.proofs.Laws.Fixed.{TreeOrNone, answered_fixed, turned_fixed, started_fixed}
use Rattle.ticket.specs.declared.Program.{Program}
use Rattle.ticket.specs.declared.Program.TheVariants as program
use Rattle.ticket.specs.declared.Phase.{Phase}
use Rattle.ticket.specs.declared.Phase.TheVariants as phase
use Rattle.ticket.specs.Turns.{Lent, lent, world_of, output_of, LaterAnswer, Turn}

same-lent : {s₁ s₂ : State} (l₁ l₂ : Lent) → world_of s₁ l₁ ≡ world_of s₂ l₂ → l₁.row ≡ l₂.row → l₁.out ≡ l₂.out → l₁ ≡ l₂
same-lent l₁ l₂ e row out = λ i. lent (e i).nodes (e i).dots (e i).rects (e i).marks (row i) (out i)

module _ (l : Lent) (line : List ℕ) (l₁ l₂ : Lent) where
  later_fixed : (p : Program) (s : State) → TreeOrNone (world_of s l) → (r₁ r₂ : Start) → LaterAnswer p s l line r₁ l₁ → LaterAnswer p s l line r₂ l₂
      → l₁ ≡ l₂
  later_fixed program.Dotcheck s tree? r₁ r₂ m n =
      let o = output_of l l₁ r₁.next in
      let q = output_of l l₂ r₂.next in
      let same = answered_fixed (world_of s l) l.row line tree? (world_of (after_start s r₁) l₁) (world_of (after_start s r₂) l₂) l₁.row l₂.row o q refl
      m.1 n.1 in
      same-lent l₁ l₂ same.0 same.1 (ap (λ (x : Output). x.after) same.2)
  later_fixed program.Gridreport s tree? r₁ r₂ m n =
      let o = output_of l l₁ r₁.next in
      let q = output_of l l₂ r₂.next in
      let same = turned_fixed (world_of s l) l.row line tree? r₁ r₂ (world_of (after_start s r₁) l₁) (world_of (after_start s r₂) l₂) l₁.row l₂.row o q
      refl m n in
      same-lent l₁ l₂ same.1 same.2 (ap (λ (x : Output). x.after) same.3)

  -- s: any state, where there is none yet
  pub turn_fixed : (p : Program) (s : State) (q : Phase) → ((t : State) → TreeOrNone (world_of t l)) → (q₁ q₂ : Phase)
      → Turn p q l line q₁ l₁ → Turn p q l line q₂ l₂ → l₁ ≡ l₂
  turn_fixed p s phase.First tree? q₁ q₂ t u =
      let m = t.taken in
      let n = u.taken in
      let same = started_fixed (world_of s l) m.says n.says (world_of (after_start s m.says) l₁) (world_of (after_start s n.says) l₂)
      (output_of l l₁ m.says.next) (output_of l l₂ n.says.next) refl line (m.answer s) (n.answer s) in
      same-lent l₁ l₂ same.1 (m.row ∙ sym n.row) (ap (λ (x : Output). x.after) same.2)
  turn_fixed p s (phase.Going t) tree? q₁ q₂ m n = later_fixed p t (tree? t) m.taken.says n.taken.says m.taken.answer n.taken.answer
  turn_fixed p s phase.Ended tree? q₁ q₂ m n = m.taken.1 ∙ sym n.taken.1
  turn_fixed p s phase.Failed tree? q₁ q₂ m n = m.taken.1 ∙ sym n.taken.1
