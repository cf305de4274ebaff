-- A turn, by the cases of the code, and turns one after another.
--     goes_on, goes_end    the phase after an answer that was written
--     turns-append, turns_more     lines and then others; a line more
--     turns-over   at the end, and after an error, any lines change nothing
--     never_first  no line leads back to the first
--     turns-told   a line is told by its first 81 bytes: a longer one than 80 is unreadable either way (§13.2)
use Rattle.std.specs.Prelude.{◌≡◌, refl, List, [], ◌∷◌, ◌++◌, map, ℕ, ◌≤◌, length, take, Option, Some, None}
use Rattle.std.proofs.Common.{ap, subst, arith}
use Rattle.std.proofs.Math.Decide.{dec_lt}
use Rattle.model.specs.declared.State.{State}
use Rattle.model.specs.Layout.{World}
use Rattle.model.proofs.Laws.Sums.{by_dec}
use Rattle.line_reader.proofs.Laws.Cut.{short-kept, long_kept}
use Rattle.lines.specs.Reading.{Output}
use Rattle.lines.specs.Lines.{LineOf}
use Rattle.lines.specs.Grids.{GridLineOf}
use Rattle.lines.specs.declared.line.Call.{Call}
use Rattle.grid.specs.declared.grid.Grid.{Grid}
use Rattle.ticket.specs.First.{Start, Started}
use Rattle.ticket.specs.Ticket.{Answered}
use Rattle.ticket.specs.Report.{TurnAnswer, Turned}
use Rattle.ticket.specs.declared.Program.{Program}
use Rattle.ticket.specs.declared.Program.TheVariants as program
use Rattle.ticket.specs.declared.Phase.{Phase}
use Rattle.ticket.specs.declared.Phase.TheVariants as phase
use Rattle.ticket.specs.Turns.{Lent, phase_of, GoesTo, leads_on, breaks_off, LaterAnswer, Turn, Turns, over, turned}

-- ---- one line

pub goes_on : {to : Option State} {s : State} → to ≡ Some s → GoesTo (phase_of to) (phase.Going s)
goes_on e = rw e leads_on

pub goes_end : {to : Option State} → to ≡ None → GoesTo (phase_of to) phase.Ended
goes_end e = rw e leads_on

-- ---- lines one after another

module _ {p : Program} where
  pub turns-append : {q m q' : Phase} {l k l' : Lent} {xs ys : List (List ℕ)} → Turns p q l xs m k → Turns p m k ys q' l' → Turns p q l (xs ++ ys) q' l'
  turns-append over u = u
  turns-append (turned t ts) u = turned t (turns-append ts u)

  pub turns_more : {q m q' : Phase} {l k l' : Lent} {xs : List (List ℕ)} {x : List ℕ} → Turns p q l xs m k → Turn p m k x q' l'
      → Turns p q l (xs ++ (x ∷ [])) q' l'
  turns_more ts t = turns-append ts (turned t over)

  pub turns-over : (l : Lent) (xs : List (List ℕ)) → Turns p phase.Ended l xs phase.Ended l
  turns-over l [] = over
  turns-over l (x ∷ xs) = turned (stays x) (turns-over l xs)
    where
      stays : (x : List ℕ) → Turn p phase.Ended l x phase.Ended l
      stays x = record { taken = (refl, refl) }

-- ---- no line leads back to the first

abbrev is_first : Phase → ℕ
is_first phase.First = 1
is_first (phase.Going s) = 0
is_first phase.Ended = 0
is_first phase.Failed = 0

goes_later : (to : Option State) {q : Phase} → GoesTo (phase_of to) q → is_first q ≡ 0
goes_later (Some s) leads_on = refl
goes_later None leads_on = refl
goes_later to breaks_off = refl

not_first : (q : Phase) {p : Program} {l : Lent} {x : List ℕ} {m : Phase} {k : Lent} → Turn p q l x m k → is_first m ≡ 0
not_first phase.First t = goes_later t.taken.says.state t.taken.goes
not_first (phase.Going s) t = goes_later t.taken.says.state t.taken.goes
not_first phase.Ended t = ap is_first t.taken.0
not_first phase.Failed t = ap is_first t.taken.0

turns-later : {p : Program} {q m : Phase} {l k : Lent} {x : List ℕ} {xs : List (List ℕ)} → Turns p q l (x ∷ xs) m k → is_first m ≡ 0
turns-later (turned {q = q} t over) = not_first q t
turns-later (turned t (turned u us)) = turns-later (turned u us)

pub never_first : {p : Program} {q : Phase} {l k : Lent} {x : List ℕ} {xs : List (List ℕ)} → Turns p q l (x ∷ xs) phase.First k → ⊥
never_first ts = omega (arith, turns-later ts)

-- ---- the first 81 bytes of a line

few : (x : List ℕ) → length (take 81 x) ≤ 80 → take 81 x ≡ x
few x h = by_dec (dec_lt 80 (length x)) (λ long. absurd (omega (arith, long_kept x long))) (λ short. short-kept x (omega arith))

line-told : (x : List ℕ) (y : Option Call) → LineOf (take 81 x) y → LineOf x y
line-told x (Some c) h = subst (λ (l : List ℕ). LineOf l (Some c)) (few x h.0) h
line-told x None h = λ short. subst (λ (l : List ℕ). LineOf l None) (short-kept x short) h short

grid_told : (x : List ℕ) (y : Option Grid) → GridLineOf (take 81 x) y → GridLineOf x y
grid_told x (Some g) h = subst (λ (l : List ℕ). GridLineOf l (Some g)) (few x h.0) h
grid_told x None h = λ short. subst (λ (l : List ℕ). GridLineOf l None) (short-kept x short) h short

answered-told : (x : List ℕ) {w w' : World} {row row' : List ℕ} {out : Output} → Answered w row (take 81 x) w' row' out → Answered w row x w' row' out
answered-told x a = record { says = a.says; is = line-told x a.says a.is; answer = a.answer }

started-told : (x : List ℕ) {w w' : World} {r : Start} {out : Output} → Started w (take 81 x) r w' out → Started w x r w' out
started-told x a = record { says = a.says; is = line-told x a.says a.is; answer = a.answer }

module _ (x : List ℕ) (w : World) (row : List ℕ) (r : Start) (w' : World) (row' : List ℕ) (out : Output) where
  turn-told : (y : Option Grid) → TurnAnswer w row (take 81 x) y r w' row' out → TurnAnswer w row x y r w' row' out
  turn-told (Some g) a = a
  turn-told None a = (a.0, answered-told x a.1)

  turned-told : Turned w row (take 81 x) r w' row' out → Turned w row x r w' row' out
  turned-told t = record { says = t.says; is = grid_told x t.says t.is; answer = turn-told t.says t.answer }

later-told : (x : List ℕ) (p : Program) (s : State) (l : Lent) (r : Start) (l' : Lent) → LaterAnswer p s l (take 81 x) r l' → LaterAnswer p s l x r l'
later-told x program.Dotcheck s l r l' a = (a.0, answered-told x a.1)
later-told x program.Gridreport s l r l' a = turned-told x _ _ _ _ _ _ a

line-turn : (x : List ℕ) (q : Phase) {p : Program} {l : Lent} {m : Phase} {k : Lent} → Turn p q l (take 81 x) m k → Turn p q l x m k
line-turn x phase.First t =
    let u = t.taken in
    record { taken = record { says = u.says; answer = λ before. started-told x (u.answer before); row = u.row; goes = u.goes } }
line-turn x (phase.Going s) {p} {l} {k = k} t =
    let u = t.taken in record { taken = record { says = u.says; answer = later-told x p s l u.says k u.answer; goes = u.goes } }
line-turn x phase.Ended t = record { taken = t.taken }
line-turn x phase.Failed t = record { taken = t.taken }

pub turns-told : {p : Program} {q q' : Phase} {l l' : Lent} (xs : List (List ℕ)) → Turns p q l (map (take 81) xs) q' l' → Turns p q l xs q' l'
turns-told [] over = over
turns-told (x ∷ xs) (turned {q = q} t ts) = turned (line-turn x q t) (turns-told xs ts)
