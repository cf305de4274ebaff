-- Reads, one after another.
--     chunk_start, chunk_line, chunk_part, chunk_end       the loop over the lines of a read's bytes
--     reading-start, reading-on, reading-over, no_end      one read after another, and the last
use Rattle.std.specs.Prelude.{◌≡◌, refl, Bool, true, false, Option, Some, None, List, [], ◌∷◌, ◌++◌, map, ℕ, ◌≤◌, length, take, drop}
use Rattle.std.proofs.Common.{ap, sym, subst, ◌∙◌, arith}
use Rattle.std.proofs.Math.Seq.{drop-length}
use Rattle.arithmetic.proofs.Laws.Tests.{true_false}
use Rattle.line_reader.specs.declared.Found.{Found}
use Rattle.line_reader.specs.Cut.{lines, last_line, joined, progress, read_bytes, hand_out}
use Rattle.line_reader.specs.Steps.{Finds}
use Rattle.line_reader.proofs.Laws.Cut.{handed-more, handed_out}
use Rattle.line_reader.proofs.Laws.Steps.{finds-reads, line-inside}
use Rattle.ticket.specs.declared.Program.{Program}
use Rattle.ticket.specs.declared.Phase.{Phase}
use Rattle.ticket.specs.declared.Phase.TheVariants as phase
use Rattle.ticket.specs.Turns.{is_over, Lent, Turn, Turns, over}
use Rattle.ticket.proofs.Laws.Turns.{turns-append, turns_more, turns-over, never_first, turns-told}
use Rattle.ticket_end.specs.declared.Progress.{Progress}
use Rattle.ticket_end.specs.End.{left_over, Finished}
use Rattle.ticket_end.proofs.Laws.End.{end_over}
use Rattle.ticket_io.specs.Reading.{Chunked, ReadAnswered, some, none, failed, ReadOn, Reading, ticket_lines, AllAnswered}

-- ---- the lines of a read's bytes

-- on the way: the lines before a place are answered
pub record Chunking (p : Program) (from : Phase) (begun bytes : List ℕ) (room : ℕ) (l : Lent) (q : Phase) (kept at : ℕ) (line : List ℕ) (l' : Lent)
    : Type 0 where
  pub whole : List (List ℕ)
  pub cut : read_bytes hand_out room (progress [] begun) bytes ≡ read_bytes hand_out room (progress whole (take kept line)) (drop at bytes)
  pub turns : Turns p from l whole q l'
  pub within : kept ≤ length line
  pub inside : at ≤ length bytes
  pub same_length : length line ≡ room

pub chunk_start : (p : Program) (from : Phase) (kept : ℕ) (line bytes : List ℕ) (l : Lent) → kept ≤ length line
    → Chunking p from (take kept line) bytes (length line) l from kept 0 line l
chunk_start p from kept line bytes l fits =
    record { whole = []; cut = refl; turns = over; within = fits; inside = omega arith; same_length = refl }

module _ {p : Program} {from : Phase} {begun bytes : List ℕ} {room : ℕ} {l : Lent} {q : Phase} {kept at : ℕ} {line : List ℕ} {k : Lent}
    (so_far : Chunking p from begun bytes room l q kept at line k) where
  pub chunk_line : {r : Found} {next : ℕ} {line' : List ℕ} {p' : Program} {q' : Phase} {l' : Lent} → r.next ≡ Some next → Finds line kept bytes at line' r
      → length line' ≡ length line → p' ≡ p → Turn p' q k (take r.count line') q' l' → Chunking p from begun bytes room l q' 0 next line' l'
  chunk_line {r} {next} {line'} e f same program t =
      let step = finds-reads hand_out so_far.whole line kept bytes at line' r f in
      record {
        whole = so_far.whole ++ (take r.count line' ∷ []);
        cut = so_far.cut ∙ (rw so_far.same_length at rw e at step);
        turns = turns_more so_far.turns (rw program at t);
        within = omega arith;
        inside = line-inside e f;
        same_length = same ∙ so_far.same_length;
      }

  pub chunk_part : {r : Found} {line' : List ℕ} → r.next ≡ None → Finds line kept bytes at line' r
      → Chunked p from begun bytes room l (record { phase = q; kept = r.count }) line' k
  chunk_part {r} {line'} e f =
      let step = finds-reads hand_out so_far.whole line kept bytes at line' r f in
      record { whole = so_far.whole; cut = so_far.cut ∙ (rw so_far.same_length at rw e at step); turns = so_far.turns; within = f.within }

  pub chunk_end : length bytes ≤ at → Chunked p from begun bytes room l (record { phase = q; kept = kept }) line k
  chunk_end all =
      let end : at ≡ length bytes = omega (arith, so_far.inside) in
      let none : drop at bytes ≡ [] = rw end (drop-length bytes) in
      record {
        whole = so_far.whole;
        cut = so_far.cut ∙ ap (read_bytes hand_out room (progress so_far.whole (take kept line))) none;
        turns = so_far.turns;
        within = so_far.within;
      }

-- ---- one read after another

pub reading-start : (p : Program) (room : ℕ) (line : List ℕ) (l : Lent) → Reading p room l (record { phase = phase.First; kept = 0 }) line l
reading-start p room line l = record { pieces = []; whole = []; cut = refl; turns = over }

-- what is left over at the input's end, after the lines that are answered
left-lines : {p : Program} {l : Lent} (from : Phase) {k : Lent} (ls : List (List ℕ)) (kept : List ℕ) → Turns p phase.First l ls from k
    → ticket_lines (ls ++ last_line kept) ≡ ls ++ left_over from kept
left-lines from [] [] over = refl
left-lines from [] (b ∷ bs) over = refl
left-lines phase.First (x ∷ xs) kept ts = absurd (never_first ts)
left-lines (phase.Going s) (x ∷ xs) kept ts = refl
left-lines phase.Ended (x ∷ xs) kept ts = refl
left-lines phase.Failed (x ∷ xs) kept ts = refl

kept-ticket : (ls : List (List ℕ)) → ticket_lines (map (take 81) ls) ≡ map (take 81) (ticket_lines ls)
kept-ticket [] = refl
kept-ticket (l ∷ ls) = refl

abbrev is_failed : Phase → Bool
is_failed phase.First = false
is_failed (phase.Going s) = false
is_failed phase.Ended = false
is_failed phase.Failed = true

-- a run that failed has no end
pub no_end : {X : Type 0} → phase.Failed ≡ phase.Ended → X
no_end e = true_false (ap is_failed e)

-- all lines of the pieces, and the end
reading-ends : {p : Program} {l : Lent} {from : Progress} {line : List ℕ} {k : Lent} → Reading p 81 l from line k
    → {l' : Lent} → Finished p from.phase (take from.kept line) k phase.Ended l' → AllAnswered p l l'
reading-ends {p} {l} {from} {line} {k} so_far {l'} f =
    let kept = take from.kept line in
    let qs = so_far.pieces in
    let all : map (take 81) (ticket_lines (lines (joined qs))) ≡ so_far.whole ++ left_over from.phase kept =
    sym (kept-ticket (lines (joined qs))) ∙ ap ticket_lines (handed_out 81 (omega arith) qs so_far.cut)
    ∙ left-lines from.phase so_far.whole kept so_far.turns in
    let done = turns-append so_far.turns f.turns in
    record {
      pieces = qs;
      last = f.last;
      turns = turns-told (ticket_lines (lines (joined qs)))
          (subst (λ (ls : List (List ℕ)). Turns p phase.First l ls f.last l') (sym all) done);
      ends = sym f.ends;
    }

module _ {p : Program} {l : Lent} {from : Progress} {line : List ℕ} {k : Lent} (so_far : Reading p 81 l from line k) (room : length line ≡ 81)
    {to : Progress} {line' : List ℕ} {l' : Lent} where
  reading-more : (bytes : List ℕ) → Chunked p from.phase (take from.kept line) bytes (length line) k to line' l' → Reading p 81 l to line' l'
  reading-more bytes c =
      let begun = take from.kept line in
      let cut = subst (λ (n : ℕ). read_bytes hand_out n (progress [] begun) bytes ≡ progress c.whole (take to.kept line')) room c.cut in
      record {
        pieces = so_far.pieces ++ (bytes ∷ []);
        whole = so_far.whole ++ c.whole;
        cut = handed-more 81 so_far.pieces bytes so_far.cut cut;
        turns = turns-append so_far.turns c.turns;
      }

  module _ {got : Option ℕ} {buffer : List ℕ} where
    answered-on : ReadAnswered p from got line k buffer to line' l' → is_over to.phase ≡ false → Reading p 81 l to line' l'
    answered-on (some count is any c) going = reading-more (take count buffer) c
    answered-on (none is f) going = true_false (sym (ap is_over f.ends ∙ end_over f.last) ∙ going)
    answered-on (failed is e kept) going = true_false (sym (ap is_over e) ∙ going)

    answered-over : ReadAnswered p from got line k buffer to line' l' → to.phase ≡ phase.Ended → AllAnswered p l l'
    answered-over (some count is any c) e =
        let ended : Finished p to.phase (take to.kept line') l' phase.Ended l' =
        rw e (record { last = phase.Ended; turns = turns-over l' (last_line (take to.kept line')); ends = refl }) in
        reading-ends (reading-more (take count buffer) c) ended
    answered-over (none is f) e = reading-ends so_far (rw e at f)
    answered-over (failed is broken kept) e = no_end (sym broken ∙ e)

  module _ {buffer : List ℕ} {p' : Program} (program : p' ≡ p) (read : ReadOn p' from line k buffer to line' l') where
    same-read : ReadOn p from line k buffer to line' l'
    same-read = rw program at read

    pub reading-on : is_over to.phase ≡ false → Reading p 81 l to line' l'
    reading-on going = answered-on same-read.answered going

    pub reading-over : to.phase ≡ phase.Ended → AllAnswered p l l'
    reading-over e = answered-over same-read.answered e
