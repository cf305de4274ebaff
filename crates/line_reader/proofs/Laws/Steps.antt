-- Laws of the steps.
--     keep_all-take, kept-bytes    more bytes of a line
--     found-line, found-part       the bytes to the end of the line, or to their own
--     line-inside  the bytes after a line
--     finds-reads  THE LINK: what a caller makes of an answer is what the reader does, for any turn
--     finds_fixed  an answer and the row are fixed by what was given
use Rattle.std.specs.Prelude.{◌≡◌, refl, List, [], ◌∷◌, ◌++◌, Bool, true, false, ℕ, zero, suc, ◌+◌, ◌-◌, ◌≤◌, ◌<◌, min, eqb, ltb, Option, Some, None}
use Rattle.std.specs.Prelude.{length, take, drop, get_or}
use Rattle.std.proofs.Common.{ap, ap₂, sym, ◌∙◌, arith, append-nil, append_assoc, length-append, length-take, length-drop, take-append-drop}
use Rattle.std.proofs.Common.{length-take-le, take_all, drop-drop, ltb-false}
use Rattle.std.proofs.Math.Seq.{take-append-add}
use Rattle.std.proofs.lemmas.List.{take_min}
use Rattle.std.proofs.lemmas.List.Sums.{fails_before_first}
use Rattle.std.proofs.lemmas.List.Quantifiers.{position-Some}
use Rattle.std.specs.List.{position, position_or_len}
use Rattle.std.proofs.lemmas.Slice.{take-put_mid, drop-put_mid}
use borrow.Rule.Slice.PartMut.{put_mid}
use Rattle.arithmetic.proofs.Laws.Tests.{true_false, by_bool}
use Rattle.line_reader.specs.declared.Found.{Found}
use Rattle.line_reader.specs.Cut.{keep, keep_all, Progress, progress, read_bytes, Scan, whole, part, scan}
use Rattle.line_reader.proofs.Laws.Cut.{keep-take, after_scan, read-scan}
use Rattle.line_reader.specs.Steps.{Kept, GoesOn, scan_of, Finds}

-- ---- more bytes

-- what is kept is the first bytes, as many as there is room for
keep_all-take : (room : ℕ) (u bs : List ℕ) → keep_all room (take room u) bs ≡ take room (u ++ bs)
keep_all-take room u [] = ap (take room) (sym (append-nil u))
keep_all-take room u (b ∷ bs) =
    ap (λ (l : List ℕ). keep_all room l bs) (keep-take room u b) ∙ keep_all-take room (u ++ (b ∷ [])) bs
    ∙ ap (take room) (append_assoc u (b ∷ []) bs)

-- a part of the row is written with the first of the bytes
pub kept-bytes : {row bytes part : List ℕ} {kept count size : ℕ} → kept ≤ length row → count ≡ min (length row - kept) (length bytes)
    → size ≡ count → part ≡ take count bytes → Kept row kept bytes (put_mid kept size row part) (kept + count)
kept-bytes {row} {bytes} {part} {kept} {count} {size} fits few same e =
    let long : length part ≡ count = omega (arith, ap length e, length-take count bytes) in
    let front : take (kept + count) (put_mid kept size row part) ≡ take kept row ++ part =
    take-put_mid kept size row part (kept + count) (omega arith) fits in
    let some : length (take kept row) ≡ kept = length-take-le kept row fits in
    let own : take (length row) (take kept row) ≡ take kept row = take_all (length row) (take kept row) (omega arith) in
    let room : length (take kept row) + (length row - kept) ≡ length row = omega arith in
    let all : take (length row) (take kept row ++ bytes) ≡ take kept row ++ take (length row - kept) bytes =
    rw room at (take-append-add (take kept row) bytes (length row - kept)) in
    record {
      within = let whole = length-take (kept + count) (put_mid kept size row part) in omega (arith, ap length front, whole, length-append (take kept row) part);
      holds = front ∙ ap (λ (l : List ℕ). take kept row ++ l) (e ∙ ap (λ (n : ℕ). take n bytes) few ∙ take_min (length row - kept) bytes) ∙ sym all
          ∙ sym (keep_all-take (length row) (take kept row) bytes) ∙ ap (λ (l : List ℕ). keep_all (length row) l bytes) own;
      rest = drop-put_mid kept size row part (kept + count) (omega arith) fits (omega arith);
    }

-- ---- the bytes from a place on

-- the first LF ends the line
scan-line : (room : ℕ) (kept rest : List ℕ) (i : ℕ) → i < length rest → eqb (get_or rest i 0) 10 ≡ true
    → ((k : ℕ) → k < i → eqb (get_or rest k 0) 10 ≡ false) → scan room kept rest ≡ whole (keep_all room kept (take i rest)) (drop (suc i) rest)
scan-line room kept [] i h e f = absurd (omega arith)
scan-line room kept (b ∷ bs) zero h e f = rw e refl
scan-line room kept (b ∷ bs) (suc i) h e f =
    rw (f zero (omega arith)) (scan-line room (keep room kept b) bs i (omega arith) e (λ k l. f (suc k) (omega arith)))

scan-part : (room : ℕ) (kept rest : List ℕ) → ((k : ℕ) → k < length rest → eqb (get_or rest k 0) 10 ≡ false)
    → scan room kept rest ≡ part (keep_all room kept rest)
scan-part room kept [] f = refl
scan-part room kept (b ∷ bs) f = rw (f zero (omega arith)) (scan-part room (keep room kept b) bs (λ k l. f (suc k) (omega arith)))

abbrev pub is_lf : ℕ → Bool
is_lf b = eqb b 10

no_lf : (rest : List ℕ) → position is_lf rest ≡ None → (k : ℕ) → k < length rest → eqb (get_or rest k 0) 10 ≡ false
no_lf rest none k h =
    by_bool (ltb (position_or_len is_lf rest) (length rest))
    (λ t. absurd (let some : Some (position_or_len is_lf rest) ≡ None = rw t at none in cc))
    (λ f. fails_before_first is_lf rest k 0 (omega (arith, ltb-false (position_or_len is_lf rest) (length rest) f)))

module _ {row₀ bytes rest row : List ℕ} {kept at n : ℕ} (here : rest ≡ drop at bytes) (inside : at ≤ length bytes) where
  pub found-line : {end : ℕ} → position is_lf rest ≡ Some end → Kept row₀ kept (take end rest) row n
      → Finds row₀ kept bytes at row (record { count = n; next = Some (at + end + 1) })
  found-line {end} e k =
      let first = position-Some is_lf rest end 0 e in
      let after : drop (suc end) rest ≡ drop (at + end + 1) bytes =
      ap (drop (suc end)) here ∙ drop-drop (suc end) at bytes ∙ ap (λ (m : ℕ). drop m bytes) (omega arith) in
      record {
        within = k.within;
        rest = k.rest;
        goes_on = (omega arith, omega (arith, first.0, ap length here, length-drop at bytes));
        scans = ap (scan (length row₀) (take kept row₀)) (sym here) ∙ scan-line (length row₀) (take kept row₀) rest end first.0 first.1 first.2
            ∙ ap₂ whole (sym k.holds) after;
      }

  pub found-part : position is_lf rest ≡ None → Kept row₀ kept rest row n → Finds row₀ kept bytes at row (record { count = n; next = None })
  found-part e k = record {
    within = k.within;
    rest = k.rest;
    goes_on = tt;
    scans = ap (scan (length row₀) (take kept row₀)) (sym here) ∙ scan-part (length row₀) (take kept row₀) rest (no_lf rest e)
        ∙ ap part (sym k.holds);
  }

-- ---- what a caller makes of an answer: a turn with the line at the row's front, or bytes that stay there

module _ {row₀ bytes row : List ℕ} {kept at : ℕ} {r : Found} {next : ℕ} (e : r.next ≡ Some next) (f : Finds row₀ kept bytes at row r) where
  on : GoesOn bytes at (Some next)
  on = rw e at f.goes_on

  pub line-inside : next ≤ length bytes
  line-inside = on.1

module _ {S : Type 0} (turn : S → List ℕ → S) (s : S) where
  abbrev pub after_found : ℕ → List ℕ → List ℕ → Option ℕ → Progress S
  after_found room bytes front (Some next) = read_bytes turn room (progress (turn s front) []) (drop next bytes)
  after_found room bytes front None = progress s front

  scan-found : (room : ℕ) (bytes front : List ℕ) (next : Option ℕ) → after_scan turn room s (scan_of front bytes next) ≡ after_found room bytes front next
  scan-found room bytes front (Some next) = refl
  scan-found room bytes front None = refl

  pub finds-reads : (row₀ : List ℕ) (kept : ℕ) (bytes : List ℕ) (at : ℕ) (row : List ℕ) (r : Found) → Finds row₀ kept bytes at row r
      → read_bytes turn (length row₀) (progress s (take kept row₀)) (drop at bytes) ≡ after_found (length row₀) bytes (take r.count row) r.next
  finds-reads row₀ kept bytes at row r f =
      read-scan turn (length row₀) s (take kept row₀) (drop at bytes) ∙ ap (after_scan turn (length row₀) s) f.scans
      ∙ scan-found (length row₀) bytes (take r.count row) r.next

-- ---- nothing is left open

abbrev scanned : Scan → List ℕ
scanned (whole l rest) = l
scanned (part kept) = kept

abbrev unread : Scan → List ℕ
unread (whole l rest) = rest
unread (part kept) = []

abbrev is_whole : Scan → Bool
is_whole (whole l rest) = true
is_whole (part kept) = false

-- the same bytes at the front, the others as they were
module _ (row row' : List ℕ) {n m : ℕ} (front : take n row ≡ take m row') (fits : n ≤ length row) (fits' : m ≤ length row') where
  same_count : n ≡ m
  same_count = sym (length-take-le n row fits) ∙ ap length front ∙ length-take-le m row' fits'

  same_row : (row₀ : List ℕ) → drop n row ≡ drop n row₀ → drop m row' ≡ drop m row₀ → row ≡ row'
  same_row row₀ rest rest' =
      sym (take-append-drop n row)
      ∙ ap₂ (λ (l k : List ℕ). l ++ k) front (rest ∙ ap (λ (k : ℕ). drop k row₀) same_count ∙ sym rest')
      ∙ take-append-drop m row'

scanned-front : (front bytes : List ℕ) (next : Option ℕ) → scanned (scan_of front bytes next) ≡ front
scanned-front front bytes (Some next) = refl
scanned-front front bytes None = refl

-- the same place after the line, or none
same_next : (bytes front front' : List ℕ) (at : ℕ) (next next' : Option ℕ) → GoesOn bytes at next → GoesOn bytes at next'
    → scan_of front bytes next ≡ scan_of front' bytes next' → next ≡ next'
same_next bytes front front' at (Some next) (Some next') f g e =
    let after : length (drop next bytes) ≡ length (drop next' bytes) = ap (λ (x : Scan). length (unread x)) e in
    let place : next ≡ next' = omega (arith, f, g, length-drop next bytes, length-drop next' bytes) in
    ap Some place
same_next bytes front front' at None None f g e = refl
same_next bytes front front' at (Some next) None f g e = true_false (ap is_whole e)
same_next bytes front front' at None (Some next') f g e = true_false (ap is_whole (sym e))

module _ {row₀ bytes row row' : List ℕ} {kept at : ℕ} where
  pub finds_fixed : (r r' : Found) → Finds row₀ kept bytes at row r → Finds row₀ kept bytes at row' r' → (row ≡ row') × (r ≡ r')
  finds_fixed r r' f g =
      let scans = sym f.scans ∙ g.scans in
      let front : take r.count row ≡ take r'.count row' =
      sym (scanned-front (take r.count row) bytes r.next) ∙ ap scanned scans ∙ scanned-front (take r'.count row') bytes r'.next in
      let count = same_count row row' front f.within g.within in
      let next = same_next bytes _ _ at r.next r'.next f.goes_on g.goes_on scans in (
        same_row row row' front f.within g.within row₀ f.rest g.rest,
        ap₂ (λ (n : ℕ) (m : Option ℕ). record { count = n; next = m }) count next,
      )
