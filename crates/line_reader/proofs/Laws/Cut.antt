-- The reader hands out the lines of its input, however that comes in pieces.
--     lines-whole, lines-last      what `lines` says of an input by its first LF: these two fix it
--     lines-plain, lines_none      no line has an LF; only the empty input has no line
--     short-kept, long_kept        a line of at most 80 bytes is kept whole in 81, a longer one is seen to be longer
--     cut-pieces   THE LAW: any pieces, read one after another, are turned line by line as their whole is cut
--     handed-more  one piece more hands out the lines that end in it
--     handed_out   so the lines handed out, and what is kept at the end, are just these lines, in their order
--     read-scan    a scan to the end of the line is the reader's way to it
use Rattle.std.specs.Prelude.{◌≡◌, refl, List, [], ◌∷◌, ◌++◌, map, false, ℕ, zero, suc, ◌≤◌, ◌<◌, eqb, ltb, length, take}
use Rattle.std.proofs.Common.{ap, sym, ◌∙◌, append-nil, append_assoc, arith, ltb-true, ltb-false, length-append, length-take, take_all}
use Rattle.std.proofs.Math.Seq.{take-nil}
use Rattle.std.proofs.lemmas.List.{take-append-le}
use Rattle.arithmetic.proofs.Laws.Tests.{by_bool}
use Rattle.line_reader.specs.Cut.{in_front, lines, kept_lines, keep, last_line, joined, hand_out}
use Rattle.line_reader.specs.Cut.{Progress, progress, turns, take_byte, read_bytes, read_pieces, finish, Scan, whole, part, scan}

-- ---- what the lines are

-- no LF
abbrev pub Plain : List ℕ → Type 0
Plain [] = Unit {0}
Plain (b ∷ bs) = (eqb b 10 ≡ false) × Plain bs

abbrev pub AllPlain : List (List ℕ) → Type 0
AllPlain [] = Unit {0}
AllPlain (l ∷ ls) = Plain l × AllPlain ls

pub lines-whole : (l bs : List ℕ) → Plain l → lines (l ++ (10 ∷ bs)) ≡ l ∷ lines bs
lines-whole [] bs p = refl
lines-whole (b ∷ l) bs p = rw (p.0, lines-whole l bs p.1) refl

pub lines-last : (l : List ℕ) → Plain l → lines l ≡ last_line l
lines-last [] p = refl
lines-last (b ∷ []) p = rw p.0 refl
lines-last (b ∷ c ∷ l) p = rw p.0 (ap (in_front b) (lines-last (c ∷ l) p.1))

front-plain : (b : ℕ) (ls : List (List ℕ)) → eqb b 10 ≡ false → AllPlain ls → AllPlain (in_front b ls)
front-plain b [] e a = ((e, tt), tt)
front-plain b (l ∷ ls) e a = ((e, a.0), a.1)

pub lines-plain : (bs : List ℕ) → AllPlain (lines bs)
lines-plain [] = tt
lines-plain (b ∷ bs) =
    by_bool (eqb b 10) (λ e. rw e (tt, lines-plain bs)) (λ e. rw e (front-plain b (lines bs) e (lines-plain bs)))

some-line : (b : ℕ) (bs : List ℕ) → 1 ≤ length (lines (b ∷ bs))
some-line b bs = by_bool (eqb b 10) (λ e. rw e (omega arith)) (λ e. rw e (front (lines bs)))
  where
    front : (ls : List (List ℕ)) → 1 ≤ length (in_front b ls)
    front [] = omega arith
    front (l ∷ ls) = omega arith

pub lines_none : (bs : List ℕ) → lines bs ≡ [] → bs ≡ []
lines_none [] e = refl
lines_none (b ∷ bs) e = absurd (omega (arith, some-line b bs, ap length e))

-- ---- the part kept

pub short-kept : (l : List ℕ) → length l ≤ 80 → take 81 l ≡ l
short-kept l h = take_all 81 l (omega arith)

pub long_kept : (l : List ℕ) → 80 < length l → length (take 81 l) ≡ 81
long_kept l h = omega (arith, length-take 81 l)

-- the part kept is the true part's first bytes
pub keep-take : (room : ℕ) (u : List ℕ) (b : ℕ) → keep room (take room u) b ≡ take room (u ++ (b ∷ []))
unfolding keep
keep-take room u b =
    by_bool (ltb (length (take room u)) room)
    (λ e.
    let short : length u < room = omega (arith, ltb-true (length (take room u)) room e, length-take room u) in
    let own : take room u ≡ u = take_all room u (omega arith) in
    let more : take room (u ++ (b ∷ [])) ≡ u ++ (b ∷ []) = take_all room (u ++ (b ∷ [])) (omega (arith, length-append u (b ∷ []))) in
    rw e (ap (λ (l : List ℕ). l ++ (b ∷ [])) own ∙ sym more))
    (λ e.
    let long : room ≤ length u = omega (arith, ltb-false (length (take room u)) room e, length-take room u) in
    rw e (sym (take-append-le room u (b ∷ []) long)))

-- ---- the reader

-- a part of a line, put in front of the lines of what follows
abbrev prefixed : List ℕ → List (List ℕ) → List (List ℕ)
prefixed u [] = last_line u
prefixed u (l ∷ ls) = (u ++ l) ∷ ls

prefixed-none : (ls : List (List ℕ)) → prefixed [] ls ≡ ls
prefixed-none [] = refl
prefixed-none (l ∷ ls) = refl

prefixed-front : (u : List ℕ) (b : ℕ) (ls : List (List ℕ)) → prefixed (u ++ (b ∷ [])) ls ≡ prefixed u (in_front b ls)
prefixed-front [] b [] = refl
prefixed-front (c ∷ u) b [] = refl
prefixed-front u b (l ∷ ls) = ap (λ (m : List ℕ). m ∷ ls) (append_assoc u (b ∷ []) l)

last-take : (room : ℕ) (u : List ℕ) → 1 ≤ room → last_line (take room u) ≡ map (take room) (last_line u)
last-take zero u one = absurd (omega arith)
last-take (suc n) [] one = refl
last-take (suc n) (b ∷ u) one = refl

module _ {S : Type 0} (turn : S → List ℕ → S) (room : ℕ) where
  read-append : (p : Progress S) (xs ys : List ℕ) → read_bytes turn room p (xs ++ ys) ≡ read_bytes turn room (read_bytes turn room p xs) ys
  read-append p [] ys = refl
  read-append p (x ∷ xs) ys = read-append (take_byte turn room p x) xs ys

  read-pieces : (p : Progress S) (qs : List (List ℕ)) → read_pieces turn room p qs ≡ read_bytes turn room p (joined qs)
  read-pieces p [] = refl
  read-pieces p (q ∷ qs) = read-pieces (read_bytes turn room p q) qs ∙ sym (read-append p q (joined qs))

  pub read_more : (p : Progress S) (qs : List (List ℕ)) (q : List ℕ)
      → read_pieces turn room p (qs ++ (q ∷ [])) ≡ read_bytes turn room (read_pieces turn room p qs) q
  read_more p [] q = refl
  read_more p (r ∷ qs) q = read_more (read_bytes turn room p r) qs q

  read-lines : 1 ≤ room → (s : S) (u bs : List ℕ)
      → finish turn (read_bytes turn room (progress s (take room u)) bs) ≡ turns turn s (map (take room) (prefixed u (lines bs)))
  read-lines one s u [] = ap (turns turn s) (last-take room u one)
  read-lines one s u (b ∷ bs) =
      by_bool (eqb b 10)
      (λ e.
      let p : take_byte turn room (progress s (take room u)) b ≡ progress (turn s (take room u)) (take room []) = rw (e, take-nil room) refl in
      let ls : prefixed u (lines (b ∷ bs)) ≡ u ∷ prefixed [] (lines bs) = rw (e, append-nil u, prefixed-none (lines bs)) refl in
      ap after p ∙ read-lines one (turn s (take room u)) [] bs ∙ sym (ap told ls))
      (λ e.
      let p : take_byte turn room (progress s (take room u)) b ≡ progress s (take room (u ++ (b ∷ []))) = rw (e, keep-take room u b) refl in
      let ls : prefixed u (lines (b ∷ bs)) ≡ prefixed (u ++ (b ∷ [])) (lines bs) = rw e (sym (prefixed-front u b (lines bs))) in
      ap after p ∙ read-lines one s (u ++ (b ∷ [])) bs ∙ sym (ap told ls))
    where
      after : Progress S → S
      after p = finish turn (read_bytes turn room p bs)

      told : List (List ℕ) → S
      told ls = turns turn s (map (take room) ls)

  -- THE LAW
  pub cut-pieces : 1 ≤ room → (s : S) (qs : List (List ℕ))
      → finish turn (read_pieces turn room (progress s []) qs) ≡ turns turn s (kept_lines room (joined qs))
  cut-pieces one s qs =
      ap (finish turn) (read-pieces (progress s []) qs)
      ∙ ap (λ (k : List ℕ). finish turn (read_bytes turn room (progress s k) (joined qs))) (sym (take-nil room))
      ∙ read-lines one s [] (joined qs)
      ∙ ap (λ (ls : List (List ℕ)). turns turn s (map (take room) ls)) (prefixed-none (lines (joined qs)))

  -- what the reader does from the first line's end on
  abbrev pub after_scan : S → Scan → Progress S
  after_scan s (whole l rest) = read_bytes turn room (progress (turn s l) []) rest
  after_scan s (part kept) = progress s kept

  pub read-scan : (s : S) (kept bs : List ℕ) → read_bytes turn room (progress s kept) bs ≡ after_scan s (scan room kept bs)
  read-scan s kept [] = refl
  read-scan s kept (b ∷ bs) = by_bool (eqb b 10) (λ e. rw e refl) (λ e. rw e (read-scan s (keep room kept b) bs))

-- ---- the lines themselves, where a turn puts its line at the end of a list

handed : (ms ls : List (List ℕ)) → turns hand_out ms ls ≡ ms ++ ls
handed ms [] = sym (append-nil ms)
handed ms (l ∷ ls) = handed (ms ++ (l ∷ [])) ls ∙ append_assoc ms (l ∷ []) ls

-- lines handed out before
abbrev after : List (List ℕ) → Progress (List (List ℕ)) → Progress (List (List ℕ))
after ms p = progress (ms ++ p.state) p.kept

read-after : (room : ℕ) (ms : List (List ℕ)) (p : Progress (List (List ℕ))) (bs : List ℕ)
    → read_bytes hand_out room (after ms p) bs ≡ after ms (read_bytes hand_out room p bs)
read-after room ms p [] = refl
read-after room ms p (b ∷ bs) =
    let one : take_byte hand_out room (after ms p) b ≡ after ms (take_byte hand_out room p b) =
    by_bool (eqb b 10) (λ e. rw e (ap (λ (ls : List (List ℕ)). progress ls []) (append_assoc ms p.state (p.kept ∷ [])))) (λ e. rw e refl) in
    ap (λ (x : Progress (List (List ℕ))). read_bytes hand_out room x bs) one ∙ read-after room ms (take_byte hand_out room p b) bs

-- one piece more
pub handed-more : (room : ℕ) (qs : List (List ℕ)) (q : List ℕ) {ms ls : List (List ℕ)} {kept kept' : List ℕ}
    → read_pieces hand_out room (progress [] []) qs ≡ progress ms kept → read_bytes hand_out room (progress [] kept) q ≡ progress ls kept'
    → read_pieces hand_out room (progress [] []) (qs ++ (q ∷ [])) ≡ progress (ms ++ ls) kept'
handed-more room qs q {ms} {ls} {kept} {kept'} e f =
    read_more hand_out room (progress [] []) qs q
    ∙ ap (λ (x : Progress (List (List ℕ))). read_bytes hand_out room x q) (e ∙ ap (λ (k : List (List ℕ)). progress k kept) (sym (append-nil ms)))
    ∙ read-after room ms (progress [] kept) q
    ∙ ap (after ms) f

pub handed_out : (room : ℕ) → 1 ≤ room → (qs : List (List ℕ)) {ls : List (List ℕ)} {kept : List ℕ}
    → read_pieces hand_out room (progress [] []) qs ≡ progress ls kept → kept_lines room (joined qs) ≡ ls ++ last_line kept
handed_out room one qs {ls} {kept} e =
    sym (cut-pieces hand_out room one [] qs ∙ handed [] (kept_lines room (joined qs))) ∙ ap (finish hand_out) e ∙ handed ls (last_line kept)
