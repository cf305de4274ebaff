-- Input cut into lines (§13.2).
--     lines        THE LINES of an input
--     kept_lines    each line's first bytes, as many as there is room for: with room for 81 a line of more than 80 is told from one of 80
--     keep, keep_all, take_byte, read_bytes, read_pieces, finish        the reader: it keeps a part of a line, and takes a turn with each whole line
--     hand_out      the turn that lists the lines
--     scan         to the end of the line
use Rattle.std.specs.Prelude.{List, [], ◌∷◌, ◌++◌, map, cond, ℕ, eqb, ltb, length, take}

-- ---- the lines

-- a byte put in front of the first line
abbrev pub in_front : ℕ → List (List ℕ) → List (List ℕ)
in_front b [] = (b ∷ []) ∷ []
in_front b (l ∷ ls) = (b ∷ l) ∷ ls

-- §13.2: an LF, 10, ends a line; the last may lack it, and after a final LF there is none
abbrev pub lines : List ℕ → List (List ℕ)
lines [] = []
lines (b ∷ bs) = cond (eqb b 10) ([] ∷ lines bs) (in_front b (lines bs))

abbrev pub kept_lines : ℕ → List ℕ → List (List ℕ)
kept_lines room bs = map (take room) (lines bs)

-- ---- the reader

-- a byte more of a line, where there is room
unfoldable pub keep : ℕ → List ℕ → ℕ → List ℕ
keep room kept b = cond (ltb (length kept) room) (kept ++ (b ∷ [])) kept

-- more bytes of a line, one after another
abbrev pub keep_all : ℕ → List ℕ → List ℕ → List ℕ
keep_all room kept [] = kept
keep_all room kept (b ∷ bs) = keep_all room (keep room kept b) bs

-- what is left at the input's end is a line, if it is anything
abbrev pub last_line : List ℕ → List (List ℕ)
last_line [] = []
last_line (b ∷ bs) = (b ∷ bs) ∷ []

abbrev pub joined : List (List ℕ) → List ℕ
joined [] = []
joined (p ∷ ps) = p ++ joined ps

-- S: whatever the turns change, with all that they write
pub record Progress (S : Type 0) : Type 0 where
  pub state : S
  pub kept : List ℕ

abbrev pub progress : {S : Type 0} → S → List ℕ → Progress S
progress s kept = record { state = s; kept = kept }

module _ {S : Type 0} (turn : S → List ℕ → S) where
  abbrev pub turns : S → List (List ℕ) → S
  turns s [] = s
  turns s (l ∷ ls) = turns (turn s l) ls

  abbrev pub take_byte : ℕ → Progress S → ℕ → Progress S
  take_byte room p b = cond (eqb b 10) (progress (turn p.state p.kept) []) (progress p.state (keep room p.kept b))

  abbrev pub read_bytes : ℕ → Progress S → List ℕ → Progress S
  read_bytes room p [] = p
  read_bytes room p (b ∷ bs) = read_bytes room (take_byte room p b) bs

  abbrev pub read_pieces : ℕ → Progress S → List (List ℕ) → Progress S
  read_pieces room p [] = p
  read_pieces room p (q ∷ qs) = read_pieces room (read_bytes room p q) qs

  abbrev pub finish : Progress S → S
  finish p = turns p.state (last_line p.kept)

-- a turn that puts its line at the end of a list
abbrev pub hand_out : List (List ℕ) → List ℕ → List (List ℕ)
hand_out ls l = ls ++ (l ∷ [])

-- ---- to the end of the line

pub data Scan : Type 0 where
  whole : List ℕ → List ℕ → Scan
  part : List ℕ → Scan

-- a whole line and the bytes after it, or the part that is kept
abbrev pub scan : ℕ → List ℕ → List ℕ → Scan
scan room kept [] = part kept
scan room kept (b ∷ bs) = cond (eqb b 10) (whole kept bs) (scan room (keep room kept b) bs)
