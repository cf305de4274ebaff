-- The lines of calls (§13.3, §13.4).
--     letter, kinds, values, text      a call's line
--     CallOf                           what follows the letter, read as a call's numbers
--     LineOf                           THE STATEMENT: what a line is
use Rattle.std.specs.Prelude.{◌≡◌, List, [], ◌∷◌, ◌++◌, Option, Some, None, ℕ, ◌≤◌, ℤ, pos, length}
use Rattle.geometry.specs.declared.aabb.AABB.{AABB}
use Rattle.lines.specs.Text.{Kind, u32, i32, WithinAll, fields}
use Rattle.lines.specs.declared.line.Call.{Call}
use Rattle.lines.specs.declared.line.Call.TheVariants.{Settings, Insert, InsertInk, Remove, Cleanup, Query}

-- S, I, D, C, Q
abbrev pub letter : Call → ℕ
letter (Settings s) = 83
letter (Insert id r) = 73
letter (InsertInk d) = 73
letter (Remove id r) = 68
letter Cleanup = 67
letter (Query r) = 81

-- a rectangle's fields
abbrev pub four : List Kind
four = i32 ∷ i32 ∷ i32 ∷ i32 ∷ []

-- the two limits and the smallest cell
abbrev pub three : List Kind
three = u32 ∷ u32 ∷ u32 ∷ []

-- §13.3: the types of a line's numbers
abbrev pub kinds : Call → List Kind
kinds (Settings s) = four ++ three
kinds (Insert id r) = u32 ∷ four
kinds (InsertInk d) = u32 ∷ four ++ (u32 ∷ [])
kinds (Remove id r) = u32 ∷ four
kinds Cleanup = []
kinds (Query r) = four

abbrev pub corners : AABB → List ℤ
corners r = r.x1 ∷ r.y1 ∷ r.x2 ∷ r.y2 ∷ []

-- §13.3: the numbers of a call's line
abbrev pub values : Call → List ℤ
values (Settings s) =
    s.left ∷ s.top ∷ s.width ∷ s.height ∷ pos s.depth_limit ∷ pos s.leaf_limit ∷ pos s.smallest_cell ∷ []
values (Insert id r) = pos id ∷ corners r
values (InsertInk d) = pos d.id ∷ corners d.rect ++ (pos d.ink ∷ [])
values (Remove id r) = pos id ∷ corners r
values Cleanup = []
values (Query r) = corners r

abbrev pub text : Call → List ℕ
text c = letter c ∷ fields (values c)

-- a call that a line can hold: its numbers in their ranges
abbrev pub Fits : Call → Type 0
Fits c = WithinAll (kinds c) (values c)

-- §13.3: the call of a letter whose numbers' fields the bytes after the letter are, if they are a call's
abbrev pub CallOf : ℕ → List ℕ → Option Call → Type 0
CallOf l rest (Some c) = (letter c ≡ l) × Fits c × (fields (values c) ≡ rest)
CallOf l rest None = (c : Call) → letter c ≡ l → Fits c → fields (values c) ≡ rest → ⊥

-- §13.2, §13.4: the call whose text the bytes are; a line of no call is unreadable, `None`
abbrev pub LineOf : List ℕ → Option Call → Type 0
LineOf bytes (Some c) = (length bytes ≤ 80) × Fits c × (text c ≡ bytes)
LineOf bytes None = length bytes ≤ 80 → (c : Call) → Fits c → text c ≡ bytes → ⊥
