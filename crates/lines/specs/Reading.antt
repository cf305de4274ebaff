-- What a reader of a part of a line says. Text decides: a number is read exactly if the bytes are its text.
--     Part         the bytes of one number
--     until_comma, from_comma      the bytes before the first comma, and from it on
--     FieldOf      a field at the front of bytes, and what is left of them
--     Reads        the numbers of fields at the front of bytes, and what is left of them
--     Put          bytes put into a row at a place
--     Output, Written      what a row was and is, and the place answered; a row that begins with bytes, and is else as it was
--     value_from   what the reader makes of bytes before it holds them against the text
use Rattle.std.specs.Prelude.{◌≡◌, List, [], ◌∷◌, ◌++◌, Option, Some, None, cond, ℕ, ◌+◌, ◌*◌, ◌%◌, ◌^◌, ◌≤◌, ℤ, eqb, fold, length, take, drop}
use Rattle.lines.specs.Text.{Kind, Within, WithinAll, number, fields}

-- z: the number of that kind whose text the bytes are, if they are one's
pub record Part (kind : Kind) (bytes : List ℕ) (z : Option ℤ) : Type 0 where
  pub sound : (y : ℤ) → z ≡ Some y → Within kind y × (number y ≡ bytes)
  pub complete : (y : ℤ) → Within kind y → number y ≡ bytes → z ≡ Some y

-- a field ends at the line's end or at a comma
abbrev pub Ends : List ℕ → Type 0
Ends [] = Unit {0}
Ends (b ∷ bs) = b ≡ 44

unfoldable pub until_comma : List ℕ → List ℕ
until_comma [] = []
until_comma (b ∷ bs) = cond (eqb b 44) [] (b ∷ until_comma bs)

unfoldable pub from_comma : List ℕ → List ℕ
from_comma [] = []
from_comma (b ∷ bs) = cond (eqb b 44) (b ∷ bs) (from_comma bs)

-- the bytes begin with a comma: part is what follows it up to the next comma or the end, and rest the bytes from there on
abbrev pub FieldOf : List ℕ → Option (List ℕ) → List ℕ → Type 0
FieldOf bytes None rest = (tail : List ℕ) → bytes ≡ 44 ∷ tail → ⊥
FieldOf bytes (Some part) rest = (bytes ≡ 44 ∷ part ++ rest) × (part ≡ until_comma (part ++ rest)) × (rest ≡ from_comma (part ++ rest))

-- zs: the numbers of the fields of these kinds that the bytes begin with, if they do; rest follows them
pub record Reads (kinds : List Kind) (bytes : List ℕ) (zs : Option (List ℤ)) (rest : List ℕ) : Type 0 where
  pub sound : (ys : List ℤ) → zs ≡ Some ys → WithinAll kinds ys × (bytes ≡ fields ys ++ rest)
  pub complete : (ys : List ℤ) (tail : List ℕ) → WithinAll kinds ys → Ends tail → bytes ≡ fields ys ++ tail → (zs ≡ Some ys) × (rest ≡ tail)

-- row is row₀ up to `at`, then the bytes, up to next, then row₀ again
pub record Put (row₀ : List ℕ) (at : ℕ) (bytes row : List ℕ) (next : ℕ) : Type 0 where
  pub ends : next ≡ at + length bytes
  pub holds : take next row ≡ take at row₀ ++ bytes
  pub kept : drop next row ≡ drop next row₀

-- a lent row before and after a call, and the place that the call answers
pub record Output : Type 0 where
  pub before : List ℕ
  pub after : List ℕ
  pub next : ℕ

abbrev pub output : List ℕ → List ℕ → ℕ → Output
output before after next = record { before = before; after = after; next = next }

-- the row begins with the bytes, which end at next, within the row, and is from there on what it was
pub record Written (out : Output) (bytes : List ℕ) : Type 0 where
  pub ends : out.next ≡ length bytes
  pub within : out.next ≤ length out.after
  pub holds : out.after ≡ bytes ++ drop out.next out.before

-- one byte more, at 32 bits
abbrev pub shifted : ℕ → ℕ → ℕ
shifted v b = (v * 10 + b % 16) % 2 ^ 32

abbrev pub value_from : ℕ → List ℕ → ℕ
value_from v bs = fold shifted v bs
