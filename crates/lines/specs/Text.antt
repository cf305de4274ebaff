-- Numbers and fields as text (§13.3). A byte is its ASCII code.
--     decimal      a natural number's digits
--     number       an integer's text
--     Kind, Within, WithinAll      the types of fields, and their ranges
--     fields       fields, each with the comma before it
--     answer       an output line
use Rattle.std.specs.Prelude.{List, [], ◌∷◌, ◌++◌, map, cond, ℕ, zero, suc, ◌+◌, ◌/◌, ◌%◌, ◌^◌, ◌<◌, ℤ, pos, negsuc, ltb}

-- the digits of a number below 10 ^ places, the first digit first
unfoldable pub digits : ℕ → ℕ → List ℕ
digits zero n = []
digits (suc places) n = cond (ltb n 10) ((48 + n) ∷ []) (digits places (n / 10) ++ ((48 + n % 10) ∷ []))

-- ten places hold every u32
abbrev pub decimal : ℕ → List ℕ
decimal n = digits 10 n

-- §13.3: digits, with a minus sign before a negative number's
abbrev pub number : ℤ → List ℕ
number (pos n) = decimal n
number (negsuc n) = 45 ∷ decimal (suc n)

pub data Kind : Type 0 where
  u32 : Kind
  i32 : Kind

-- §13.4: what a type holds
abbrev pub Within : Kind → ℤ → Type 0
Within u32 (pos n) = n < 2 ^ 32
Within u32 (negsuc n) = ⊥
Within i32 (pos n) = n < 2 ^ 31
Within i32 (negsuc n) = n < 2 ^ 31

-- as many numbers as kinds, each in its range
abbrev pub WithinAll : List Kind → List ℤ → Type 0
WithinAll [] [] = Unit {0}
WithinAll [] (z ∷ zs) = ⊥
WithinAll (k ∷ ks) [] = ⊥
WithinAll (k ∷ ks) (z ∷ zs) = Within k z × WithinAll ks zs

-- §13.3: a comma before each number
unfoldable pub fields : List ℤ → List ℕ
fields [] = []
fields (z ∷ zs) = 44 ∷ number z ++ fields zs

-- an output line: its letter, its numbers, its LF
unfoldable pub answer : ℕ → List ℕ → List ℕ
answer letter ns = letter ∷ fields (map pos ns) ++ (10 ∷ [])
