-- The bits of a number.
--     bit_at        whether the bit at a place is set
use Rattle.std.specs.Prelude.{Bool, ℕ, ◌/◌, ◌%◌, ◌^◌, eqb}

unfoldable pub bit_at : ℕ → ℕ → Bool
bit_at n place = eqb (n / 2 ^ place % 2) 1
