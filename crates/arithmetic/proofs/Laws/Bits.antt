-- Laws of bits.
--     high_bit     no bit is set beyond the width
--     read-bit     the bit of a number of 32 bits, read with the place taken within them
use Rattle.std.specs.Prelude.{◌≡◌, refl, false, ◌&&◌, ℕ, ◌/◌, ◌%◌, ◌^◌, ◌≤◌, ◌<◌, eqb, ltb}
use Rattle.std.proofs.Common.{sym, mod-eq_of_lt, arith, ltb-true, ltb-false}
use Rattle.std.proofs.Math.Nat.{div-eq_of_lt, pow-le-pow_right}
use Rattle.arithmetic.specs.Bits.{bit_at}
use Rattle.arithmetic.proofs.Laws.Tests.{by_bool}

-- no bit is set from k on in a number below 2^k
pub high_bit : (k n place : ℕ) → n < 2 ^ k → k ≤ place → bit_at n place ≡ false
unfolding bit_at
high_bit k n place h l = let z : n / 2 ^ place ≡ 0 = div-eq_of_lt (omega (arith, pow-le-pow_right {n = 2} (omega arith) l)) in rw z refl

pub read-bit : (n place : ℕ) → n < 4294967296 → (ltb place 32 && eqb (n / 2 ^ (place % 32) % 2) 1) ≡ bit_at n place
unfolding bit_at
read-bit n place h =
    by_bool (ltb place 32)
    (λ e. rw (e, mod-eq_of_lt (ltb-true place 32 e)) refl)
    (λ e. rw e (sym (high_bit 32 n place h (ltb-false place 32 e))))
