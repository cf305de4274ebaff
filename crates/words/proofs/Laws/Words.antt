-- Laws of numbers as words.
--     signed_word  the word of a number stands for that number
--     wide-words, low_wide, high-wide      two words and their number, both ways
--     added        the word of a number
use Rattle.std.specs.Prelude.{◌≡◌, refl, true, ℕ, ◌-◌, ◌<◌, ℤ, pos, negsuc, ◌+ℤ◌}
use Rattle.std.proofs.Common.{ap, arith, SFits, lt-ltb, le-ltb}
use Rattle.std.specs.Int.Signed.{lt_z}
use Rattle.std.specs.Int.{w32}
use Rattle.arithmetic.proofs.Laws.Linear.{ints, sum, known, nat_eq}
use Rattle.words.specs.Words.{signed, word_of, low_word, high_word, wide_of}

-- ---- the number of a word

-- ---- the word of a number

pub signed_word : (z : ℤ) → SFits w32 z → signed (word_of z) ≡ z
unfolding signed
signed_word (pos n) f = rw (lt-ltb n 2147483648 (omega (arith, known f))) refl
signed_word (negsuc n) f =
    rw (le-ltb (4294967295 - n) 2147483648 (omega (arith, known f))) (ap negsuc (omega (arith, known f)))

pub added : (z : ℤ) → SFits w32 z → lt_z z (pos 0) ≡ true → z +ℤ pos 4294967296 ≡ pos (word_of z)
added (pos n) f h = absurd (omega (arith, ints))
added (negsuc n) f h = nat_eq _ _ (omega (arith, ints, sum (negsuc n) (pos 4294967296), known f))

-- ---- two words

pub low_wide : (low high : ℕ) → low < 4294967296 → low_word (wide_of low high) ≡ low
low_wide low high word = omega arith

pub high-wide : (low high : ℕ) → low < 4294967296 → high_word (wide_of low high) ≡ high
high-wide low high word = omega arith

pub wide-words : (n : ℕ) → wide_of (low_word n) (high_word n) ≡ n
wide-words n = omega arith
