-- Numbers as words of 32 bits (§18.2).
--     signed, word_of       a negative number has 4294967296 added: the number of a word, and the word of a number
--     low_word, high_word, wide_of    a number of 64 bits as two words
use Rattle.std.specs.Prelude.{cond, ℕ, ◌+◌, ◌-◌, ◌*◌, ◌/◌, ◌%◌, ltb, ℤ, pos, negsuc}

unfoldable pub signed : ℕ → ℤ
signed w = cond (ltb w 2147483648) (pos w) (negsuc (4294967295 - w))

abbrev pub word_of : ℤ → ℕ
word_of (pos n) = n
word_of (negsuc n) = 4294967295 - n

abbrev pub low_word : ℕ → ℕ
low_word n = n % 4294967296

abbrev pub high_word : ℕ → ℕ
high_word n = n / 4294967296

abbrev pub wide_of : ℕ → ℕ → ℕ
wide_of low high = low + 4294967296 * high
