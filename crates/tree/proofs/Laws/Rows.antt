-- Words written to a row from a position on; past its end none is written.
--     sets_append  two lists of words, one after the other
--     sets_whole   with room for all, the row begins with them and keeps its tail
use Rattle.std.specs.Prelude.{◌≡◌, List, [], ◌∷◌, ◌++◌, ℕ, suc, ◌+◌, ◌≤◌, length, drop, set}
use Rattle.std.proofs.Common.{ap, ◌∙◌, arith}
use Rattle.std.proofs.lemmas.List.Edits.{sets, sets-eq}

module _ {A : Type 0} where
  pub sets_append : (row : List A) (at : ℕ) (xs ys : List A) → sets row at (xs ++ ys) ≡ sets (sets row at xs) (at + length xs) ys
  sets_append row at [] ys = ap (λ (k : ℕ). sets row k ys) (omega arith)
  sets_append row at (x ∷ xs) ys =
      sets_append (set row at x) (suc at) xs ys ∙ ap (λ (k : ℕ). sets (sets (set row at x) (suc at) xs) k ys) (omega arith)

  pub sets_whole : (row words : List A) → length words ≤ length row → sets row 0 words ≡ words ++ drop (length words) row
  sets_whole row words l =
      let all : 0 + length words ≡ length words = omega arith in
      sets-eq words row 0 (omega arith) ∙ ap (λ (k : ℕ). words ++ drop k row) all
