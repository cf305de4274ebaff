-- Laws of a state and an answer as rows.
--     unfit, fit, twelve, two, twelve-two  what the code's test of the lengths says
--     keeps_state, kept_row    a row that is written with what it holds is as it was
--     told, told_grid, told-patch  a rectangle by the four numbers of a call, a grid and a patch by the six
use Rattle.std.specs.Prelude.{◌≡◌, refl, List, [], ◌∷◌, Bool, true, false, not, ℕ, eqb, ℤ, length, get_or, set}
use Rattle.std.proofs.Common.{sym, ◌∙◌, arith, SFits, to_z, of_z, to_z-of_z}
use Rattle.std.proofs.lemmas.List.{set-get_or}
use Rattle.std.specs.Int.{w32}
use borrow.Author.Tests.{eqb-true, not-true, not-false}
use Rattle.arithmetic.proofs.Laws.Linear.{and_t}
use Rattle.words.proofs.Laws.Words.{low_wide, high-wide}
use Rattle.model.specs.Calls.{Reply, refused, too_many, answered}
use Rattle.host_rows.specs.Rows.{CountFits, state_in, with_state, rows_fit, rect_of, grid_of, patch_of}
use Rattle.host_rows.specs.Answers.{state_row}

-- ---- rows

-- the code's test
module _ {fits b : Bool} (test : b ≡ fits) where
  pub unfit : not b ≡ true → fits ≡ false
  unfit n = sym test ∙ not-true b n

  pub fit : not b ≡ false → fits ≡ true
  fit n = sym test ∙ not-false b n

module _ (state answer : List ℕ) {b : Bool} (test : b ≡ rows_fit state answer) where
  pub twelve : not b ≡ false → length state ≡ 12
  unfolding rows_fit
  twelve n = eqb-true _ _ (and_t (eqb (length state) 12) (eqb (length answer) 2) (fit test n)).0

  pub two : not b ≡ false → length answer ≡ 2
  unfolding rows_fit
  two n = eqb-true _ _ (and_t (eqb (length state) 12) (eqb (length answer) 2) (fit test n)).1

  pub twelve-two : not b ≡ false → (length state ≡ 12) × (length answer ≡ 2)
  twelve-two n = (twelve n, two n)

-- two stores fill an answer row

pub keeps_state : (row : List ℕ) → CountFits row 10 → row ≡ with_state (state_in row) row
unfolding with_state state_in
keeps_state row fits =
    let low = low_wide (get_or row 10 0) (get_or row 11 0) fits in
    let high = high-wide (get_or row 10 0) (get_or row 11 0) fits in
    rw (low, high, set-get_or row 7 0, set-get_or row 8 0, set-get_or row 9 0, set-get_or row 10 0, set-get_or row 11 0) refl

-- a call that changes nothing leaves the row that it was given
pub kept_row : {A : Type 0} (row : List ℕ) → CountFits row 10 → (reply : Reply A) → row ≡ state_row (state_in row) row reply
kept_row row fits (refused k) = refl
kept_row row fits (too_many n) = refl
kept_row row fits (answered a) = keeps_state row fits

-- a rectangle of four words of a call is the one that it was handed
pub told : {x1 y1 x2 y2 : ℤ} → SFits w32 x1 → SFits w32 y1 → SFits w32 x2 → SFits w32 y2
    → rect_of (to_z w32 (of_z w32 x1)) (to_z w32 (of_z w32 y1)) (to_z w32 (of_z w32 x2)) (to_z w32 (of_z w32 y2)) ≡ rect_of x1 y1 x2 y2
told a b c d = rw (to_z-of_z a, to_z-of_z b, to_z-of_z c, to_z-of_z d)

pub told_grid : {x y width height columns rows : ℤ} → SFits w32 x → SFits w32 y → SFits w32 width → SFits w32 height → SFits w32 columns → SFits w32 rows
    → grid_of (to_z w32 (of_z w32 x)) (to_z w32 (of_z w32 y)) (to_z w32 (of_z w32 width)) (to_z w32 (of_z w32 height)) (to_z w32 (of_z w32 columns))
    (to_z w32 (of_z w32 rows)) ≡ grid_of x y width height columns rows
told_grid a b c d e f = rw (to_z-of_z a, to_z-of_z b, to_z-of_z c, to_z-of_z d, to_z-of_z e, to_z-of_z f) refl

pub told-patch : {x y : ℤ} {columns rows tint first : ℕ} → SFits w32 x → SFits w32 y
    → patch_of (to_z w32 (of_z w32 x)) (to_z w32 (of_z w32 y)) columns rows tint first ≡ patch_of x y columns rows tint first
told-patch a b = rw (to_z-of_z a, to_z-of_z b) refl
