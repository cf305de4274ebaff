-- That what the code works out fits its machine types.
--     less-touch, more-touch       a touch taken from a difference, or added to it
--     less-fits, more-fits, rest-fits, more-rest_fits, and with a touch or none    a difference of two i32, and what it is divided after
--     end_fits     where the last window on an axis ends
--     windows-few          at most 4096 windows
use Rattle.std.specs.Prelude.{◌≡◌, refl, Bool, true, false, cond, ℕ, ◌*◌, ◌-◌, ◌≤◌, ◌<◌, ℤ, pos, ◌+ℤ◌, ◌-ℤ◌}
use Rattle.std.proofs.Common.{mul-le-mul, arith, SFits}
use Rattle.std.specs.Int.{w32, w64, from_bool}
use Rattle.arithmetic.specs.Ints.{natural}
use Rattle.arithmetic.proofs.Laws.Linear.{ints, sum, dif, known, nat_eq, fits64}
use Rattle.arithmetic.proofs.Laws.Divisions.{up-natural}
use Rattle.grid.specs.declared.grid.Grid.{Grid}
use Rattle.grid.specs.Grids.{windows, edge}
use Rattle.grid.proofs.Laws.Windows.{Sizes}

pub less-touch : (t : Bool) (d : ℤ) → d -ℤ pos (from_bool t) ≡ cond t (d -ℤ pos 1) d
less-touch true d = refl
less-touch false d = nat_eq _ _ (omega (arith, ints, dif d (pos 0)))

pub more-touch : (t : Bool) (d : ℤ) → d +ℤ pos (from_bool t) ≡ cond t (d +ℤ pos 1) d
more-touch true d = refl
more-touch false d = nat_eq _ _ (omega (arith, ints, sum d (pos 0)))

module _ (z first : ℤ) (f : SFits w32 z) (g : SFits w32 first) where
  pub less-fits : SFits w64 ((z -ℤ first) -ℤ pos 1)
  less-fits = fits64 _ (omega (arith, dif z first, dif (z -ℤ first) (pos 1), known f, known g))

  pub more-fits : SFits w64 ((z -ℤ first) +ℤ pos 1)
  more-fits = fits64 _ (omega (arith, dif z first, sum (z -ℤ first) (pos 1), known f, known g))

  pub rest-fits : (size : ℕ) → size < 4294967296 → SFits w64 ((z -ℤ first) +ℤ pos (size - 1))
  rest-fits size s = fits64 _ (omega (arith, dif z first, sum (z -ℤ first) (pos (size - 1)), known f, known g))

  pub more-rest_fits : (size : ℕ) → size < 4294967296 → SFits w64 (((z -ℤ first) +ℤ pos 1) +ℤ pos (size - 1))
  more-rest_fits size s =
      let d = z -ℤ first in
      fits64 _ (omega (arith, dif z first, sum d (pos 1), sum (d +ℤ pos 1) (pos (size - 1)), known f, known g))

  pub less-touch_fits : (t : Bool) → SFits w64 ((z -ℤ first) -ℤ pos (from_bool t))
  less-touch_fits true = less-fits
  less-touch_fits false = fits64 _ (omega (arith, dif z first, dif (z -ℤ first) (pos 0), known f, known g))

  pub more-touch_fits : (t : Bool) → SFits w64 ((z -ℤ first) +ℤ pos (from_bool t))
  more-touch_fits true = more-fits
  more-touch_fits false = fits64 _ (omega (arith, dif z first, sum (z -ℤ first) (pos 0), known f, known g))

  pub more-touch-rest_fits : (t : Bool) (size : ℕ) → size < 4294967296 → SFits w64 (((z -ℤ first) +ℤ pos (from_bool t)) +ℤ pos (size - 1))
  more-touch-rest_fits true size s = more-rest_fits size s
  more-touch-rest_fits false size s =
      let d = z -ℤ first in
      fits64 _ (omega (arith, dif z first, sum d (pos 0), sum (d +ℤ pos 0) (pos (size - 1)), known f, known g))

natural-small : (z : ℤ) → SFits w32 z → natural z ≤ 2147483647
natural-small z f = omega (arith, up-natural z, known f)

along-few : (number size : ℤ) → SFits w32 number → SFits w32 size → natural number * natural size ≤ 4611686014132420609
along-few number size f g =
    mul-le-mul {n₁ = natural number} {m₁ = natural size} {n₂ = 2147483647} {m₂ = 2147483647} (natural-small number f) (natural-small size g)

pub end_fits : (first number size : ℤ) → SFits w32 first → SFits w32 number → SFits w32 size → SFits w64 (edge first (natural size) (natural number))
end_fits first number size f g h =
    let along = natural number * natural size in
    fits64 _ (omega (arith, sum first (pos along), known f, along-few number size g h))

pub windows-few : (g : Grid) → Sizes g → windows g ≤ 4096
windows-few g fits = mul-le-mul {n₂ = 64} {m₂ = 64} fits.few_columns fits.few_rows
