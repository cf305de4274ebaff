-- That a signed number is what the machine reads back from its bits. A function that passes a field on proves it by `search needs`.
--     ReadBack     of one number
--     ReadAxis     of a patch's first corner and of the bounds on an axis
use mathlib.Core.Path.{◌≡◌, refl}
use lib.IntN.{ℤ}
use mir.Syntax.{w32, w64}
use mir.Val.{SFits, to_z, of_z}
use mir.Facts.{to_z-of_z}
use Rattle.arithmetic.proofs.Laws.Linear.{wide}

abbrev pub ReadBack : ℤ → Type 0
ReadBack z = to_z w32 (of_z w32 z) ≡ z

pub record ReadAxis (corner above below : ℤ) : Type 0 where
  pub first : ReadBack corner
  pub over : ReadBack above
  pub upto : ReadBack below
