-- That the numbers of one axis are what the machine reads back from their bits. A function that passes them on proves it at its entry, by `search needs`.
use mathlib.Core.Path.{◌≡◌}
use lib.IntN.{ℤ}
use mir.Syntax.{w32}
use mir.Val.{to_z, of_z}

abbrev pub ReadBack : ℤ → Type 0
ReadBack z = to_z w32 (of_z w32 z) ≡ z

-- where the windows begin, their size and number, and the rectangle's ends
pub record ReadAxis (first width columns a b : ℤ) : Type 0 where
  pub begins : ReadBack first
  pub size : ReadBack width
  pub number : ReadBack columns
  pub from : ReadBack a
  pub to : ReadBack b
