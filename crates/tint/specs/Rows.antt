-- The dots of a row (§20.3).
--     NextDot      the first column from one on that has a dot, or the row's end
use Rattle.std.specs.Prelude.{◌≡◌, true, false, ℕ, ◌*◌, ◌≤◌, ◌<◌}
use Rattle.model.specs.declared.patch.Patch.{Patch}
use Rattle.model.specs.Patch.{has_dot}

-- no dot is passed over
abbrev pub NoDots : Patch → ℕ → ℕ → ℕ → Type 0
NoDots p from to row = (i : ℕ) → from ≤ i → i < to → has_dot p i row ≡ false

pub record NextDot (p : Patch) (column row next : ℕ) : Type 0 where
  pub onward : column ≤ next
  pub within : next ≤ 16 * p.columns
  pub none : NoDots p column next row
  pub dot : next < 16 * p.columns → has_dot p next row ≡ true
