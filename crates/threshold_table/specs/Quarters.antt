-- The thresholds, quarter by quarter.
--     quarter_of   what is added in a quarter
--     doubled      four doublings
use Rattle.std.specs.Prelude.{cond, ℕ, ◌+◌, ◌*◌, ◌/◌, ◌%◌, eqb}

abbrev pub quarter_of : ℕ → ℕ → ℕ
quarter_of column row = cond (eqb (row % 2) 0) (cond (eqb (column % 2) 0) 0 2) (cond (eqb (column % 2) 0) 3 1)

abbrev pub doubled : ℕ → ℕ → ℕ
doubled column row =
    64 * quarter_of column row + 16 * quarter_of (column / 2) (row / 2) + 4 * quarter_of (column / 4) (row / 4) + quarter_of (column / 8) (row / 8)
