-- The report's text (§19.6): a line for each window, then the total.
--     window_line       a window's line
--     window_row        the lines of a row's first windows
--     window_lines      the lines of all windows: rows downward, columns rising within a row
--     total_line        the last line
--     report           THE STATEMENT: the report of a row of counts
use Rattle.std.specs.Prelude.{List, [], ◌∷◌, ◌++◌, ℕ, ◌+◌, ◌*◌, get_or}
use Rattle.model.specs.Lists.{join_below}
use Rattle.lines.specs.Text.{decimal}

-- column, row and count, with a comma between, and LF
unfoldable pub window_line : ℕ → ℕ → ℕ → List ℕ
window_line column row count = decimal column ++ (44 ∷ decimal row) ++ (44 ∷ decimal count) ++ (10 ∷ [])

-- the windows before a column, of a row whose counts stand from `first` on
unfoldable pub window_row : ℕ → ℕ → List ℕ → ℕ → List ℕ
window_row columns row counts first = join_below columns (λ column. window_line column row (get_or counts (first + column) 0))

unfoldable pub window_lines : ℕ → ℕ → List ℕ → List ℕ
window_lines columns rows counts = join_below rows (λ row. window_row columns row counts (row * columns))

-- the word `total`, a comma, the number and LF
unfoldable pub total_line : ℕ → List ℕ
total_line total = 116 ∷ 111 ∷ 116 ∷ 97 ∷ 108 ∷ 44 ∷ decimal total ++ (10 ∷ [])

abbrev pub report : ℕ → ℕ → List ℕ → ℕ → List ℕ
report columns rows counts total = window_lines columns rows counts ++ total_line total
