-- The threshold table of a tile (§20.2), by its recursive rule.
--     matrix       the ordered matrix of size 2 ^ n, a list of rows
--     thresholds   that of size 16, row by row
--     threshold_at  the threshold at a column and a row of a patch
--     count_before  how many of those left of a column and above a row are below a tint
use Rattle.std.specs.Prelude.{List, [], ◌∷◌, ◌++◌, map, ℕ, zero, suc, ◌+◌, ◌*◌, ◌%◌, get_or}
use Rattle.model.specs.Sums.{sum_below}
use Rattle.model.specs.Shapes.{below}

-- a row of 4M + c
abbrev pub scaled : ℕ → List ℕ → List ℕ
scaled c row = map (λ m. 4 * m + c) row

-- the matrix of twice the size: to the left 4M above 4M + 3, to the right 4M + 2 above 4M + 1
abbrev pub next_matrix : List (List ℕ) → List (List ℕ)
next_matrix rows = map (λ row. scaled 0 row ++ scaled 2 row) rows ++ map (λ row. scaled 3 row ++ scaled 1 row) rows

-- size 1 holds 0
abbrev pub matrix : ℕ → List (List ℕ)
matrix zero = (0 ∷ []) ∷ []
matrix (suc n) = next_matrix (matrix n)

-- the rows of a matrix, one after another
abbrev pub joined : List (List ℕ) → List ℕ
joined [] = []
joined (row ∷ rows) = row ++ joined rows

unfoldable pub thresholds : List ℕ
thresholds = joined (matrix 4)

-- each tile has the same thresholds
unfoldable pub threshold_at : ℕ → ℕ → ℕ
threshold_at column row = get_or thresholds (16 * (row % 16) + column % 16) 0

-- the dots that a tint lays left of a column and above a row
unfoldable pub count_before : ℕ → ℕ → ℕ → ℕ
count_before tint column row = sum_below row (λ j. sum_below column (λ i. below (threshold_at i j) tint))
