-- A grid of windows (§19.1, §19.3).
--     across, down, columns_of, rows_of      a window's size and the number of windows, on each axis
--     edge, window                         the rectangle of a column and a row
--     windows                              how many windows a grid has
--     sizes_fit, corner_fits                 what refusals 11 and 12 ask
use Rattle.std.specs.Prelude.{Bool, ◌&&◌, ℕ, suc, ◌*◌, ℤ, pos, ◌+ℤ◌}
use Rattle.std.specs.Int.Signed.{le_z}
use Rattle.arithmetic.specs.Ints.{natural}
use Rattle.geometry.specs.declared.aabb.AABB.{AABB}
use Rattle.grid.specs.declared.grid.Grid.{Grid}

-- natural numbers: refusal 11 leaves none that is negative
abbrev pub across : Grid → ℕ
across g = natural g.width

abbrev pub down : Grid → ℕ
down g = natural g.height

abbrev pub columns_of : Grid → ℕ
columns_of g = natural g.columns

abbrev pub rows_of : Grid → ℕ
rows_of g = natural g.rows

-- §19.1: where window k begins on an axis, in whole numbers; it ends where window k + 1 begins
abbrev pub edge : ℤ → ℕ → ℕ → ℤ
edge first size k = first +ℤ pos (k * size)

-- §19.1: the window of a column and a row
abbrev pub window : Grid → ℕ → ℕ → AABB
window g column row = record {
  x1 = edge g.x (across g) column;
  y1 = edge g.y (down g) row;
  x2 = edge g.x (across g) (suc column);
  y2 = edge g.y (down g) (suc row);
}

abbrev pub windows : Grid → ℕ
windows g = columns_of g * rows_of g

-- §19.3: 1 or more
abbrev positive : ℤ → Bool
positive z = le_z (pos 1) z

-- §19.3: 1 to 64
abbrev one_to_sixty_four : ℤ → Bool
one_to_sixty_four z = le_z (pos 1) z && le_z z (pos 64)

-- §19.3: what refusal 11 tests
unfoldable pub sizes_fit : Grid → Bool
sizes_fit g = (positive g.width && positive g.height) && (one_to_sixty_four g.columns && one_to_sixty_four g.rows)

-- §19.3: what refusal 12 tests: where the last column and the last row end
unfoldable pub corner_fits : Grid → Bool
corner_fits g = le_z (edge g.x (across g) (columns_of g)) (pos 1073741823) && le_z (edge g.y (down g) (rows_of g)) (pos 1073741823)
