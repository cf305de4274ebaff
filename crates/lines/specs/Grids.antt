-- The line of a grid (§19.5).
--     grid_kinds, grid_values, grid_text      a grid's line
--     GridFits                             a grid that a line can hold
--     GridLineOf                           THE STATEMENT: the grid whose line the bytes are
use Rattle.std.specs.Prelude.{◌≡◌, List, [], ◌∷◌, ◌++◌, Option, Some, None, ℕ, ◌≤◌, ℤ, length}
use Rattle.grid.specs.declared.grid.Grid.{Grid}
use Rattle.lines.specs.Text.{Kind, i32, WithinAll, fields}
use Rattle.lines.specs.Lines.{four}

-- six integers
abbrev pub grid_kinds : List Kind
grid_kinds = four ++ (i32 ∷ i32 ∷ [])

abbrev pub grid_values : Grid → List ℤ
grid_values g = g.x ∷ g.y ∷ g.width ∷ g.height ∷ g.columns ∷ g.rows ∷ []

-- G and the numbers
abbrev pub grid_text : Grid → List ℕ
grid_text g = 71 ∷ fields (grid_values g)

abbrev pub GridFits : Grid → Type 0
GridFits g = WithinAll grid_kinds (grid_values g)

-- §13.2, §13.4: the grid whose text the bytes are; a line of no grid is `None`
abbrev pub GridLineOf : List ℕ → Option Grid → Type 0
GridLineOf bytes (Some g) = (length bytes ≤ 80) × GridFits g × (grid_text g ≡ bytes)
GridLineOf bytes None = length bytes ≤ 80 → (g : Grid) → GridFits g → grid_text g ≡ bytes → ⊥
