-- The windows of one axis that an interval from a to b meets: those from first_met on and before past_met (§19.2). Laws.Windows shows that they are.
--     first_met, past_met    two floor divisions of natural numbers; `natural` is 0 for a negative number
--     columns_met, rows_met  the columns and the rows that a rectangle meets, of those that the grid has
--     across_axis, down_axis  the axis of the columns, and of the rows
--     span_length, in_span   how many windows a span has, and whether a window is one of them
use Rattle.std.specs.Prelude.{Bool, cond, ◌&&◌, ℕ, ◌-◌, ◌/◌, min, ℤ, pos, ◌+ℤ◌, ◌-ℤ◌, leb, ltb}
use Rattle.arithmetic.specs.Ints.{natural, least_step}
use Rattle.geometry.specs.declared.aabb.AABB.{AABB}
use Rattle.geometry.specs.Rectangles.{flat}
use Rattle.grid.specs.declared.grid.Grid.{Grid}
use Rattle.grid.specs.declared.grid.Span.{Span}
use Rattle.grid.specs.declared.axis.Axis.{Axis}
use Rattle.grid.specs.Grids.{across, down, columns_of, rows_of}

-- how many windows end before a (at it or before, where a touch is not enough)
unfoldable pub first_met : Bool → ℤ → ℕ → ℤ → ℕ
first_met touching first size a = natural (cond touching ((a -ℤ first) -ℤ pos 1) (a -ℤ first)) / size

-- how many windows begin before b (at it or before, where a touch is enough)
unfoldable pub past_met : Bool → ℤ → ℕ → ℤ → ℕ
past_met touching first size b = least_step (cond touching ((b -ℤ first) +ℤ pos 1) (b -ℤ first)) size

-- of `number` windows
unfoldable pub span_met : Bool → ℤ → ℕ → ℕ → ℤ → ℤ → Span
span_met touching first size number a b =
    record { from = min (first_met touching first size a) number; to = min (past_met touching first size b) number }

-- the axis of the columns, and of the rows
abbrev pub across_axis : Grid → Axis
across_axis g = record { first = g.x; size = g.width; number = g.columns }

abbrev pub down_axis : Grid → Axis
down_axis g = record { first = g.y; size = g.height; number = g.rows }

-- A window has extent on both axes, so a touch is enough just where the rectangle itself is flat, and then on both axes (§3.2).
abbrev pub columns_met : Grid → AABB → Span
columns_met g r = span_met (flat r) g.x (across g) (columns_of g) r.x1 r.x2

abbrev pub rows_met : Grid → AABB → Span
rows_met g r = span_met (flat r) g.y (down g) (rows_of g) r.y1 r.y2

abbrev pub span_length : Span → ℕ
span_length s = s.to - s.from

abbrev pub in_span : Span → ℕ → Bool
in_span s k = leb s.from k && ltb k s.to
