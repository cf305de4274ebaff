-- A loop whose invariant is that the dots to the left of the column are laid, and that it is a dot's or the row's end.
use Rattle.std.proofs.Common.{true, ◌*◌, ◌-◌, ◌<◌, ◌≡◌, ◌≤◌}
use Rattle.model.specs.Patch.{has_dot}
use Rattle.memory.specs.Lent.{held_mut, SameRows}
use Rattle.tree_patch.specs.Laid.{Proceeds}
use Rattle.tree_patch.proofs.lay.lay_row.Given as goal

abbrev pub invariant-loop-column : goal.invariant-loop-column
invariant-loop-column l = (l.column ≤ 16 * l.patch.columns) × (l.column < 16 * l.patch.columns → has_dot l.patch l.column l.row ≡ true)
    × SameRows l.initial.rows l.rows
    × Proceeds l.patch 0 l.row l.initial.laid (held_mut l.initial.rows) l.column l.row l.laid (held_mut l.rows)

abbrev pub decreases-loop-column : goal.decreases-loop-column
decreases-loop-column l = l.width - l.column
