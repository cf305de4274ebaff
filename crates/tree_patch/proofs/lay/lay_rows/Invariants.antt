-- A loop whose invariant is that the dots of the rows above are laid.
use Rattle.memory.specs.Lent.{held_mut, SameRows}
use Rattle.tree_patch.specs.Laid.{Proceeds}
use Rattle.tree_patch.proofs.lay.lay_rows.Given as goal

abbrev pub invariant-loop-row : goal.invariant-loop-row
invariant-loop-row l =
    SameRows l.initial.rows l.rows × Proceeds l.patch 0 0 l.initial.laid (held_mut l.initial.rows) 0 l.row l.laid (held_mut l.rows)
