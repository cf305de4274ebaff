-- The loop's invariant: the node reached after so many children of the row.
use Rattle.geometry_export.proofs.Paths.{Walked}
use Rattle.geometry_export.proofs.walk.Given as goal

abbrev pub invariant-loop-child : goal.invariant-loop-child
invariant-loop-child l = Walked l.initial.node l.child-items l.node l.child-index
