-- The invariant: the places before `place` have been added, the zero rectangles left out.
use Rattle.tree_grid.proofs.Laws.Places.{Passing}
use Rattle.tree_grid.proofs.counts.Counts.add_places.Given as goal

abbrev pub invariant-loop-place : goal.invariant-loop-place
invariant-loop-place l = Passing l.rects l.places l.initial.self l.self l.pass l.place
