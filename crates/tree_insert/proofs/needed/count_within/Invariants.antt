-- A loop whose invariant is that the count so far and that of what is left are the whole count.
use Rattle.std.proofs.Common.{◌≡◌}
use Rattle.memory.specs.Lent.{held}
use Rattle.tree_insert.proofs.Laws.SplitsNeeded.{Tallying}
use Rattle.tree_insert.proofs.needed.count_within.Given as goal

abbrev pub invariant-loop-place : goal.invariant-loop-place
invariant-loop-place l =
    let rest = l.place-iterator in
    goal.iterator-loop-place.can_next rest × goal.iterator-loop-place.is_finite rest × (rest.dots.now ≡ l.rows.dots.now)
    × Tallying (held l.rows) l.fn.chain l.bounds rest.at rest.left l.count
