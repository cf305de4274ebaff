-- A loop whose invariant is that the splits counted and those of the leaf reached are the splits of the whole, and that a free group was passed for each;
-- a node's depth bounds its turns.
use Rattle.tree.proofs.Laws.Descent.{steps_left}
use Rattle.memory.specs.Lent.{held}
use Rattle.tree_insert.proofs.Laws.SplitsNeeded.{Counting}
use Rattle.tree_insert.proofs.needed.splits_needed.Given as goal

abbrev pub invariant-descent : goal.invariant-descent
invariant-descent l =
    Counting l.settings (held l.rows) l.chain l.initial.reached l.rect
    l.initial.group l.group l.reached l.bounds l.count l.splits

abbrev pub decreases-descent : goal.decreases-descent
decreases-descent l = steps_left l.reached
