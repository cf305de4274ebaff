-- The ids of the chain are written. The invariant: what has been written and what is left make the whole (`Rest`).
use Rattle.std.proofs.Common.{◌≡◌, ◌+◌}
use Rattle.tree_all.proofs.Laws.Chains.{Rest}
use Rattle.tree_all.proofs.walk.list_chain.Given as goal

abbrev pub invariant-loop-i : goal.invariant-loop-i
invariant-loop-i l =
    let rest = l.i-iterator.iter in
    goal.iterator-loop-i.can_next l.i-iterator × goal.iterator-loop-i.is_finite l.i-iterator × (rest.dots.now ≡ l.dots)
    × Rest l.dots l.initial.row l.start l.leaf.first l.leaf.count l.row (l.start + l.i-iterator.count) rest.at rest.left
