-- The chain's walk lists what the query meets. The invariant: what has been listed and what is left make the whole (`Rest`).
use Rattle.std.proofs.Common.{◌≡◌}
use Rattle.memory.specs.Lent.{held}
use Rattle.tree_query.proofs.Laws.Chains.{Rest}
use Rattle.tree_query.proofs.walk.walk_chain.Given as goal

abbrev pub invariant-loop-place : goal.invariant-loop-place
invariant-loop-place l =
    let rest = l.place-iterator in
    goal.iterator-loop-place.can_next rest × goal.iterator-loop-place.is_finite rest × (rest.dots.now ≡ l.rows.dots.now)
    × Rest l.query (held l.rows) l.initial.row l.initial.hits l.fn.leaf.first l.fn.leaf.count l.row l.hits rest.at rest.left
