-- A dot that the query asks for is kept at the next position; any other changes nothing.
use Rattle.std.proofs.Common.{ap, not}
use Rattle.tree_query.proofs.Laws.Chains.{dot-unreached, dot-missed, dot-hit}
use Rattle.tree_query.proofs.walk.list_dot.Goals as goal

pub returns-then-not-reaches : goal.returns-then-not-reaches
returns-then-not-reaches c = let a = c.args in search (dot-unreached a.query a.dot a.row.now a.hits)

pub returns-then-not-is_hit : goal.returns-then-not-is_hit
returns-then-not-is_hit c = let a = c.args in search (dot-missed a.query a.dot a.row.now a.hits)

pub returns : goal.returns
returns c =
    let a = c.args in
    dot-hit a.query a.dot a.row.now a.hits c.is_hit.ensures (ap not c.if-not-is_hit.false) _ c.keep.ensures
