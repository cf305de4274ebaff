-- A walk with no room writes nothing.
use Rattle.std.proofs.Common.{rules}
use Rattle.tree_query.proofs.Laws.Queries.{met-counted}
use Rattle.tree_query.proofs.query.count_hits.Goals as goal

pub returns : goal.returns
returns c = search (rules, met-counted)
