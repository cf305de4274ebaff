-- The walk from the root meets what the query lists in the shape that the words hold.
use Rattle.std.proofs.Common.{rules}
use Rattle.tree_query.proofs.Laws.Queries.{tree-root, root-walk, root-met}
use Rattle.tree_query.proofs.query.list_hits.Goals as goal

pub root-cell-requires : goal.root-cell-requires
root-cell-requires c = search (rules, tree-root)

pub walk_node-requires : goal.walk_node-requires
walk_node-requires c = search (rules, root-walk)

pub returns : goal.returns
returns c = search (rules, root-met)
