-- The walk from the root writes the numbers of the leaves of the shape that the words hold.
use Rattle.std.proofs.Common.{rules}
use Rattle.tree_query.proofs.Laws.Leaves.{leaf-settings, root-leaves, leaves-met}
use Rattle.tree_query.proofs.leaves.list_leaves.Goals as goal

pub root-root-requires : goal.root-root-requires
root-root-requires c = search (rules, leaf-settings)

pub leaf_node-requires : goal.leaf_node-requires
leaf_node-requires c = search (rules, root-leaves)

pub returns : goal.returns
returns c = search (rules, leaves-met)
