-- The count at the root is that of the shape that the words hold.
use Rattle.std.proofs.Common.{rules}
use Rattle.tree.proofs.Laws.Operations.{tree-settings}
use Rattle.tree_patch.proofs.Laws.Patches.{root-count, root-counted}
use Rattle.tree_patch.proofs.splits.patch_splits.Goals as goal

pub root-node_data-requires : goal.root-node_data-requires
root-node_data-requires c = search (rules, tree-settings)

pub cell_splits-requires : goal.cell_splits-requires
cell_splits-requires c = search (rules, root-count)

pub returns : goal.returns
returns c = search (rules, root-counted)
