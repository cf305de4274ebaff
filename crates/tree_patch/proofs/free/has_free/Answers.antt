use Rattle.model.specs.Layout.{none}
use Rattle.tree_insert.proofs.Laws.FreeGroups.{walk_here, walk-on}
use Rattle.tree_patch.proofs.Laws.FreeGroups.{free-short}
use Rattle.tree_patch.proofs.free.has_free.Goals as goal

pub returns-then-at : goal.returns-then-at
unfolding none
returns-then-at c = search free-short

pub node_at-at-requires : goal.node_at-at-requires
unfolding none
node_at-at-requires c = search walk_here

pub loop-preserved : goal.loop-preserved
unfolding none
loop-preserved c = search walk-on
