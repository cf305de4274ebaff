-- The words after the two stores, by what each call ensures.
use Rattle.tree_cleanup.specs.Walks.{turned_nodes}
use Rattle.tree_cleanup.proofs.turn.Goals as goal

pub returns : goal.returns
unfolding turned_nodes
returns c = cc
