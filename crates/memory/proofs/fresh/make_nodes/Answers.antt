use Rattle.std.proofs.Common.{arith}
use Rattle.memory.proofs.Laws.Fresh.{fresh_node-more}
use Rattle.memory.proofs.fresh.make_nodes.Goals as goal

pub loop-node-preserved : goal.loop-node-preserved
loop-node-preserved c =
    λ k b. rw c.set_node.ensures (fresh_node-more _ _ _ (omega (arith, c.requires.1)) c.loop-node.invariant _ c.fresh_node.ensures k b)
