-- The loop's invariant: the nodes before `node` hold their fresh words.
use Rattle.std.proofs.Common.{ℕ, ◌<◌, ◌≡◌}
use Rattle.memory.specs.Nodes.{node_at}
use Rattle.memory.specs.Fresh.{fresh_node}
use Rattle.memory.proofs.fresh.make_nodes.Given as goal

abbrev pub invariant-loop-node : goal.invariant-loop-node
invariant-loop-node l = (k : ℕ) → k < l.node → node_at l.nodes k ≡ fresh_node l.groups k
