-- One store after another.
use Rattle.std.proofs.Common.{ap, ◌∙◌}
use Rattle.model.specs.Layout.{branch_mark}
use Rattle.memory.specs.declared.node.Node.{Node}
use Rattle.memory.specs.Rows.{set_node_at}
use Rattle.tree_insert.proofs.split.take_group.Goals as goal

pub returns : goal.returns
unfolding branch_mark
returns c = (
  ap (λ (v : Node). v.first) c.node_at-next.ensures,
  c.set_node-2.ensures ∙ (λ i. set_node_at (c.set_node.ensures i) c.args.group (c.empty_leaf.ensures i)),
)
