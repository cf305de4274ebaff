use Rattle.std.proofs.Common.{arith}
use Rattle.tree_insert.specs.LeafSplit.{Splittable}
use Rattle.tree_insert.proofs.Laws.SplitDown.{down-splits, down_data, down-on}
use Rattle.tree_insert.proofs.split.split_down.Goals as goal
use Rattle.tree_insert.proofs.split.split_down.Goals.{After-route-child, In-loop}

here : (c : In-loop) →
    Splittable c.loop.nodes c.loop.dots c.args.rects.now c.loop.node c.loop.head
here c =
    down-splits c.requires c.loop.invariant (omega arith)

pub child-node_data-requires : goal.child-node_data-requires
child-node_data-requires c =
    let known = down_data c.requires c.loop.invariant (omega arith) in
    (known.0, omega (arith, known.1))

pub loop-preserved : goal.loop-preserved
loop-preserved c =
    down-on c.requires c.loop.invariant (omega arith) (omega arith) c.split_leaf-next.auto.nodes c.split_leaf-next.auto.dots
    c.split_leaf-next.ensures c.route-child.ensures c.child-node_data.ensures

pub split_leaf-next-requires : goal.split_leaf-next-requires
split_leaf-next-requires c = here (goal.at.split_leaf-next-requires c).In-loop
