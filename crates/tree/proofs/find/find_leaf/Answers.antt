use Rattle.std.proofs.Common.{arith, ◌+◌, ◌<◌}
use Rattle.memory.specs.Rows.{HasNode}
use Rattle.tree.proofs.Laws.Descent.{root-has, down-start, down-depth, down-node, down-less, down-on, down-arrived}
use Rattle.tree.proofs.find.find_leaf.Goals as goal
use Rattle.tree.proofs.find.find_leaf.Goals.{After-route-child}

child : (c : After-route-child) →
    (c.route-child.result < 5) × HasNode c.args.nodes.now (c.loop-node.words.first + c.route-child.result)
child c =
    down-node c.requires c.root-data.ensures c.loop-node.invariant c.is_branch.ensures c.loop-node-test.true c.route-child.ensures

pub toward-data-requires : goal.toward-data-requires
toward-data-requires c =
    let low = down-depth c.requires c.root-data.ensures c.loop-node.invariant c.is_branch.ensures c.loop-node-test.true c.route-child.ensures in
    (c.loop-node.invariant.range, omega (arith, low), c.route-child.ensures)

pub loop-node-smaller : goal.loop-node-smaller
loop-node-smaller c = down-less c.requires c.root-data.ensures c.loop-node.invariant c.is_branch.ensures c.loop-node-test.true
    c.route-child.ensures c.toward-data.ensures

pub loop-node-preserved : goal.loop-node-preserved
loop-node-preserved c = down-on c.requires c.root-data.ensures c.loop-node.invariant c.is_branch.ensures c.loop-node-test.true
    c.route-child.ensures c.toward-data.ensures c.node_at-words-in-loop-node.ensures

pub returns : goal.returns
returns c = down-arrived c.requires c.root-data.ensures c.loop-node.invariant c.is_branch.ensures c.loop-node-test.false

pub node_at-words-requires : goal.node_at-words-requires
node_at-words-requires c = root-has c.requires

pub loop-node-init : goal.loop-node-init
loop-node-init c = down-start c.requires c.root-data.ensures c.node_at-words.ensures

pub node_at-words-requires-in-loop-node : goal.node_at-words-requires-in-loop-node
node_at-words-requires-in-loop-node c = (child (goal.at.node_at-words-requires-in-loop-node c).After-route-child).1
