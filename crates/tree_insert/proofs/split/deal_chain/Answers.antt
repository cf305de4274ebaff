use Rattle.std.proofs.Common.{arith, ◌+◌, ◌<◌}
use Rattle.std.proofs.Math.Nat.{sub-zero}
use Rattle.model.specs.Memory.{count_at}
use Rattle.memory.specs.Rows.{HasNode, HasPlace, HasRect}
use Rattle.tree_insert.proofs.Laws.Deal.{deal-start, deal-place, deal-child, deal-on, deal-over}
use Rattle.tree_insert.proofs.split.deal_chain.Goals as goal
use Rattle.tree_insert.proofs.split.deal_chain.Goals.{After-route-child, In-loop}

place : (c : In-loop) →
    HasPlace c.loop.dots c.loop.at × HasRect c.args.rects.now c.loop.at
place c =
    deal-place c.loop.invariant (omega arith) c.requires

child : (c : After-route-child) →
    let node = c.args.group + c.route-child.result in
    (c.route-child.result < 5) × HasNode c.loop.nodes node × (count_at c.loop.nodes node < 4294967295)
child c =
    deal-child c.loop.invariant (omega arith) c.rect_at.ensures c.route-child.ensures c.requires

pub loop-init : goal.loop-init
loop-init c = rw (sub-zero c.args.chain.count) deal-start

pub next_at-next-requires : goal.next_at-next-requires
next_at-next-requires c = (place (goal.at.next_at-next-requires c).In-loop).0

pub rect_at-requires : goal.rect_at-requires
rect_at-requires c = (place (goal.at.rect_at-requires c).In-loop).1

pub push_place-requires : goal.push_place-requires
push_place-requires c =
    let to = child (goal.at.push_place-requires c).After-route-child in
    (to.1, (place (goal.at.push_place-requires c).In-loop).0, to.2)

pub loop-preserved : goal.loop-preserved
loop-preserved c =
    deal-on c.loop.invariant (omega arith) c.rect_at.ensures c.route-child.ensures (omega arith) c.next_at-next.ensures
    c.push_place.ensures.0 c.push_place.ensures.1

pub returns : goal.returns
returns c = deal-over c.loop.invariant (omega arith)
