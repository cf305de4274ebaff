use Rattle.std.proofs.Common.{arith}
use Rattle.model.specs.Layout.{none}
use Rattle.memory.specs.Rows.{HasNode}
use Rattle.tree_insert.proofs.Laws.FreeGroups.{walk_here}
use Rattle.tree_insert.proofs.Laws.SplitsNeeded.{need_start, need_depth, need_fall, need_on, need_short, need_done}
use Rattle.tree_insert.proofs.needed.splits_needed.Goals as goal
use Rattle.tree_insert.proofs.needed.splits_needed.Goals.{Else-group}

here : (c : Else-group) →
    HasNode c.args.rows.nodes.now c.descent.group
unfolding none
here c =
    walk_here c.descent.invariant.walk c.requires.1 c.if-group.false

pub returns-then-group : goal.returns-then-group
unfolding none
returns-then-group c = need_short c.descent.invariant c.requires.0 c.must_split.ensures c.descent-test.true c.if-group.true

pub child-reached-requires : goal.child-reached-requires
child-reached-requires c = (c.descent.invariant.range, omega (arith, need_depth c.descent.invariant c.requires.0 c.must_split.ensures c.descent-test.true))

pub descent-smaller : goal.descent-smaller
descent-smaller c = need_fall c.descent.invariant c.requires.0 c.must_split.ensures c.descent-test.true _ c.child-reached.ensures

pub descent-preserved : goal.descent-preserved
unfolding none
descent-preserved c = need_on c.descent.invariant c.requires.0 c.must_split.ensures c.descent-test.true c.if-group.false c.node_at-group.ensures
    c.route-child.ensures c.child-reached.ensures c.below-bounds.ensures c.count_within-count.ensures

pub returns : goal.returns
returns c = need_done c.descent.invariant c.requires.0 c.must_split.ensures c.descent-test.false

pub descent-init : goal.descent-init
descent-init c = need_start c.requires.0 c.all-bounds.ensures

pub node_at-group-requires : goal.node_at-group-requires
node_at-group-requires c = here (goal.at.node_at-group-requires c).Else-group
