-- The splits keep the insert on its way, and the push ends it.
use Rattle.std.proofs.Common.{arith}
use Rattle.memory.specs.Lent.{holding}
use Rattle.tree_insert.specs.Push.{CanPush}
use Rattle.tree_insert.proofs.Laws.InsertAt.{starts-splits, starts-live, starts_push, pushed_holds}
use Rattle.tree_insert.proofs.insert_at.Goals as goal
use Rattle.tree_insert.proofs.insert_at.Goals.{After-split_down-reached}

push : (c : After-split_down-reached) →
    let split = c.split_down-reached in
    CanPush (holding split.new.nodes split.new.dots c.args.rows.now.rects.now) split.result.node c.args.state.free_place
push c =
    starts_push c.requires.starts c.split_down-reached.ensures

pub split_down-reached-requires : goal.split_down-reached-requires
split_down-reached-requires c = starts-splits c.requires.starts

pub overflow_add-state : goal.overflow_add-state
overflow_add-state c = omega (arith, starts-live c.requires.starts)

pub returns-clause-inserted : goal.returns-clause-inserted
returns-clause-inserted c marks x begun =
    pushed_holds begun c.split_down-reached.ensures (rw (← c.shared.ensures.1) c.next_at-next.ensures) c.changed.ensures c.push_dot.ensures.pushed

pub next_at-next-requires : goal.next_at-next-requires
next_at-next-requires c = rw c.shared.ensures.1 (push (goal.at.next_at-next-requires c).After-split_down-reached).place

pub push_dot-requires : goal.push_dot-requires
push_dot-requires c = push (goal.at.push_dot-requires c).After-split_down-reached
