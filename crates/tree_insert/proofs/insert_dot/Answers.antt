-- The landing's refusal, or the insert at its leaf.
use Rattle.model.proofs.Laws.Refusals.{handed-on}
use Rattle.memory.specs.Lent.{held_mut}
use Rattle.tree_insert.specs.Landing.{Lands}
use Rattle.tree_insert.proofs.Laws.Answers.{insert-refused, insert_done}
use Rattle.tree_insert.proofs.insert_dot.Goals as goal
use Rattle.tree_insert.proofs.insert_dot.Goals.{After-land}

landed : (c : After-land) → Lands c.args.state c.args.dot (held_mut c.args.rows.now) c.land.result
landed c = rw (← c.shared.ensures.0, ← c.shared.ensures.1, ← c.shared.ensures.2) c.land.ensures

pub returns-in_err-landing-clause-carried_out : goal.returns-in_err-landing-clause-carried_out
returns-in_err-landing-clause-carried_out c =
    let lands = landed (goal.at.returns-in_err-landing-clause-carried_out c).After-land in
    rw (handed-on c.from_residual.ensures.1) (insert-refused c.args.dot c.land.result lands c.in_err-landing.was)

pub returns-clause-carried_out : goal.returns-clause-carried_out
returns-clause-carried_out c =
    let lands = landed (goal.at.returns-clause-carried_out c).After-land in
    insert_done c.args.dot c.land.result lands c.in_ok-landing.was c.insert_at-after.ensures.inserted
