-- The insert is not refused, and one dot more is laid.
use Rattle.std.proofs.Common.{arith}
use Rattle.tree_patch.proofs.Laws.Lay.{next_fits, next-number, lay_refused, lay_laid}
use Rattle.tree_patch.proofs.lay.lay_dot.Goals as goal

pub dot_at-dot-requires : goal.dot_at-dot-requires
dot_at-dot-requires c = next_fits c.requires.1 c.requires.0.progress

pub overflow_add-result : goal.overflow_add-result
overflow_add-result c = omega (arith, next-number c.requires.1 c.requires.0.progress)

pub returns-in-Err-clause-proceeds : goal.returns-in-Err-clause-proceeds
returns-in-Err-clause-proceeds c =
    let inserted = c.insert_dot.ensures.carried_out in
    record { on = λ marks x g. absurd (lay_refused c.requires.1 c.dot_at-dot.ensures _ inserted c.in-Err.is g) }

pub returns-in-Ok-clause-proceeds : goal.returns-in-Ok-clause-proceeds
returns-in-Ok-clause-proceeds c =
    let inserted = c.insert_dot.ensures.carried_out in
    record { on = λ marks x g. lay_laid c.requires.1 c.dot_at-dot.ensures _ inserted c.in-Ok.is c.followed_by.ensures g }
