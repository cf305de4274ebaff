-- The records done so far, and one more.
use Rattle.std.proofs.Common.{add-one, arith}
use Rattle.memory.proofs.Laws.Lent.{same-rows-then}
use Rattle.batch_step.proofs.Laws.Runs.{run-ready, run-step}
use Rattle.batch_step.proofs.all.carry_out_all.Goals as goal

pub one-after-requires : goal.one-after-requires
one-after-requires g c = (run-ready _ _ c.loop-i.invariant.1 c.requires.0, omega arith)

pub loop-i-preserved : goal.loop-i-preserved
loop-i-preserved g c =
    let done = c.one-after.ensures in
    let stepped = rw c.at.ensures at done.stepped in (
      same-rows-then c.loop-i.invariant.0 done.same_rows,
      rw (add-one c.loop-i.i) (run-step _ _ c.loop-i.invariant.1 (omega arith) c.requires.1 stepped),
      omega arith,
    )
