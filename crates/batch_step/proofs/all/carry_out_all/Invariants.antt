-- The first i records are carried out.
use Rattle.std.proofs.Common.{◌≡◌, length, take}
use Rattle.memory.specs.Lent.{held_mut, SameRows}
use Rattle.batch_step.specs.Runs.{AllCarriedOut}
use Rattle.batch_step.proofs.all.carry_out_all.Given as goal

abbrev pub invariant-loop-i : goal.invariant-loop-i
invariant-loop-i g l =
    SameRows l.fn.rows l.rows
    × AllCarriedOut (take l.i (g.R.Records.list l.records)) l.fn.state l.fn.answers (held_mut l.fn.rows) l.after l.answers (held_mut l.rows)
    × (length l.answers ≡ length l.fn.answers)
