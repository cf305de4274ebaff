-- The check's refusal, or all records.
use Rattle.std.proofs.Common.{Ok, Err}
use Rattle.model.proofs.Laws.Refusals.{handed-on}
use Rattle.batch.proofs.Laws.Runs.{batch-tree, batch-refused, batch-done, count_done}
use Rattle.batch.proofs.batch.Goals as goal

pub carry_out_all-after-requires : goal.carry_out_all-after-requires
carry_out_all-after-requires g c =
    let read = c.shared.ensures in
    let begun = rw (c.count-count.ensures, read.0, read.1, read.2) at c.begin.ensures in
    batch-tree _ _ begun c.in_ok-begin.was

pub returns-in_err-begin-clause-obeys : goal.returns-in_err-begin-clause-obeys
returns-in_err-begin-clause-obeys g c =
    let read = c.shared.ensures in
    let begun = rw (c.count-count.ensures, read.0, read.1, read.2) at c.begin.ensures in
    rw (handed-on c.from_residual.ensures.1) (batch-refused _ _ begun c.in_err-begin.was)

pub returns-in_err-begin-clause-count : goal.returns-in_err-begin-clause-count
returns-in_err-begin-clause-count g c = rw (handed-on c.from_residual.ensures.1) (count_done _ (Err _) tt)

pub returns-clause-obeys : goal.returns-clause-obeys
returns-clause-obeys g c =
    let read = c.shared.ensures in
    let begun = rw (c.count-count.ensures, read.0, read.1, read.2) at c.begin.ensures in
    batch-done _ _ begun c.in_ok-begin.was c.carry_out_all-after.ensures.carried_out

pub returns-clause-count : goal.returns-clause-count
returns-clause-count g c = count_done _ (Ok (record { count = c.count-count.result; state = c.carry_out_all-after.result })) c.count-count.ensures
