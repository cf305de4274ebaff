-- A row of another length, a refusal, or the records carried out, with the state in its row.
use Rattle.std.proofs.Common.{ap, not, refl, rules}
use Rattle.krakvinge.proofs.Laws.Records.{batch-twelve, batch-out}
use Rattle.host_rows.proofs.Laws.Rows.{kept_row}
use Rattle.krakvinge.proofs.Laws.Exports.{exported_other, exported_changed}
use Rattle.krakvinge.proofs.batching.krakvinge_batch.Goals as goal

pub returns-then-not-batch_fits : goal.returns-then-not-batch_fits
returns-then-not-batch_fits c = rw c.refused.ensures (exported_other c.batch_fits.ensures (ap not c.if-not-batch_fits.true))

pub state_in-before-requires : goal.state_in-before-requires
state_in-before-requires c = batch-twelve _ _ c.batch_fits.ensures (ap not c.if-not-batch_fits.false)

pub state_out-requires : goal.state_out-requires
state_out-requires c = batch-twelve _ _ c.batch_fits.ensures (ap not c.if-not-batch_fits.false)

pub returns-in-Err : goal.returns-in-Err
returns-in-Err c =
    let said = rw c.in-Err.is at c.batch.ensures.obeys in
    let before = c.state_in-before.ensures in
    exported_changed (λ t. t) _ c.batch_fits.ensures (ap not c.if-not-batch_fits.false)
    before.0 said (search rules) (kept_row _ before.1 _) (batch-out c.in-Err.refusal c.refused-in-Err.ensures)

pub returns-in-Ok : goal.returns-in-Ok
returns-in-Ok c =
    let said = rw c.in-Ok.is at c.batch.ensures.obeys in
    exported_changed (λ t. c.in-Ok.done.state) _ c.batch_fits.ensures (ap not c.if-not-batch_fits.false)
    c.state_in-before.ensures.0 said (search rules) c.state_out.ensures (record { answer = refl; returned = refl })
