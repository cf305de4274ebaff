-- Refusal 13, the check, then the patch without it.
use Rattle.std.proofs.Common.{ap, not}
use Rattle.model.proofs.Laws.Refusals.{handed-on}
use Rattle.calls.proofs.Laws.Pattern.{checked-shared}
use Rattle.calls.proofs.Laws.Patch.{patch-refused}
use Rattle.calls.proofs.patch.patch.Goals as goal

pub returns-in_err-check-clause-obeys : goal.returns-in_err-check-clause-obeys
returns-in_err-check-clause-obeys c =
    let found = checked-shared c.shared.ensures c.check.ensures in
    rw (handed-on c.from_residual.ensures.1) (patch-refused _ c.in_range.ensures (ap not c.if-not-in_range.false) found c.in_err-check.was)
