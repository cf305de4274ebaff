-- One change more fits the count.
use Rattle.std.proofs.Common.{arith}
use Rattle.model.proofs.Laws.Calls.{count_fits}
use Rattle.model.proofs.State.changed.Goals as goal

pub overflow_add-result : goal.overflow_add-result
overflow_add-result c = omega (arith, count_fits)
