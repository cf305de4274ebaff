-- The test of the definition, by a difference.
use Rattle.std.proofs.Common.{arith}
use Rattle.model.proofs.Laws.Calls.{count_left}
use Rattle.model.proofs.State.can_count.Goals as goal

pub returns : goal.returns
returns c = count_left _ _ (omega arith)
