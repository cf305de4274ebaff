-- The bit, by its law.
use Rattle.std.proofs.Common.{rules}
use Rattle.arithmetic.proofs.Laws.Bits.{read-bit}
use Rattle.arithmetic.proofs.bit_at.Goals as goal

pub returns : goal.returns
returns c = search (read-bit, rules)
