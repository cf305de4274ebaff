-- A part with a minus sign, and a part without.
use Rattle.std.proofs.Common.{rules}
use Rattle.lines.proofs.Laws.Digits.{first-byte, minus_none, minus-zero, minus_some}
use Rattle.lines.proofs.number.integer_of.Goals as goal

pub returns-in_err-n-in-45 : goal.returns-in_err-n-in-45
returns-in_err-n-in-45 c = search (rules, first-byte, minus_none)

pub returns-then-n-gt0 : goal.returns-then-n-gt0
returns-then-n-gt0 c = minus_some (search (rules, first-byte)) c.natural_of.ensures c.in_ok-n-in-45.was c.if-n-gt0.true c.checked_sub_unsigned.ensures

pub returns-else-n-gt0 : goal.returns-else-n-gt0
returns-else-n-gt0 c = search (rules, first-byte, minus-zero)
