-- The letter, the numbers, the LF.
use Rattle.std.proofs.Common.{arith, rules}
use Rattle.lines.proofs.Laws.Rows.{fields_end, written}
use Rattle.lines.proofs.answer.answer_numbers.Goals as goal

pub put_byte-requires : goal.put_byte-requires
put_byte-requires c = omega (arith, fields_end)

pub returns : goal.returns
returns c = search (rules, written)
