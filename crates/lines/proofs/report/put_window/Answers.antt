-- The column, the row's field, the count's, the LF.
use Rattle.std.proofs.Common.{arith, rules}
use Rattle.lines.proofs.Laws.Digits.{decimal-two}
use Rattle.lines.proofs.Laws.Report.{field_two, put-line}
use Rattle.lines.proofs.Laws.Rows.{field_ends}
use Rattle.lines.proofs.report.put_window.Goals as goal

pub put_field-second-requires : goal.put_field-second-requires
put_field-second-requires c = omega (arith, decimal-two c.args.column c.requires.0)

pub put_field-end-requires : goal.put_field-end-requires
put_field-end-requires c = omega (arith, decimal-two c.args.column c.requires.0, field_two c.args.row c.requires.1)

pub put_byte-requires : goal.put_byte-requires
put_byte-requires c = omega (arith, decimal-two c.args.column c.requires.0, field_two c.args.row c.requires.1, field_ends)

pub returns : goal.returns
returns c = search (rules, put-line)
