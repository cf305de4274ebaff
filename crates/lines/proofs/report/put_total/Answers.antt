-- The word, the number's field, the LF.
use Rattle.std.proofs.Common.{rules, arith}
use Rattle.lines.proofs.Laws.Report.{put-total_line}
use Rattle.lines.proofs.Laws.Rows.{field_ends}
use Rattle.lines.proofs.report.put_total.Goals as goal

pub returns : goal.returns
returns c = search (rules, put-total_line)

pub put_byte-requires : goal.put_byte-requires
put_byte-requires c = omega (arith, field_ends)
