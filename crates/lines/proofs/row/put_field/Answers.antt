-- A comma, then the number.
use Rattle.std.proofs.Common.{rules}
use Rattle.lines.proofs.Laws.Rows.{put_field_lem}
use Rattle.lines.proofs.row.put_field.Goals as goal

pub returns : goal.returns
returns c = search (rules, put_field_lem)
