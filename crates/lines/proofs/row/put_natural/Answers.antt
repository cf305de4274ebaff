-- The text is the number's.
use Rattle.std.proofs.Common.{rules}
use Rattle.lines.proofs.Laws.Digits.{decimal-std}
use Rattle.lines.proofs.Laws.Rows.{put_is}
use Rattle.lines.proofs.row.put_natural.Goals as goal

pub returns : goal.returns
returns c = put_is (search (rules, decimal-std)) c.put_bytes.ensures
