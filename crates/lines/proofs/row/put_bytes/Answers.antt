-- The bytes are copied.
use Rattle.std.proofs.Common.{arith, refl}
use Rattle.lines.proofs.Laws.Rows.{put-copied}
use Rattle.lines.proofs.row.put_bytes.Goals as goal

pub returns : goal.returns
returns c = put-copied refl c.requires (omega arith) c.copy_from_slice.ensures.after
