-- The first of the bytes are written behind the part that is kept.
use Rattle.std.proofs.Common.{rules, arith}
use Rattle.line_reader.proofs.Laws.Steps.{kept-bytes}
use Rattle.line_reader.proofs.keep.Goals as goal

pub returns : goal.returns
returns c = kept-bytes c.requires c.min-count.ensures (omega arith) (search rules)
