-- Four fields, one after another.
use Rattle.std.proofs.Common.{rules}
use Rattle.lines.proofs.Laws.Fields.{reads_then, reads_less, four_read}
use Rattle.lines.proofs.field.Fields.rect.Goals as goal

pub returns-in_err-x1 : goal.returns-in_err-x1
returns-in_err-x1 c = rw c.from_residual.ensures (reads_less _ c.in_err-x1.ensures)

pub returns-in_err-y1 : goal.returns-in_err-y1
returns-in_err-y1 c = rw c.from_residual-in_err-y1.ensures (reads_less _ (reads_then c.in_ok-x1.ensures c.in_err-y1.ensures))

pub returns-in_err-x2 : goal.returns-in_err-x2
returns-in_err-x2 c = rw c.from_residual-in_err-x2.ensures (reads_less _ (reads_then c.in_ok-x1.ensures (reads_then c.in_ok-y1.ensures c.in_err-x2.ensures)))

pub returns-in_err-y2 : goal.returns-in_err-y2
returns-in_err-y2 c =
    rw c.from_residual-in_err-y2.ensures
    (reads_then c.in_ok-x1.ensures (reads_then c.in_ok-y1.ensures (reads_then c.in_ok-x2.ensures c.in_err-y2.ensures)))

pub returns : goal.returns
returns c = search (four_read, rules)
