-- An id and a rectangle, to the end.
use Rattle.std.proofs.Common.{refl}
use Rattle.lines.proofs.Laws.Fields.{reads_then}
use Rattle.lines.proofs.Laws.Lines.{call-none, call-last}
use Rattle.lines.specs.declared.line.Call.TheVariants as call
use Rattle.lines.proofs.line.remove_line.Goals as goal

pub returns-in_err-id : goal.returns-in_err-id
returns-in_err-id c = rw c.from_residual.ensures (call-none (λ zs. (_, refl)) c.in_err-id.ensures)

pub returns-in_err-rect : goal.returns-in_err-rect
returns-in_err-rect c = rw c.from_residual-in_err-rect.ensures (call-none (λ zs. (_, refl)) (reads_then c.in_ok-id.ensures c.in_err-rect.ensures))

pub returns : goal.returns
returns c =
    let dot = reads_then c.in_ok-id.ensures c.in_ok-rect.ensures in
    call-last (call.Remove c.in_ok-id.id c.in_ok-rect.rect) dot (λ zs. refl) c.is_empty.ensures c.then_some.ensures
