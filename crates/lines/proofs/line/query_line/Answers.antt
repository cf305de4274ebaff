-- A rectangle, to the end.
use Rattle.std.proofs.Common.{refl}
use Rattle.lines.proofs.Laws.Lines.{call-none, call-last}
use Rattle.lines.specs.declared.line.Call.TheVariants as call
use Rattle.lines.proofs.line.query_line.Goals as goal

pub returns-in_err-rect : goal.returns-in_err-rect
returns-in_err-rect c = rw c.from_residual.ensures (call-none (λ zs. (_, refl)) c.in_err-rect.ensures)

pub returns : goal.returns
returns c = call-last (call.Query c.in_ok-rect.rect) c.in_ok-rect.ensures (λ zs. refl) c.is_empty.ensures c.then_some.ensures
