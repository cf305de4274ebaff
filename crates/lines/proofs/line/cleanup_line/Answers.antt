-- Nothing follows the letter.
use Rattle.std.proofs.Common.{refl}
use Rattle.lines.proofs.Laws.Lines.{call-nothing, call-last}
use Rattle.lines.specs.declared.line.Call.TheVariants as call
use Rattle.lines.proofs.line.cleanup_line.Goals as goal

pub returns : goal.returns
returns c = call-last call.Cleanup call-nothing (λ zs. refl) c.is_empty.ensures c.then_some.ensures
