-- The number of the field's bytes.
use Rattle.lines.proofs.Laws.Fields.{natural-some, field_none}
use Rattle.lines.proofs.field.Fields.natural.Goals as goal

pub returns-in_err-part : goal.returns-in_err-part
returns-in_err-part c = rw c.from_residual.ensures (field_none c.in_err-part.ensures)

pub returns : goal.returns
returns c = natural-some _ c.in_ok-part.ensures c.natural_of.ensures
