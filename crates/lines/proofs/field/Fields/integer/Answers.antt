-- The number of the field's bytes.
use Rattle.lines.proofs.Laws.Fields.{field-some, field_none}
use Rattle.lines.proofs.field.Fields.integer.Goals as goal

pub returns-in_err-part : goal.returns-in_err-part
returns-in_err-part c = rw c.from_residual.ensures (field_none c.in_err-part.ensures)

pub returns : goal.returns
returns c = field-some c.in_ok-part.ensures c.integer_of.ensures
