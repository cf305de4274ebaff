-- One field after another.
use Rattle.std.proofs.Common.{arith, rules}
use Rattle.lines.proofs.Laws.Rows.{put-nothing, put-more, field_ends}
use Rattle.lines.proofs.row.put_fields.Goals as goal

pub loop-n-init : goal.loop-n-init
loop-n-init c = record { so_far = put-nothing _ _; room = omega arith }

pub loop-n-preserved : goal.loop-n-preserved
loop-n-preserved c = record { so_far = put-more _ _ (search rules) c.loop-n.invariant.so_far c.put_field-next.ensures; room = omega (arith, field_ends) }
