-- The letter, the two counts, the ids, the LF.
use Rattle.std.proofs.Common.{arith, ℕ, length-take}
use Rattle.std.proofs.lemmas.List.{take_min}
use Rattle.lines.proofs.Laws.Rows.{field_ends, fields_end, field_then, fields-same, written}
use Rattle.lines.proofs.answer.answer_query.Goals as goal

pub put_field-third-requires : goal.put_field-third-requires
put_field-third-requires c = omega (arith, field_ends)

pub put_fields-end-requires : goal.put_fields-end-requires
put_fields-end-requires c = omega (arith, field_ends, length-take {A = ℕ})

pub put_byte-requires : goal.put_byte-requires
put_byte-requires c = omega (arith, field_ends, fields_end, length-take {A = ℕ})

pub returns : goal.returns
returns c =
    let row = fields-same (rw c.min-listed.ensures (take_min _ _)) c.put_fields-end.ensures in
    written _ _ c.put_byte-first.ensures (field_then _ _ c.put_field-second.ensures (field_then _ _ c.put_field-third.ensures row))
    c.put_byte.ensures
