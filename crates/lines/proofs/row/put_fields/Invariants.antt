-- The invariant: the fields of the numbers passed are in the row, at most 11 bytes each.
use Rattle.std.proofs.Common.{map, pos, take, ◌*◌, ◌+◌, ◌≤◌}
use Rattle.lines.specs.Reading.{Put}
use Rattle.lines.specs.Text.{fields}
use Rattle.lines.proofs.row.put_fields.Given as goal

abbrev pub invariant-loop-n : goal.invariant-loop-n
invariant-loop-n l = record {
  so_far : Put l.initial.out l.at (fields (map pos (take l.n-index l.numbers))) l.out l.next;
  room : l.next ≤ l.at + 11 * l.n-index;
}
