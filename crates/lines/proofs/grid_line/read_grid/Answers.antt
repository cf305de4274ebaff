-- A rectangle and two integers, to the end.
use Rattle.std.proofs.Common.{rules, refl}
use Rattle.lines.proofs.Laws.Digits.{first-byte}
use Rattle.lines.proofs.Laws.Fields.{reads_then}
use Rattle.lines.proofs.Laws.Grids.{grid_none, grid_last}
use Rattle.lines.proofs.grid_line.read_grid.Goals as goal

pub returns-in_err-first : goal.returns-in_err-first
returns-in_err-first c =
    rw c.from_residual.ensures (grid_none c.if-line-gt80.false (search (rules, first-byte)) _ refl c.in_err-first.ensures)

pub returns-in_err-columns : goal.returns-in_err-columns
returns-in_err-columns c =
    rw c.from_residual-in_err-columns.ensures
    (grid_none c.if-line-gt80.false (search (rules, first-byte)) _ refl (reads_then c.in_ok-first.ensures c.in_err-columns.ensures))

pub returns-in_err-rows : goal.returns-in_err-rows
returns-in_err-rows c =
    let numbers = reads_then c.in_ok-columns.ensures c.in_err-rows.ensures in
    rw c.from_residual-in_err-rows.ensures
    (grid_none c.if-line-gt80.false (search (rules, first-byte)) _ refl (reads_then c.in_ok-first.ensures numbers))

pub returns : goal.returns
returns c =
    grid_last c.if-line-gt80.false (search (rules, first-byte)) c.then_some.ensures c.is_empty.ensures
    c.in_ok-first.ensures c.in_ok-columns.ensures c.in_ok-rows.ensures (search rules) (search rules) (search rules) (search rules) (search rules) (search rules)
