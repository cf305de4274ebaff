use Rattle.std.proofs.Common.{arith}
use Rattle.lines.proofs.Laws.Report.{row-none, row_more, row_end}
use Rattle.lines.proofs.report.put_row.Goals as goal

pub loop-column-init : goal.loop-column-init
loop-column-init c = search row-none

pub put_window-next-requires : goal.put_window-next-requires
put_window-next-requires c =
    let end = row_end _ _ _ _ (omega arith) c.requires.1 c.loop-column.invariant in
    (omega arith, omega arith, omega (arith, end))

pub loop-column-preserved : goal.loop-column-preserved
loop-column-preserved c = row_more _ _ _ 0 (omega arith) c.loop-column.invariant c.put_window-next.ensures
