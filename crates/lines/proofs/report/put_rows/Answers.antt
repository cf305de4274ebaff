use Rattle.std.proofs.Common.{arith, refl, ◌*◌}
use Rattle.lines.proofs.Laws.Report.{cut_length, rows_none, rows_more, rows_end, row_below}
use Rattle.lines.proofs.report.put_rows.Goals as goal

pub loop-row-init : goal.loop-row-init
loop-row-init c = search rows_none

pub put_row-next-requires : goal.put_row-next-requires
put_row-next-requires c =
    let first = c.loop-row.row * c.args.columns in
    let below = row_below c.args.columns c.args.rows c.loop-row.row (omega arith) refl in
    let end = rows_end _ _ _ c.requires.0 (omega arith) c.loop-row.invariant in
    let long = cut_length c.args.columns first c.args.counts.now (omega (arith, below)) in
    (omega (arith, long), omega arith, omega (arith, below, end, long))

pub loop-row-preserved : goal.loop-row-preserved
loop-row-preserved c =
    let below = row_below c.args.columns c.args.rows c.loop-row.row (omega arith) refl in
    rows_more _ _ _ refl (omega arith) (omega (arith, below)) c.loop-row.invariant c.put_row-next.ensures
