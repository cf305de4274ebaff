-- The refusals in their order, then the counts.
use Rattle.std.proofs.Common.{ap, not, rules}
use Rattle.tree_grid.proofs.Laws.Reports.{held, report_eleven, report-twelve, report-many, report-counted}
use Rattle.tree_grid.proofs.report.report_row.Goals as goal

pub returns-then-not-sizes_fit : goal.returns-then-not-sizes_fit
returns-then-not-sizes_fit c = report_eleven c.args.state c.args.rects.now c.args.grid _ c.sizes_fit.ensures (ap not c.if-not-sizes_fit.true)

pub returns-then-not-corner_fits : goal.returns-then-not-corner_fits
returns-then-not-corner_fits c = report-twelve c.args.state c.args.rects.now c.args.grid _ (held c.sizes_fit.ensures (ap not c.if-not-sizes_fit.false))
    c.corner_fits.ensures (ap not c.if-not-corner_fits.true)

pub returns-then-row-windows : goal.returns-then-row-windows
returns-then-row-windows c = report-many c.args.state c.args.rects.now c.args.grid _ (held c.sizes_fit.ensures (ap not c.if-not-sizes_fit.false))
    (held c.corner_fits.ensures (ap not c.if-not-corner_fits.false)) c.windows-windows.ensures c.if-row-windows.true

pub returns : goal.returns
returns c = report-counted c.args.state c.args.rects.now c.args.grid _ (held c.sizes_fit.ensures (ap not c.if-not-sizes_fit.false))
    (held c.corner_fits.ensures (ap not c.if-not-corner_fits.false)) c.windows-windows.ensures _ c.if-row-windows.false
    c.count_windows.ensures.totalled (search rules)
