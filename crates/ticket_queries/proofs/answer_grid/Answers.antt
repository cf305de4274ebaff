-- The report's answer, by its cases, and the lines written for it.
use Rattle.std.proofs.Common.{rules}
use Rattle.ticket.proofs.Laws.Report.{grid_refused, report-asks, grid_reported}
use Rattle.ticket_queries.proofs.answer_grid.Goals as goal

pub answer_report-requires : goal.answer_report-requires
answer_report-requires c =
    let asked = report-asks _ c.args.grid _ _ _ c.in-Ok.is c.grid_report.ensures
    c.column_count.ensures c.row_count.ensures (search rules) c.requires in
    record { columns_bound = asked.0; rows_in_bounds = asked.1 }

pub returns-in-Err : goal.returns-in-Err
returns-in-Err c = search (rules, grid_refused)

pub returns-in-Ok : goal.returns-in-Ok
returns-in-Ok c = search (rules, grid_reported)
