-- Six words, four of them by `signed`.
use Rattle.std.proofs.Common.{get_or, w32, ◌+◌}
use Rattle.arithmetic.proofs.Laws.Linear.{got}
use Rattle.host_rows.specs.Rows.{dot_in}
use Rattle.host_rows.proofs.rows.dot_in.Goals as goal

pub returns : goal.returns
unfolding dot_in
returns c =
    let row = c.args.row.now in
    let at = c.args.at in
    let x1 = got w32 c.signed-x1.type_inv c.signed-x1.ensures in
    let y1 = got w32 c.signed-y1.type_inv c.signed-y1.ensures in
    let x2 = got w32 c.signed-x2.type_inv c.signed-x2.ensures in
    let y2 = got w32 c.signed-y2.type_inv c.signed-y2.ensures in
    λ k. record { id = get_or row at 0; rect = record { x1 = x1 k; y1 = y1 k; x2 = x2 k; y2 = y2 k }; ink = get_or row (at + 5) 0 }
