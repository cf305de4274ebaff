use Rattle.std.proofs.Common.{add-one, arith, ◌*◌, ◌≡◌}
use Rattle.memory.proofs.Laws.Lent.{same-rows-refl, same-rows-then}
use Rattle.tint.proofs.Laws.Within.{sides}
use Rattle.tree_patch.proofs.Laws.Rows.{proceeds_none, proceeds_some, proceeds_then, rows_done}
use Rattle.tree_patch.proofs.lay.lay_rows.Goals as goal

pub overflow_mul-height : goal.overflow_mul-height
overflow_mul-height c = omega (arith, (sides _ c.requires.progress.fits).few_rows)

pub loop-row-init : goal.loop-row-init
loop-row-init c = (same-rows-refl, proceeds_none)

pub lay_row-laid-requires : goal.lay_row-laid-requires
lay_row-laid-requires c = (proceeds_some c.requires c.loop-row.invariant.1, c.loop-row-test.true)

pub loop-row-preserved : goal.loop-row-preserved
loop-row-preserved c =
    let inv = c.loop-row.invariant in
    let done = c.lay_row-laid.ensures in
    (same-rows-then inv.0 done.same_rows, rw (add-one c.loop-row.row) (proceeds_then inv.1 done.proceeds))

pub returns-clause-proceeds : goal.returns-clause-proceeds
returns-clause-proceeds c =
    let end : c.loop-row.row ≡ 16 * c.args.patch.rows = omega (arith, c.loop-row-test.false, c.loop-row.auto.row-end) in
    rows_done end c.loop-row.invariant.1
