use Rattle.std.proofs.Common.{add-one, arith, ◌*◌, ◌≡◌, ◌≤◌}
use Rattle.memory.proofs.Laws.Lent.{same-rows-refl, same-rows-then}
use Rattle.tint.proofs.Laws.Within.{sides}
use Rattle.tree_patch.proofs.Laws.Rows.{proceeds_none, proceeds_some, proceeds_then, row_next, row_done}
use Rattle.tree_patch.proofs.lay.lay_row.Goals as goal
use Rattle.tree_patch.proofs.lay.lay_row.Goals.{Start}

few : (c : Start) → c.args.patch.columns ≤ 64
few c = (sides _ c.requires.0.progress.fits).few_columns

pub next_dot-column-requires : goal.next_dot-column-requires
next_dot-column-requires c = (few (goal.at.next_dot-column-requires c).Start, omega arith)

pub loop-column-init : goal.loop-column-init
loop-column-init c =
    let next = c.next_dot-column.ensures in
    (next.within, next.dot, same-rows-refl, row_next next proceeds_none)

pub lay_dot-laid-requires : goal.lay_dot-laid-requires
lay_dot-laid-requires c =
    let inv = c.loop-column.invariant in
    let more = c.loop-column-test.true in
    (proceeds_some c.requires.0 inv.3, record { in_row = more; in_patch = c.requires.1; there = inv.1 more })

pub overflow_add-column : goal.overflow_add-column
overflow_add-column c = omega (arith, c.loop-column-test.true, few (goal.at.overflow_add-column c).Start)

pub next_dot-column-requires-in-loop-column : goal.next_dot-column-requires-in-loop-column
next_dot-column-requires-in-loop-column c =
    (few (goal.at.next_dot-column-requires-in-loop-column c).Start, omega (arith, c.loop-column-test.true))

pub loop-column-preserved : goal.loop-column-preserved
loop-column-preserved c =
    let inv = c.loop-column.invariant in
    let next = c.next_dot-column-in-loop-column.ensures in (
      next.within,
      next.dot,
      same-rows-then inv.2 c.lay_dot-laid.ensures.same_rows,
      row_next next (rw (add-one c.loop-column.column) (proceeds_then inv.3 c.lay_dot-laid.ensures.proceeds)),
    )

pub returns-clause-proceeds : goal.returns-clause-proceeds
returns-clause-proceeds c =
    let inv = c.loop-column.invariant in
    let end : c.loop-column.column ≡ 16 * c.args.patch.columns = omega (arith, inv.0, c.loop-column-test.false) in
    row_done end inv.3

pub overflow_mul-width : goal.overflow_mul-width
overflow_mul-width c = let f = few (goal.at.overflow_mul-width c).Start in omega arith
