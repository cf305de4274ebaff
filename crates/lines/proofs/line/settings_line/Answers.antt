-- A rectangle and three numbers, to the end.
use Rattle.std.proofs.Common.{rules, refl, []}
use Rattle.lines.proofs.Laws.Fields.{reads_then}
use Rattle.lines.proofs.Laws.Lines.{call-none, settings-last}
use Rattle.lines.proofs.line.settings_line.Goals as goal

pub returns-in_err-root : goal.returns-in_err-root
returns-in_err-root c = rw c.from_residual.ensures (call-none (λ zs. (_, refl)) c.in_err-root.ensures)

pub returns-in_err-depth_limit : goal.returns-in_err-depth_limit
returns-in_err-depth_limit c =
    rw c.from_residual-in_err-depth_limit.ensures (call-none (λ zs. (_, refl)) (reads_then c.in_ok-root.ensures c.in_err-depth_limit.ensures))

pub returns-in_err-leaf_limit : goal.returns-in_err-leaf_limit
returns-in_err-leaf_limit c =
    rw c.from_residual-in_err-leaf_limit.ensures
    (call-none (λ zs. (_, refl)) (reads_then c.in_ok-root.ensures (reads_then c.in_ok-depth_limit.ensures c.in_err-leaf_limit.ensures)))

pub returns-in_err-smallest_cell : goal.returns-in_err-smallest_cell
returns-in_err-smallest_cell c =
    let limits = reads_then c.in_ok-depth_limit.ensures (reads_then c.in_ok-leaf_limit.ensures c.in_err-smallest_cell.ensures) in
    rw c.from_residual-in_err-smallest_cell.ensures (call-none (λ zs. ([], refl)) (reads_then c.in_ok-root.ensures limits))

pub returns : goal.returns
returns c =
    let limits = reads_then c.in_ok-depth_limit.ensures (reads_then c.in_ok-leaf_limit.ensures c.in_ok-smallest_cell.ensures) in
    settings-last c.then_some.ensures c.is_empty.ensures c.in_ok-root.ensures limits (search rules) (search rules) (search rules) (search rules)
