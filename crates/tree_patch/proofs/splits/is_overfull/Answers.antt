-- The cell may not split; or the dots that it would hold are counted.
use Rattle.std.proofs.Common.{arith}
use Rattle.tree_patch.proofs.Laws.Bounds.{within-most}
use Rattle.tree_patch.proofs.splits.is_overfull.Goals as goal

pub overflow_add-held : goal.overflow_add-held
overflow_add-held c =
    let filled = c.requires in
    omega (arith, c.count_within.ensures filled.chain filled.stands, within-most c.args.cell.bounds filled.chain)
