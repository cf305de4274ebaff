-- The four quarters, each told by its law, and each at most 3.
use Rattle.std.proofs.Common.{◌/◌, arith}
use Rattle.threshold_table.proofs.Laws.Quarters.{quarter_most, by_quarters}
use Rattle.threshold_table.proofs.threshold.Goals as goal

pub returns : goal.returns
returns c =
    let a = c.args in (
      rw (c.quarter-first.ensures, c.quarter-second.ensures, c.quarter-third.ensures, c.quarter-fourth.ensures)
          (by_quarters a.column a.row c.requires.0 c.requires.1),
      omega (
        arith,
        c.quarter-first.ensures,
        c.quarter-second.ensures,
        c.quarter-third.ensures,
        c.quarter-fourth.ensures,
        quarter_most a.column a.row,
        quarter_most (a.column / 2) (a.row / 2),
        quarter_most (a.column / 4) (a.row / 4),
        quarter_most (a.column / 8) (a.row / 8),
      ),
    )
