use Rattle.std.proofs.Common.{arith}
use Rattle.tree_grid.proofs.Laws.Counts.{line-ends, rows_room, rows_more}
use Rattle.tree_grid.proofs.counts.add_cells.Goals as goal

pub add_between-requires : goal.add_between-requires
add_between-requires c =
    let inside = line-ends c.requires.0 c.requires.1 c.loop-line.invariant c.loop-line-test.true in (
      omega (arith, inside, c.requires.2, c.loop-line.invariant.added.same_length),
      rows_room c.requires.0 c.requires.1 c.loop-line.invariant c.loop-line-test.true c.requires.2 c.requires.3,
    )

pub loop-line-preserved : goal.loop-line-preserved
loop-line-preserved c = rows_more c.requires.0 c.requires.1 c.loop-line.invariant c.loop-line-test.true c.add_between.ensures
