-- The columns and the rows that it meets.
use Rattle.tree_grid.proofs.Laws.Rects.{rect-asks}
use Rattle.tree_grid.proofs.counts.Counts.add_rect.Goals as goal

pub add_cells-requires : goal.add_cells-requires
add_cells-requires c =
    let s = c.args.self.now in
    rect-asks s.grid c.args.rect c.columns_met-across.ensures c.rows_met-down.ensures s.row.now
    c.args.weight c.column_count.ensures s.sized s.room c.requires.1
