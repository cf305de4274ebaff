-- The zero rectangle, or another.
use Rattle.std.proofs.Common.{arith}
use Rattle.tree_grid.proofs.Laws.Rects.{met-few}
use Rattle.tree_grid.proofs.counts.Counts.add_place.Goals as goal

pub overflow_add-result-2 : goal.overflow_add-result-2
overflow_add-result-2 c =
    let s = c.args.self.now in
    omega (arith, c.add_rect.ensures.is_met, met-few s.grid s.sized c.args.rect, c.requires.total_bound.0)
