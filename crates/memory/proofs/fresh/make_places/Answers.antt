use Rattle.std.proofs.Common.{arith}
use Rattle.model.proofs.Laws.Dots.{default-zero}
use Rattle.memory.proofs.Laws.Fresh.{fresh-place_more}
use Rattle.memory.proofs.fresh.make_places.Goals as goal

pub loop-place-preserved : goal.loop-place-preserved
loop-place-preserved c =
    λ k b. rw (c.set_next.ensures, c.set_dot.ensures.0, c.set_dot.ensures.1, default-zero c.default.result c.default.ensures)
    (fresh-place_more _ _ _ _ (omega (arith, c.requires.1)) (omega (arith, c.requires.2)) c.loop-place.invariant _ c.fresh_next.ensures k b)
