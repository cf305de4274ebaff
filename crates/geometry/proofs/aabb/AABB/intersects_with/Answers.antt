-- Rectangles that overlap intersect; others by an edge, of what `max` and `min` give.
use Rattle.std.proofs.Common.{rules, sym, ◌∙◌}
use Rattle.arithmetic.proofs.Laws.Linear.{max-is, min-is}
use Rattle.geometry.specs.Rectangles.{touches}
use Rattle.geometry.proofs.Laws.Geometry.{overlaps-intersects, only-touches}
use Rattle.geometry.proofs.aabb.AABB.intersects_with.Goals as goal

pub returns-then-overlaps : goal.returns-then-overlaps
returns-then-overlaps c = overlaps-intersects _ _ (sym c.overlaps.ensures ∙ c.if-overlaps.true)

pub returns : goal.returns
unfolding touches
returns c =
    let no = only-touches _ _ (sym c.overlaps.ensures ∙ c.if-overlaps.false) in
    rw (← no) (search (rules, max-is, min-is, c.is_degenerate.ensures, c.is_degenerate-2.ensures))
