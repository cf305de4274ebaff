-- The columns and the rows within the bounds, and the dots in both.
use Rattle.std.proofs.Common.{arith, rules, ◌*◌, ◌∙◌}
use Rattle.tint.specs.Counts.{dots_between, corners_within}
use Rattle.tint.proofs.Laws.Corners.{below-few}
use Rattle.tint.proofs.Laws.Within.{sides, patch-within}
use Rattle.tint.proofs.Fields.{ReadAxis}
use Rattle.tint.proofs.sums.TiledPatch.dots_within.Goals as goal
use Rattle.tint.proofs.sums.TiledPatch.dots_within.Goals.{Start}

pub overflow_mul-patch : goal.overflow_mul-patch
overflow_mul-patch c = omega (arith, sides _ c.args.self.now.fits)

pub overflow_mul-patch-2 : goal.overflow_mul-patch-2
overflow_mul-patch-2 c = omega (arith, sides _ c.args.self.now.fits)

pub dots_between-requires : goal.dots_between-requires
dots_between-requires c =
    let fits = sides _ c.args.self.now.fits in (
      below-few _ _ _ (λ i. (c.corners_within-across.ensures i).end) (omega (arith, fits)),
      below-few _ _ _ (λ i. (c.corners_within-down.ensures i).end) (omega (arith, fits)),
    )

pub returns : goal.returns
returns c =
    let p = c.args.self.now.patch in
    let x : ReadAxis p.x c.args.bounds.x_over c.args.bounds.x_upto = search rules in
    let y : ReadAxis p.y c.args.bounds.y_over c.args.bounds.y_upto = search rules in
    let across = c.corners_within-across.ensures ∙ (λ i. corners_within (x.first i) (x.over i) (x.upto i) (16 * p.columns)) in
    let down = c.corners_within-down.ensures ∙ (λ i. corners_within (y.first i) (y.over i) (y.upto i) (16 * p.rows)) in
    c.dots_between.ensures ∙ (λ i. dots_between p.tint (across i) (down i)) ∙ patch-within c.args.bounds p
