-- Those at the one bound or below it, and those below the other.
use Rattle.std.proofs.Common.{to_z-of_z, w64, ◌-ℤ◌, ◌∙◌}
use Rattle.arithmetic.proofs.Laws.Linear.{got}
use Rattle.tint.specs.Counts.{corners_below}
use Rattle.tint.proofs.Laws.Corners.{past-over, past_fits}
use Rattle.tint.proofs.count.corners_within.Goals as goal

pub returns : goal.returns
unfolding corners_below
returns c =
    let first = to_z-of_z c.ranges.first in
    let over = to_z-of_z c.ranges.over in
    let upto = to_z-of_z c.ranges.upto in
    let past = got w64 c.difference.type_inv (c.difference.ensures ∙ (λ i. over i -ℤ first i)) in
    let far = got w64 c.difference-2.type_inv (c.difference-2.ensures ∙ (λ i. upto i -ℤ first i)) in
    let from = rw (past, to_z-of_z (past_fits _ _ c.ranges.over c.ranges.first), past-over) at c.corners_before-from.ensures in
    let to = rw far at c.corners_before-to.ensures in
    λ i. record { start = from i; end = to i }
