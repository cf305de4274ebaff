-- One division after a difference, which is one more where a touch is enough, and the size less 1.
use Rattle.std.proofs.Common.{arith, to_z-of_z, w64, ◌-ℤ◌, ◌<◌, ◌∙◌}
use Rattle.arithmetic.proofs.Laws.Linear.{got}
use Rattle.grid.specs.Spans.{past_met}
use Rattle.grid.proofs.Laws.Widths.{more-touch, more-touch_fits, more-touch-rest_fits}
use Rattle.grid.proofs.axis.past_met.Goals as goal

pub returns : goal.returns
unfolding past_met
returns c =
    let b = to_z-of_z c.ranges.b in
    let first = to_z-of_z c.ranges.first in
    let far = got w64 c.difference.type_inv (c.difference.ensures ∙ (λ i. b i -ℤ first i)) in
    let touch = got w64 c.from.type_inv c.from.ensures in
    let rest = got w64 c.from-2.type_inv c.from-2.ensures in
    let small : c.args.size < 4294967296 = omega (arith, c.ranges.size) in
    let one = to_z-of_z (more-touch_fits _ _ c.ranges.b c.ranges.first c.args.touching) in
    let all = to_z-of_z (more-touch-rest_fits _ _ c.ranges.b c.ranges.first c.args.touching c.args.size small) in
    rw (far, touch, one, rest, all, more-touch c.args.touching) at c.steps.ensures
