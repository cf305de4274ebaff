-- One division after a difference, which is one less where a touch is enough.
use Rattle.std.proofs.Common.{to_z-of_z, w64, ◌-ℤ◌, ◌∙◌}
use Rattle.arithmetic.proofs.Laws.Linear.{got}
use Rattle.grid.specs.Spans.{first_met}
use Rattle.grid.proofs.Laws.Widths.{less-touch, less-touch_fits}
use Rattle.grid.proofs.axis.first_met.Goals as goal

pub returns : goal.returns
unfolding first_met
returns c =
    let a = to_z-of_z c.ranges.a in
    let first = to_z-of_z c.ranges.first in
    let far = got w64 c.difference.type_inv (c.difference.ensures ∙ (λ i. a i -ℤ first i)) in
    let touch = got w64 c.from.type_inv c.from.ensures in
    rw (far, touch, to_z-of_z (less-touch_fits _ _ c.ranges.a c.ranges.first c.args.touching), less-touch c.args.touching) at c.steps.ensures
