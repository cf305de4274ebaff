-- Child 0, or the child's bit, by the law of codes.
use Rattle.std.proofs.Common.{ap, eqb, ℕ, ◌||◌, ◌∙◌}
use Rattle.arithmetic.specs.Bits.{bit_at}
use Rattle.geometry.proofs.Laws.Codes.{opens-code}
use Rattle.geometry.proofs.centered_aabb.CenteredAABB.opens.Goals as goal

pub returns : goal.returns
returns c =
    let a = c.args in
    let i = a.child in
    let bit = c.at.ensures ∙ ap (λ (code : ℕ). bit_at code i) c.explore_quadrants.ensures in
    (λ j. eqb i 0 || bit j) ∙ opens-code a.self a.query i
