-- A child's centre: each sum fits by Laws.Ranges.
use Rattle.std.proofs.Common.{rules}
use Rattle.arithmetic.proofs.Laws.Linear.{half-fits}
use Rattle.geometry.specs.Cells.{child_centre}
use Rattle.geometry.proofs.Laws.Ranges.{sum_fits, upper_fits, lower-fits}
use Rattle.geometry.proofs.centered_aabb.child_center.Goals as goal

ruleset fitting = (sum_fits, upper_fits, lower-fits, half-fits, rules)

pub returns-then-upper : goal.returns-then-upper
unfolding child_centre
returns-then-upper c = search (fitting, c.if-upper.true)

pub returns-else-upper : goal.returns-else-upper
unfolding child_centre
returns-else-upper c = search (fitting, c.if-upper.false)
