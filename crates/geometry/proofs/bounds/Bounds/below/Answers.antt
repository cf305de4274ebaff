-- Child 0 by the test, the others by half_bounds on each axis.
use Rattle.std.proofs.Common.{eq-eqb, ne_eqb, rules}
use Rattle.geometry.specs.Bounds.{quarter_bounds, bounds_below}
use Rattle.geometry.proofs.bounds.Bounds.below.Goals as goal

pub returns-then-child-eq0 : goal.returns-then-child-eq0
unfolding bounds_below
returns-then-child-eq0 c = simp (eq-eqb _ _ c.if-child-eq0.true)

pub returns : goal.returns
unfolding bounds_below quarter_bounds
returns c =
    let x = c.half_bounds-x_over.ensures in
    let y = c.half_bounds-y_over.ensures in
    rw (ne_eqb _ 0 c.if-child-eq0.false) (search (rules, x.over, x.upto, y.over, y.upto))
