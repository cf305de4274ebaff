-- Child 0 by the test; a child from 1 on tells the tests, so that its quarter is theirs.
use Rattle.std.proofs.Common.{eq-eqb, ne_eqb, rules, ◌∙◌}
use lib.Signed.{lt_z}
use Rattle.geometry.proofs.Fields.{ReadAABB, ReadCell}
use Rattle.geometry.specs.Cells.{child_cell, quarter_cell}
use Rattle.geometry.proofs.Laws.Codes.{route_halves}
use Rattle.geometry.proofs.centered_aabb.CenteredAABB.toward.Goals as goal
use Rattle.geometry.proofs.centered_aabb.CenteredAABB.toward.Goals.{Start}

read_cell : (c : Start) → ReadCell c.args.self
read_cell c = search rules

read-rect : (c : Start) → ReadAABB c.args.rect
read-rect c = search rules

pub returns-then-child-eq0 : goal.returns-then-child-eq0
unfolding child_cell
returns-then-child-eq0 c = simp (eq-eqb _ _ c.if-child-eq0.true)

pub returns : goal.returns
unfolding child_cell
returns c =
    let halves = route_halves c.args.self c.args.rect c.args.child c.requires.1 c.if-child-eq0.false in
    let k = read_cell (goal.at.returns c).Start in
    let r = read-rect (goal.at.returns c).Start in
    let right = (λ j. lt_z (k.center_x j) (r.x2 j)) ∙ halves.0 in
    let bottom = (λ j. lt_z (k.center_y j) (r.y2 j)) ∙ halves.1 in
    rw (ne_eqb _ 0 c.if-child-eq0.false) (c.quarter.ensures ∙ (λ j. quarter_cell c.args.self (right j) (bottom j)))
