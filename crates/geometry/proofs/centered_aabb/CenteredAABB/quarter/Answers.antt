-- Each axis by child_center and a half.
use Rattle.std.proofs.Common.{rules}
use Rattle.geometry.proofs.Fields.{forms}
use Rattle.geometry.specs.Cells.{quarter_cell}
use Rattle.geometry.proofs.centered_aabb.CenteredAABB.quarter.Goals as goal

pub returns : goal.returns
unfolding quarter_cell
returns c = search (forms, c.child_center.ensures, c.child_center-2.ensures, rules)
