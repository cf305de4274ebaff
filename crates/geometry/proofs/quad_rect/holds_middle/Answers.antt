-- The middle and the sum at 64 bits, where they fit.
use Rattle.std.proofs.Common.{rules}
use Rattle.geometry.specs.Rectangles.{middle, within}
use Rattle.geometry.proofs.quad_rect.holds_middle.Goals as goal

pub returns : goal.returns
unfolding within middle
returns c = search (rules, c.middle.ensures, c.sum.ensures, c.contains.ensures)
