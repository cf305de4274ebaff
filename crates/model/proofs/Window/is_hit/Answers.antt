-- What does not intersect is no hit; of what does, the ink decides.
use Rattle.std.proofs.Common.{rules}
use Rattle.model.proofs.Laws.Dots.{hit-apart, hit-by_ink}
use Rattle.model.proofs.Window.is_hit.Goals as goal

pub returns-then-not-intersects_with : goal.returns-then-not-intersects_with
returns-then-not-intersects_with c = search (rules, hit-apart)

pub returns : goal.returns
returns c = search (rules, hit-by_ink)
