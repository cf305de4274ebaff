-- Both tests of the definition, of the rectangle that the dot reads back as.
use Rattle.std.proofs.Common.{◌&&◌}
use Rattle.model.specs.Dots.{acceptable_dot}
use Rattle.model.proofs.Dot.is_acceptable.Goals as goal

pub returns : goal.returns
unfolding acceptable_dot
returns c = λ i. c.accepts.ensures i && c.has_good_ink.ensures i
