-- Each end, clipped.
use Rattle.std.proofs.Common.{rules}
use Rattle.grid.specs.Spans.{span_met}
use Rattle.grid.proofs.axis.Axis.met.Goals as goal

pub returns : goal.returns
unfolding span_met
returns c =
    search (rules, c.first_met.ensures, c.past_met.ensures, c.at_most-from.ensures, c.at_most-to.ensures, c.natural-size.ensures, c.count-number.ensures)
