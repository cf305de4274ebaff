-- By whether the settings are accepted; the walk by Paths.
use Rattle.std.proofs.Common.{rules}
use Rattle.geometry_export.proofs.Paths.{root-accepted, root_walks, reached_in, reached-out}
use Rattle.geometry_export.proofs.reach.Goals as goal

pub root-requires : goal.root-requires
root-requires c = search (rules, root-accepted)

pub walk-requires : goal.walk-requires
walk-requires c = root_walks _ _ _ c.in_range.ensures c.if-in_range.true c.root.ensures

pub returns-then-in_range : goal.returns-then-in_range
returns-then-in_range c = search (rules, reached_in)

pub returns-else-in_range : goal.returns-else-in_range
returns-else-in_range c = search (rules, reached-out)
