-- The node that is reached, of the numbers as they are read back.
use Rattle.std.proofs.Common.{rules}
use Rattle.geometry.specs.Cells.{opens}
use Rattle.geometry_export.proofs.geometry_opens.Goals as goal

pub returns : goal.returns
unfolding opens
returns c = search (c.opens.ensures, c.reach-node.ensures, c.settings_of-settings.ensures, c.rect_of.ensures, rules)
