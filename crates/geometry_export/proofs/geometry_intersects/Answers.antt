-- The method, of the numbers as they are read back.
use Rattle.std.proofs.Common.{rules}
use Rattle.geometry_export.proofs.geometry_intersects.Goals as goal

pub returns : goal.returns
returns c = search (c.intersects_with.ensures, c.rect_of.ensures, c.rect_of-2.ensures, rules)
