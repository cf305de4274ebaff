-- The method, of the numbers as they are read back.
use Rattle.std.proofs.Common.{rules}
use Rattle.geometry_export.proofs.geometry_accepts.Goals as goal

pub returns : goal.returns
returns c = search (c.accepts.ensures, c.settings_of-settings.ensures, c.rect_of.ensures, rules)
