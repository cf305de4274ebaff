-- The test itself; where G or N is too large it is false, so that no product is made.
use Rattle.std.proofs.Common.{rules}
use Rattle.memory.specs.Lengths.{lengths_fit}
use Rattle.memory.proofs.Laws.Lengths.{many-groups, many-places}
use Rattle.memory.proofs.lengths.lengths_fit.Goals as goal

pub returns-then-groups-gt16384 : goal.returns-then-groups-gt16384
returns-then-groups-gt16384 c = many-groups _ _ _ _ c.if-groups-gt16384.true

pub returns-then-places-gt65536 : goal.returns-then-places-gt65536
returns-then-places-gt65536 c = many-places _ _ _ _ c.if-places-gt65536.true

pub returns : goal.returns
unfolding lengths_fit
returns c = search rules
