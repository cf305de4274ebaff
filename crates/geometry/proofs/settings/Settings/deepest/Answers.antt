-- D, by the laws of Laws.Depth.
use Rattle.std.proofs.Common.{rules}
use Rattle.geometry.proofs.Laws.Depth.{deepest-none, deepest-small, deepest-found}
use Rattle.geometry.proofs.settings.Settings.deepest.Goals as goal

pub returns-then-smallest-eq0 : goal.returns-then-smallest-eq0
returns-then-smallest-eq0 c = search (rules, deepest-none)

pub returns-then-q-eq0 : goal.returns-then-q-eq0
returns-then-q-eq0 c = search (rules, deepest-small)

pub returns : goal.returns
returns c = search (rules, deepest-found)
