-- The ids fit exactly if the number after the last of them is at most 4294967296.
use Rattle.std.proofs.Common.{rules}
use Rattle.tint.proofs.Laws.Within.{ids-told}
use Rattle.tint.proofs.count.ids_fit.Goals as goal

pub returns : goal.returns
returns c = search (ids-told, rules)
