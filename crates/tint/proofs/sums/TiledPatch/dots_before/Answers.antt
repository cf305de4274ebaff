-- The law of whole tiles and the rest, at the sums of one tile.
use Rattle.std.proofs.Common.{rules}
use Rattle.tint.proofs.Laws.Counts.{before-tiles, tiles}
use Rattle.tint.proofs.Laws.Within.{tint-few}
use Rattle.tint.proofs.sums.TiledPatch.dots_before.Goals as goal

pub overflow_mul-result : goal.overflow_mul-result
overflow_mul-result c = search (rules, tiles, tint-few)

pub overflow_add-result-2 : goal.overflow_add-result-2
overflow_add-result-2 c = search (rules, tiles, tint-few)

pub overflow_mul-result-2 : goal.overflow_mul-result-2
overflow_mul-result-2 c = search (rules, tiles, tint-few)

pub overflow_mul-result-4 : goal.overflow_mul-result-4
overflow_mul-result-4 c = search (rules, tiles)

pub overflow_add-result-5 : goal.overflow_add-result-5
overflow_add-result-5 c = search (rules, tiles)

pub overflow_add-result-6 : goal.overflow_add-result-6
overflow_add-result-6 c = search (rules, tiles, tint-few)

pub returns : goal.returns
returns c = search (before-tiles, tint-few)
