-- At most 64 × 64 tiles of 256 dots.
use Rattle.std.proofs.Common.{rules, sym}
use Rattle.tint.proofs.Laws.Within.{sides, tile-row_fits, number_fits}
use Rattle.model.proofs.Laws.Patch.{patch-number}
use Rattle.tint.proofs.count.dots_number.Goals as goal

pub overflow_mul-result : goal.overflow_mul-result
overflow_mul-result c = search (rules, tile-row_fits)

pub overflow_mul-result-2 : goal.overflow_mul-result-2
overflow_mul-result-2 c = search (rules, number_fits)

pub returns : goal.returns
returns c = sym (patch-number _ (sides _ c.requires).tint_fits)
