-- Above the first row there is no dot; below, a word is that of the row above and the row's dots.
use Rattle.std.proofs.Common.{rules}
use Rattle.tint.proofs.Laws.Sums.{sum_top, sum-next, sum_fits}
use Rattle.tint.proofs.sums.next_sum.Goals as goal

pub returns-then-place-lt17 : goal.returns-then-place-lt17
returns-then-place-lt17 c = search (rules, sum_top)

pub overflow_add-result : goal.overflow_add-result
overflow_add-result c = search (rules, sum_fits)

pub returns : goal.returns
returns c = search (rules, sum-next)
