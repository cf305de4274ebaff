-- Inclusion and exclusion of four counts; an empty span has no dots.
use Rattle.std.proofs.Common.{rules, sym, ⊎_elim, ◌∙◌}
use Rattle.arithmetic.proofs.Laws.Linear.{or_t}
use Rattle.tint.proofs.Laws.Counts.{empty_told, between-none_wide, between-none_high, inside-fits, outside-fits, outside-less, between-rest}
use Rattle.tint.proofs.sums.TiledPatch.dots_between.Goals as goal

pub returns-then-is_empty : goal.returns-then-is_empty
returns-then-is_empty c =
    ⊎_elim
    (λ e. between-none_wide _ _ _ (empty_told _ _ (sym c.is_empty.ensures ∙ e)))
    (λ e. between-none_high _ _ _ (empty_told _ _ (sym c.is_empty-2.ensures ∙ e)))
    (or_t _ _ c.if-is_empty.true)

pub overflow_add-result : goal.overflow_add-result
overflow_add-result c = search (rules, inside-fits)

pub overflow_add-result-2 : goal.overflow_add-result-2
overflow_add-result-2 c = search (rules, outside-fits)

pub overflow_sub-result : goal.overflow_sub-result
overflow_sub-result c = search (rules, outside-less)

pub returns : goal.returns
returns c = search (rules, between-rest)
