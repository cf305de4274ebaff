use Rattle.std.proofs.Common.{refl, rules, ◌∙◌}
use Rattle.memory.proofs.Laws.Chains.{passed}
use Rattle.tree.proofs.Laws.Chains.{stands_has}
use Rattle.tree_insert.proofs.Laws.SplitsNeeded.{tally_start, tally_here, tally_fits, tally_on, tally_over}
use Rattle.tree_insert.proofs.needed.count_within.Goals as goal

pub loop-place-init : goal.loop-place-init
loop-place-init c =
    let new = c.new-place-items.ensures in
    rw (c.into_iter-place-iterator.ensures.into_iter_gives, new.0, new.1, new.2)
    (stands_has _ _ _ _ _ c.requires.stands, tt, refl, tally_start)

pub rect_at-requires : goal.rect_at-requires
rect_at-requires c = tally_here c.loop-place.invariant.3 c.requires (passed c.loop-place.invariant.2 c.in-Some.ensures.steps.1)

pub loop-place-preserved : goal.loop-place-preserved
loop-place-preserved c =
    let step = c.in-Some.ensures.steps in
    let same = c.loop-place.invariant.2 in (
      c.in-Some.ensures.goes.keeps,
      tt,
      step.0 ∙ same,
      tally_on c.loop-place.invariant.3 (passed same step.1) _ c.from-count.ensures c.rect_at.ensures c.holds.ensures,
    )

pub overflow_add-count : goal.overflow_add-count
overflow_add-count c =
    let here = passed c.loop-place.invariant.2 c.in-Some.ensures.steps.1 in
    tally_fits c.loop-place.invariant.3 here c.holds.result c.from-count.ensures (search rules)

pub returns : goal.returns
returns c = tally_over c.loop-place.invariant.3 c.in-None.ensures.steps
