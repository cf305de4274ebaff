use Rattle.std.proofs.Common.{refl, ◌∙◌}
use Rattle.memory.proofs.Laws.Chains.{passed}
use Rattle.tree_query.proofs.Laws.Chains.{has-chain, rest-start, rest-turn, rest-place, rest_end}
use Rattle.tree_query.proofs.walk.walk_chain.Goals as goal

pub loop-place-init : goal.loop-place-init
loop-place-init c =
    let new = c.new-place-items.ensures in
    rw (c.into_iter-place-iterator.ensures.into_iter_gives, new.0, new.1, new.2)
    (has-chain c.requires, tt, refl, rest-start _ _ c.requires.grows.hits)

pub dot_at-dot-requires : goal.dot_at-dot-requires
dot_at-dot-requires c = rest-place _ _ c.loop-place.invariant.3 (passed c.loop-place.invariant.2 c.in-Some.ensures.steps.1) c.requires

pub loop-place-preserved : goal.loop-place-preserved
loop-place-preserved c =
    let step = c.in-Some.ensures.steps in
    let same = c.loop-place.invariant.2 in (
      c.in-Some.ensures.goes.keeps,
      tt,
      step.0 ∙ same,
      rest-turn _ _ c.loop-place.invariant.3 (passed same step.1) c.dot_at-dot.ensures c.list_dot-hits.ensures.0 c.list_dot-hits.ensures.1,
    )

pub returns : goal.returns
returns c = rest_end _ _ c.args.found c.loop-place.invariant.3 c.in-None.ensures.steps
