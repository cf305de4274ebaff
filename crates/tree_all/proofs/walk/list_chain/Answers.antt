use Rattle.std.proofs.Common.{refl, arith, inl, ◌∙◌}
use Rattle.memory.proofs.Laws.Chains.{passed}
use Rattle.tree_all.proofs.Laws.Chains.{has-chain, rest-start, rest-turn, rest-place, rest_end}
use Rattle.tree_all.proofs.walk.list_chain.Goals as goal

pub loop-i-init : goal.loop-i-init
loop-i-init c =
    let new = c.new.ensures in
    let items = c.enumerate-i-items.ensures in
    rw (c.into_iter-i-iterator.ensures.into_iter_gives, items.source, items.count, new.0, new.1, new.2)
    ((has-chain c.requires, tt, inl (omega (arith, c.requires.fits.small))), tt, refl, rest-start (omega arith))

pub id_at-requires : goal.id_at-requires
id_at-requires c = rest-place c.loop-i.invariant.3 c.requires (passed c.loop-i.invariant.2 c.in-Some.ensures.steps.0.1)

pub loop-i-preserved : goal.loop-i-preserved
loop-i-preserved c =
    let step = c.in-Some.ensures.steps in
    let same = c.loop-i.invariant.2 in (
      c.in-Some.ensures.goes.keeps,
      tt,
      step.0.0 ∙ same,
      rest-turn c.loop-i.invariant.3 (passed same step.0.1) c.id_at.ensures (omega (arith, step.1)) (omega (arith, step.2)),
    )

pub returns : goal.returns
returns c = rest_end c.loop-i.invariant.3 c.in-None.ensures.steps.0
