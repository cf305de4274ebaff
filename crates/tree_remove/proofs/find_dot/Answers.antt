use Rattle.std.proofs.Common.{refl, ◌∙◌}
use Rattle.memory.proofs.Laws.Chains.{passed}
use Rattle.tree_remove.proofs.Laws.Search.{search_has, search_start, search_here, search_on, search_over, search_found}
use Rattle.tree_remove.proofs.find_dot.Goals as goal

pub search-init : goal.search-init
search-init c =
    let new = c.new-places.ensures in
    rw (new.0, new.1, new.2) (search_has c.requires, tt, refl, search_start)

pub id_at-requires : goal.id_at-requires
id_at-requires c = search_here c.search.invariant.3 (passed c.search.invariant.2 c.in-Some.ensures.steps.1) c.requires refl refl

pub search-preserved : goal.search-preserved
search-preserved c =
    let step = c.in-Some.ensures.steps in
    let same = c.search.invariant.2 in
    (c.in-Some.ensures.goes.keeps, tt, step.0 ∙ same, search_on c.search.invariant.3 (passed same step.1) c.id_at.ensures c.if-id_at-id.false)

pub returns-in-None : goal.returns-in-None
returns-in-None c = search_over c.search.invariant.3 c.in-None.ensures.steps

pub returns-in-Some : goal.returns-in-Some
returns-in-Some c = search_found c.search.invariant.3 (passed c.search.invariant.2 c.in-Some.ensures.steps.1) c.id_at.ensures c.if-id_at-id.true
