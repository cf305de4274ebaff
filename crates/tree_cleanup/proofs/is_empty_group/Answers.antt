-- The counts of the five nodes.
use Rattle.std.proofs.Common.{rules, refl, eqb, ◌+◌}
use Rattle.std.proofs.lemmas.Iterator.{YieldsList-from_range}
use Rattle.std.proofs.lemmas.Iterator.Search.{all_from_yields_List}
use Rattle.model.specs.Memory.{count_at}
use Rattle.tree_cleanup.specs.Walks.{empty_group}
use Rattle.tree_cleanup.proofs.is_empty_group.Goals as goal

pub returns : goal.returns
unfolding empty_group
returns c =
    all_from_yields_List (λ i. eqb (count_at c.args.nodes.now (c.args.first + i)) 0) _ _ _ c.all.ensures.ran (YieldsList-from_range 0 5 5 refl refl)
    (λ x b q k. search rules)
