-- The head's count, and the test of the other four nodes.
use Rattle.std.proofs.Common.{rules, refl}
use Rattle.std.proofs.lemmas.Iterator.{YieldsList-from_range}
use Rattle.std.proofs.lemmas.Iterator.Search.{all_from_yields_List}
use Rattle.model.specs.Trees.{child_node}
use Rattle.tree_check.specs.Frees.{empty_at, free_words}
use Rattle.tree_check.proofs.free.is_free.Goals as goal

pub returns : goal.returns
unfolding free_words
returns c =
    let others = all_from_yields_List (λ i. empty_at c.args.nodes.now (child_node c.args.group i)) _ _ _ c.all-others.ensures.ran
    (YieldsList-from_range 1 5 4 refl refl) (λ x b q k. search rules) in
    search rules
