-- The test of every node.
use Rattle.std.proofs.Common.{arith, rules, refl, ◌+◌, ◌*◌}
use Rattle.std.proofs.lemmas.Iterator.{YieldsList-from_range}
use Rattle.std.proofs.lemmas.Iterator.Search.{any_from_yields_List}
use Rattle.tree_cleanup.specs.EmptyBranches.{empty_branch}
use Rattle.tree_cleanup.proofs.Laws.EmptyBranches.{searched}
use Rattle.tree_cleanup.proofs.has_empty_branch.Goals as goal

pub returns : goal.returns
returns c =
    let count = 1 + 5 * c.groups_in.result in
    searched c.args.nodes.now count (omega (arith, c.requires.whole))
    (any_from_yields_List (empty_branch c.args.nodes.now) _ _ _ c.any.ensures.ran (YieldsList-from_range 0 count count refl (omega arith))
    (λ x b q k. search rules))
