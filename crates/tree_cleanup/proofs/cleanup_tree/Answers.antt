-- The walk from the root, and the state with the head that it leaves; or, where no change more can be counted, the search.
use Rattle.std.proofs.Common.{rules}
use Rattle.tree_cleanup.proofs.Laws.EmptyBranches.{searchable}
use Rattle.tree_cleanup.proofs.Laws.Roots.{root-walk, refused-cleaned, no-cleaned, none-turned, some-turned}
use Rattle.tree_cleanup.proofs.cleanup_tree.Goals as goal

pub has_empty_branch-requires : goal.has_empty_branch-requires
has_empty_branch-requires c = search (rules, searchable)

pub returns-then-has_empty_branch : goal.returns-then-has_empty_branch
returns-then-has_empty_branch c = search (rules, refused-cleaned)

pub returns-then-not-can_count : goal.returns-then-not-can_count
returns-then-not-can_count c = search (rules, no-cleaned)

pub clean_node-swept-requires : goal.clean_node-swept-requires
clean_node-swept-requires c = search (rules, root-walk)

pub returns-then-swept-eq0 : goal.returns-then-swept-eq0
returns-then-swept-eq0 c = search (rules, none-turned)

pub returns : goal.returns
returns c = search (rules, some-turned)
