-- The four ways: each refusal by its test, and the walk's answer between two clearings of the marks.
use Rattle.std.proofs.Common.{rules}
use Rattle.tree_check.proofs.Laws.Checks.{check_ready, by_length, by-settings, by_tree, by_no-tree}
use Rattle.tree_check.proofs.check.check.Goals as goal

pub is_tree-tree-requires : goal.is_tree-tree-requires
is_tree-tree-requires c = search (rules, check_ready)

pub returns-then-not-lengths_fit : goal.returns-then-not-lengths_fit
returns-then-not-lengths_fit c = search (rules, by_length)

pub returns-then-not-in_range : goal.returns-then-not-in_range
returns-then-not-in_range c = search (rules, by-settings)

pub returns-then-tree : goal.returns-then-tree
returns-then-tree c = search (rules, by_tree)

pub returns-else-tree : goal.returns-else-tree
returns-else-tree c = search (rules, by_no-tree)
