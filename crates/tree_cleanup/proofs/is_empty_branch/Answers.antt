-- A leaf, or a branch by the test of its group.
use Rattle.std.proofs.Common.{rules}
use Rattle.tree_cleanup.proofs.Laws.EmptyBranches.{leaf-read, branch_read}
use Rattle.tree_cleanup.proofs.is_empty_branch.Goals as goal

pub returns-then-not-is_branch : goal.returns-then-not-is_branch
returns-then-not-is_branch c = search (rules, leaf-read)

pub returns : goal.returns
returns c = search (rules, branch_read)
