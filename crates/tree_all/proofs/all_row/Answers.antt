-- Too few words, or the walk from the root.
use Rattle.std.proofs.Common.{rules}
use Rattle.tree_all.proofs.Laws.Answers.{all-asks, all-many, all_listed}
use Rattle.tree_all.proofs.all_row.Goals as goal

pub returns-then-row-live : goal.returns-then-row-live
returns-then-row-live c = search (rules, all-many)

pub list_node-requires : goal.list_node-requires
list_node-requires c = search (rules, all-asks)

pub returns : goal.returns
returns c = search (rules, all_listed)
