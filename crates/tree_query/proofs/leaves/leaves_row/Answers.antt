-- The leaves are counted, then written where they fit.
use Rattle.std.proofs.Common.{arith, rules, ◌≤◌}
use Rattle.tree_query.proofs.Laws.Leaves.{leaves-fit, leaves-many, leaves-listed}
use Rattle.tree_query.proofs.leaves.leaves_row.Goals as goal

pub overflow_cast-number : goal.overflow_cast-number
overflow_cast-number c =
    let few : c.list_leaves-words.result ≤ 1000000 = search leaves-fit in
    omega arith

pub returns-then-row-words : goal.returns-then-row-words
returns-then-row-words c = search (rules, leaves-many)

pub returns : goal.returns
returns c = search (rules, leaves-listed)
