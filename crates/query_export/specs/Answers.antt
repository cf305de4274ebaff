-- The query and all without the check, on rows.
--     Lists, ListsAll      what a query, what all on a tree leaves: the ids, the answer row and the result, by one reply
use Rattle.std.specs.Prelude.{List, ℕ, ℤ}
use Rattle.model.specs.declared.Window.{Window}
use Rattle.model.specs.declared.answers.Found.{Found}
use Rattle.model.specs.Calls.{Reply}
use Rattle.memory.specs.Lent.{holding}
use Rattle.tree_query.specs.Answers.{Queried}
use Rattle.tree_all.specs.Walks.{AllListed}
use Rattle.host_rows.specs.Rows.{state_in}
use Rattle.host_rows.specs.Answers.{number, hits_opened, Out}

abbrev pub Lists : Window → List ℕ → List ℕ → List ℕ → List ℤ → List ℕ → List ℕ → List ℕ → List ℕ → ℕ → Type 0
Lists q state nodes dots rects ids answer ids' answer' result =
    (reply : Reply Found) × Queried (state_in state) q (holding nodes dots rects) ids ids' reply × Out hits_opened reply answer answer' result

abbrev pub ListsAll : List ℕ → List ℕ → List ℕ → List ℕ → List ℕ → List ℕ → List ℕ → ℕ → Type 0
ListsAll state nodes dots ids answer ids' answer' result =
    (reply : Reply ℕ) × AllListed (state_in state) nodes dots ids ids' reply × Out number reply answer answer' result
