-- The search for a branch whose five children are empty, in all nodes of the row.
--     empty_branch  whether a node is one, by the words
--     Searchable   what the search asks of the row
--     Searched     what it says: whether some node is one
use Rattle.std.specs.Prelude.{◌≡◌, List, Bool, true, false, ◌&&◌, ℕ, ◌+◌, ◌*◌, eqb, length}
use Rattle.model.specs.Layout.{branch_mark, groups_in}
use Rattle.model.specs.Memory.{first_at, count_at}
use Rattle.memory.specs.Rows.{HasNode}
use Rattle.tree_cleanup.specs.Walks.{HasGroup, empty_group}

unfoldable pub empty_branch : List ℕ → ℕ → Bool
empty_branch nodes a = eqb (count_at nodes a) branch_mark && empty_group nodes (first_at nodes a)

-- the row has 1 + 5G nodes, and with a branch its group
pub record Searchable (nodes : List ℕ) : Type 0 where
  pub whole : length nodes ≡ 2 * (1 + 5 * groups_in (length nodes))
  pub groups : (a : ℕ) → HasNode nodes a → count_at nodes a ≡ branch_mark → HasGroup nodes (first_at nodes a)

pub record Searched (nodes : List ℕ) (r : Bool) : Type 0 where
  pub one : r ≡ true → (a : ℕ) × HasNode nodes a × (empty_branch nodes a ≡ true)
  pub none : r ≡ false → (a : ℕ) → HasNode nodes a → empty_branch nodes a ≡ false
