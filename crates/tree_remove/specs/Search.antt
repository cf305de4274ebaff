-- The search along a leaf's chain (§6.2), and the dot that it finds taken out.
--     hit_in        the first dot with an id, and the place before it
--     Linked       the chain stands in the dots
--     Searchable   what the search asks
--     first_without, relinked, unlinked_node, unlinked_dots   the words without the dot that was found
use Rattle.std.specs.Prelude.{◌≡◌, List, [], ◌∷◌, Option, Some, None, cond, ℕ, ◌-◌, ◌≤◌, length}
use Rattle.model.specs.Dots.{matches}
use Rattle.model.specs.Trees.{Placed}
use Rattle.model.specs.Layout.{dots_for}
use Rattle.model.specs.Memory.{id_at, next_at}
use Rattle.memory.specs.declared.node.Node.{Node}
use Rattle.memory.specs.Rows.{HasPlace, set_next_at}
use Rattle.tree_remove.specs.declared.Hit.{Hit}

abbrev pub hit_in : ℕ → Option ℕ → List Placed → Option Hit
hit_in id previous [] = None
hit_in id previous (d ∷ ds) = cond (matches id d.dot) (Some (record { place = d.place; previous = previous })) (hit_in id (Some d.place) ds)

-- from the link h, n places on
abbrev pub Linked : List ℕ → ℕ → ℕ → List Placed → Type 0
Linked dots h n [] = n ≡ 0
Linked dots h n (d ∷ ds) = (h ≡ d.place) × HasPlace dots h × (id_at dots h ≡ d.dot.id) × (1 ≤ n) × Linked dots (next_at dots h) (n - 1) ds

pub record Searchable (dots : List ℕ) (node : Node) : Type 0 where
  pub short : length dots ≤ dots_for 65536
  pub chain : List Placed
  pub linked : Linked dots node.first node.count chain

-- ---- the dot that was found is taken out

-- the first of the chain, and the dots, where the next place follows the previous one
abbrev pub first_without : Option ℕ → ℕ → ℕ → ℕ
first_without None first next = next
first_without (Some previous) first next = first

abbrev pub relinked : List ℕ → Option ℕ → ℕ → List ℕ
relinked dots None next = dots
relinked dots (Some previous) next = set_next_at dots previous next

abbrev pub unlinked_node : List ℕ → Node → Hit → Node
unlinked_node dots node hit = record { first = first_without hit.previous node.first (next_at dots hit.place); count = node.count - 1 }

abbrev pub unlinked_dots : List ℕ → Hit → List ℕ
unlinked_dots dots hit = relinked dots hit.previous (next_at dots hit.place)
