-- A chain in the rows (§2.5, §2.7), as code that follows it reads it.
--     ChainStands  the chain stands in the rows, from a link so many places on
use Rattle.std.specs.Prelude.{◌≡◌, List, [], ◌∷◌, ℕ, ◌-◌, ◌≤◌, ℤ}
use Rattle.model.specs.Trees.{Placed}
use Rattle.model.specs.Memory.{next_at, dot_at}
use Rattle.memory.specs.Rows.{HasPlace, HasRect}

-- from the link h, n places on
abbrev pub ChainStands : List ℕ → List ℤ → ℕ → ℕ → List Placed → Type 0
ChainStands dots rects h n [] = n ≡ 0
ChainStands dots rects h n (d ∷ ds) =
    (h ≡ d.place) × HasPlace dots h × HasRect rects h × (dot_at dots rects h ≡ d.dot) × (1 ≤ n) × ChainStands dots rects (next_at dots h) (n - 1) ds
