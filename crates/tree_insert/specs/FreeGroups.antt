-- The list of free groups in the nodes (§2.8), as far as a walk along it reads.
--     FreeIn, SomeFree     the list from a head on; that there is one
use Rattle.std.specs.Prelude.{◌≡◌, List, [], ◌∷◌, ℕ}
use Rattle.model.specs.Layout.{none}
use Rattle.model.specs.Memory.{first_at}
use Rattle.memory.specs.Rows.{HasNode}

-- from the head h
abbrev pub FreeIn : List ℕ → ℕ → List ℕ → Type 0
FreeIn nodes h [] = h ≡ none
FreeIn nodes h (g ∷ gs) = ¬ (h ≡ none) × HasNode nodes h × FreeIn nodes (first_at nodes h) gs

pub record SomeFree (nodes : List ℕ) (head : ℕ) : Type 0 where
  pub free : List ℕ
  pub listed : FreeIn nodes head free
