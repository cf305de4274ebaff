-- Remove on the tree (§6): of the leaf that a rectangle is routed to, the first dot with the id goes.
--     first_has, first_out, first_place       of a chain: is there one, the chain without it, its place
--     remove_says, remove_at, remove_place    the same of the leaf that the rectangle routes to
use Rattle.std.specs.Prelude.{List, [], ◌∷◌, Bool, true, false, cond, ℕ}
use Rattle.geometry.specs.declared.aabb.AABB.{AABB}
use Rattle.geometry.specs.declared.node_data.NodeData.{NodeData}
use Rattle.geometry.specs.Cells.{child_data, route}
use Rattle.model.specs.Sums.{changed}
use Rattle.model.specs.Dots.{matches}
use Rattle.model.specs.Trees.{Placed, Tree, leaf, branch}

-- §6.2: the first dot of a chain that has the id
abbrev pub first_has : ℕ → List Placed → Bool
first_has id [] = false
first_has id (d ∷ ds) = cond (matches id d.dot) true (first_has id ds)

abbrev pub first_out : ℕ → List Placed → List Placed
first_out id [] = []
first_out id (d ∷ ds) = cond (matches id d.dot) ds (d ∷ first_out id ds)

abbrev pub first_place : ℕ → List Placed → ℕ
first_place id [] = 0
first_place id (d ∷ ds) = cond (matches id d.dot) d.place (first_place id ds)

-- §6.1: in one leaf alone
module _ (id : ℕ) (r : AABB) where
  abbrev pub remove_says : NodeData → Tree → Bool
  remove_says n (leaf chain) = first_has id chain
  remove_says n (branch g f) = let i = route n r in remove_says (child_data n i) (f i)

  abbrev pub remove_at : NodeData → Tree → Tree
  remove_at n (leaf chain) = leaf (first_out id chain)
  remove_at n (branch g f) = let i = route n r in branch g (changed f i (remove_at (child_data n i) (f i)))

  abbrev pub remove_place : NodeData → Tree → ℕ
  remove_place n (leaf chain) = first_place id chain
  remove_place n (branch g f) = let i = route n r in remove_place (child_data n i) (f i)
