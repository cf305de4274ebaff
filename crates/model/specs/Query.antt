-- Query and leaves on the tree (§8, §9).
--     hits         the dots that a query lists, in its order
--     opened       how many nodes it opens
--     leaves_of, leaf_count  six numbers a leaf; how many leaves
use Rattle.std.specs.Prelude.{List, [], ◌∷◌, cond, ℕ, ◌+◌, ℤ, pos, length}
use Rattle.geometry.specs.declared.aabb.AABB.{AABB}
use Rattle.geometry.specs.declared.node_data.NodeData.{NodeData}
use Rattle.geometry.specs.Cells.{child_data, opens}
use Rattle.model.specs.Sums.{sum_below}
use Rattle.model.specs.Lists.{join_below, filter}
use Rattle.model.specs.declared.Window.{Window}
use Rattle.model.specs.Dots.{is_hit}
use Rattle.model.specs.Trees.{Placed, Tree, leaf, branch}

module _ (q : Window) where
  -- §8.2, §8.3: child after child of those that are opened, and of a leaf what the query lists, in the order of its chain
  abbrev pub hits : NodeData → Tree → List Placed
  hits n (leaf chain) = filter (λ d. is_hit q d.dot) chain
  hits n (branch g f) = join_below 5 (λ i. cond (opens q.rect n i) (hits (child_data n i) (f i)) [])

module _ (q : AABB) where
  -- §8.4: the nodes opened, this one among them; the inks make no difference
  abbrev pub opened : NodeData → Tree → ℕ
  opened n (leaf chain) = 1
  opened n (branch g f) = 1 + sum_below 5 (λ i. cond (opens q n i) (opened (child_data n i) (f i)) 0)

-- §9.2: the six numbers of a leaf
abbrev pub leaf_words : NodeData → List Placed → List ℤ
leaf_words n chain =
    let c = n.cell in c.center_x ∷ c.center_y ∷ c.half_width ∷ c.half_height ∷ pos n.depth ∷ pos (length chain) ∷ []

-- §9.1: the numbers of all leaves but children 0, and how many leaves those are
abbrev pub leaves_of : NodeData → Tree → List ℤ
leaves_of n (leaf chain) = leaf_words n chain
leaves_of n (branch g f) = join_below 4 (λ i. leaves_of (child_data n (1 + i)) (f (1 + i)))

abbrev pub leaf_count : Tree → ℕ
leaf_count (leaf chain) = 1
leaf_count (branch g f) = sum_below 4 (λ i. leaf_count (f (1 + i)))
