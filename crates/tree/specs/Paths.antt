-- A subtree at the end of a path.
--     sub, node_at, put     the subtree, its node, the tree with another one there
--     Reach        the path stays in the tree
use Rattle.std.specs.Prelude.{List, [], ◌∷◌, ℕ, ◌<◌}
use Rattle.model.specs.Sums.{changed}
use Rattle.model.specs.Trees.{Tree, leaf, branch, child_node}

-- A path that is longer than the tree stops at the leaf.
abbrev pub sub : Tree → List ℕ → Tree
sub t [] = t
sub (leaf c) (i ∷ p) = leaf c
sub (branch g f) (i ∷ p) = sub (f i) p

abbrev pub node_at : ℕ → Tree → List ℕ → ℕ
node_at a t [] = a
node_at a (leaf c) (i ∷ p) = a
node_at a (branch g f) (i ∷ p) = node_at (child_node g i) (f i) p

abbrev pub put : Tree → List ℕ → Tree → Tree
put t [] u = u
put (leaf c) (i ∷ p) u = u
put (branch g f) (i ∷ p) u = branch g (changed f i (put (f i) p u))

-- the path stays in the tree
abbrev pub Reach : Tree → List ℕ → Type 0
Reach t [] = Unit {0}
Reach (leaf c) (i ∷ p) = ⊥
Reach (branch g f) (i ∷ p) = (i < 5) × Reach (f i) p
