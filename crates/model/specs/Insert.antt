-- Insert on the tree (§5).
--     deal         a chain dealt to the five children
--     must_split    the leaf is full and may split
--     insert_at     the tree that an insert leaves, the groups then free, and the number of splits that it made
--     split_count   the splits with groups enough
-- `levels` is how many levels may still be split below the node: D at the root. It never runs out (`levels-suffice` of Laws.Insert, `levels-root` of
-- the geometry).
use Rattle.std.specs.Prelude.{List, [], ◌∷◌, Bool, cond, ◌&&◌, ℕ, zero, suc, ◌+◌, length, leb}
use Rattle.geometry.specs.declared.aabb.AABB.{AABB}
use Rattle.geometry.specs.declared.settings.Settings.{Settings}
use Rattle.geometry.specs.declared.node_data.NodeData.{NodeData}
use Rattle.geometry.specs.Cells.{child_data, route, may_split}
use Rattle.model.specs.Sums.{changed}
use Rattle.model.specs.Trees.{Placed, Tree, leaf, branch}

-- §4.2: the child that a dot goes to
abbrev pub route_dot : NodeData → Placed → ℕ
route_dot n d = route n d.dot.rect

-- §5.2: from the head on, each dot becomes the head of its child's chain
abbrev pub deal : NodeData → (ℕ → List Placed) → List Placed → ℕ → List Placed
deal n chains [] = chains
deal n chains (d ∷ ds) = deal n (changed chains (route_dot n d) (d ∷ chains (route_dot n d))) ds

-- §5.2: the children of a leaf that has become a branch
abbrev pub dealt : NodeData → List Placed → ℕ → Tree
dealt n chain i = leaf (deal n (λ j. []) chain i)

-- what an insert leaves
pub record Grown : Type 0 where
  pub tree : Tree
  pub free : List ℕ
  pub splits : ℕ

module _ (s : Settings) where
  -- §5.2: the leaf is full and may split
  abbrev pub must_split : NodeData → List Placed → Bool
  must_split n chain = may_split s n && leb s.leaf_limit (length chain)

  -- §5.1 to §5.4: down to a leaf; a leaf that must split takes the first free group and the dot goes on below it; any other leaf takes the dot as its head.
  -- Where a group is wanted and none is free, refusal 7 came first: the clause for that is never reached (`made-needed` of Laws.Splitting).
  abbrev pub insert_at : ℕ → NodeData → Placed → Tree → List ℕ → Grown
  insert_at zero n d (leaf chain) free = record { tree = leaf (d ∷ chain); free = free; splits = 0 }
  insert_at zero n d (branch g f) free = record { tree = branch g f; free = free; splits = 0 }
  insert_at (suc levels) n d (leaf chain) [] = record { tree = leaf (d ∷ chain); free = []; splits = 0 }
  insert_at (suc levels) n d (leaf chain) (g ∷ free) =
      let i = route_dot n d in
      let below = insert_at levels (child_data n i) d (dealt n chain i) free in
      let split : Grown = record { tree = branch g (changed (dealt n chain) i below.tree); free = below.free; splits = 1 + below.splits } in
      cond (must_split n chain) split (record { tree = leaf (d ∷ chain); free = g ∷ free; splits = 0 })
  insert_at (suc levels) n d (branch g f) free =
      let i = route_dot n d in
      let below = insert_at levels (child_data n i) d (f i) free in
      record { tree = branch g (changed f i below.tree); free = below.free; splits = below.splits }

-- The splits of an insert with groups enough, counted by a recursion of their own: what the code that counts them is proved with.
module _ (S : Settings) where
  abbrev pub split_count : ℕ → NodeData → AABB → Tree → ℕ
  split_count zero n r t = 0
  split_count (suc levels) n r (leaf chain) =
      let i = route n r in
      let more = 1 + split_count levels (child_data n i) r (dealt n chain i) in
      cond (must_split S n chain) more 0
  split_count (suc levels) n r (branch g f) = let i = route n r in split_count levels (child_data n i) r (f i)
