-- What the count of a patch's splits asks of the words, and what it tells.
--     Filled, FullTold     the dots of a leaf's cell: what their count asks and tells
--     splits_at, splits_of_last       the splits at a cell, and below the last children of one
--     most_splits   how many they can be
--     CellCount, CellCounted, GroupCount, GroupCounted     the contracts of the count at a cell and of that of a group
--     AllAcceptable, PatchCounted  what the count of the whole tree asks of the patch, and what it tells
use Rattle.std.specs.Prelude.{◌≡◌, List, Bool, true, ℕ, ◌+◌, ◌*◌, ◌≤◌, ◌<◌, length}
use Rattle.geometry.specs.declared.settings.Settings.{Settings}
use Rattle.geometry.specs.Settings.{in_range, acceptable}
use Rattle.geometry.specs.Cells.{InRange}
use Rattle.model.specs.declared.State.{State}
use Rattle.model.specs.declared.patch.Patch.{Patch}
use Rattle.model.specs.Sums.{sum_over}
use Rattle.model.specs.Lists.{All}
use Rattle.model.specs.Trees.{Placed, Tree}
use Rattle.model.specs.Shapes.{Shape}
use Rattle.model.specs.Layout.{Holds}
use Rattle.model.specs.Laying.{overfull, splits_of_all}
use Rattle.model.specs.Patch.{patch_rects, patch_dots}
use Rattle.memory.specs.declared.node.Node.{Node}
use Rattle.memory.specs.Rows.{HasNode}
use Rattle.memory.specs.Lent.{Held, world_of}
use Rattle.tree.specs.Chains.{ChainStands}
use Rattle.tree_insert.specs.SplitsNeeded.{within}
use Rattle.tree_patch.specs.declared.splits.Cell.{Cell}
use Rattle.tree.specs.Trees.{sum_last}
use Rattle.tree_patch.specs.Cells.{splits_within, cell_below, CellStands}

-- a leaf's chain, and so many dots of the patch
pub record Filled (h : Held) (node : Node) (laid : ℕ) : Type 0 where
  pub chain : List Placed
  pub stands : ChainStands h.dots h.rects node.first node.count chain
  pub few : length chain ≤ 65536
  pub laid_few : laid ≤ 1048576

abbrev pub FullTold : Settings → Held → Node → Cell → ℕ → Bool → Type 0
FullTold s h node c laid full =
    (chain : List Placed) → ChainStands h.dots h.rects node.first node.count chain
    → full ≡ overfull s c.node_data (laid + sum_over (within c.bounds) chain)

-- ---- the splits

-- at most 255 levels, and on each no more than there are dots in the tree and in the patch
abbrev pub most_splits : ℕ
most_splits = 255 * (65536 + 1048576)

abbrev pub splits_at : Settings → Patch → Cell → Tree → ℕ
splits_at s p c t = splits_within s (patch_rects p) c.levels c.node_data c.bounds t

abbrev pub splits_of_last : Settings → Patch → List ℕ → Cell → (ℕ → Tree) → ℕ → ℕ
splits_of_last s p nodes c f left = sum_last left (λ i. splits_at s p (cell_below nodes c i) (f i))

pub record CellCount (s : Settings) (h : Held) (c : Cell) (p : Patch) : Type 0 where
  pub settings_fit : in_range s ≡ true
  pub cell_fits : InRange c.node_data.cell
  pub tree : Tree
  pub stands : CellStands s h c tree
  pub small : splits_at s p c tree ≤ most_splits

unfoldable pub CellCounted : Settings → Held → Cell → Patch → ℕ → Type 0
CellCounted s h c p r = (t : Tree) → CellStands s h c t → r ≡ splits_at s p c t

-- the trees at the cells of the last children
abbrev pub LastStand : Settings → Held → Cell → ℕ → (ℕ → Tree) → Type 0
LastStand s h c left f = (i : ℕ) → 5 ≤ i + left → i < 5 → CellStands s h (cell_below h.nodes c i) (f i)

pub record GroupCount (s : Settings) (h : Held) (c : Cell) (left : ℕ) (p : Patch) : Type 0 where
  pub settings_fit : in_range s ≡ true
  pub cell_fits : InRange c.node_data.cell
  pub deep : c.node_data.depth < 255
  pub here : HasNode h.nodes c.node
  pub some : 1 ≤ c.levels
  pub few : left ≤ 4
  pub children : ℕ → Tree
  pub stand : LastStand s h c left children
  pub small : splits_of_last s p h.nodes c children left ≤ most_splits

unfoldable pub GroupCounted : Settings → Held → Cell → ℕ → Patch → ℕ → Type 0
GroupCounted s h c left p r = (f : ℕ → Tree) → LastStand s h c left f → r ≡ splits_of_last s p h.nodes c f left

-- insert refuses no rectangle of the patch as 4 or 5
pub record AllAcceptable (s : Settings) (p : Patch) : Type 0 where
  pub each : All (λ a. acceptable s a ≡ true) (patch_rects p)

-- for every marks and every shape that the words hold
unfoldable pub PatchCounted : State → Held → Patch → ℕ → Type 0
PatchCounted s h p r =
    (marks : List ℕ) (x : Shape) → Holds (world_of s h marks) x → r ≡ splits_of_all (patch_dots p) x
