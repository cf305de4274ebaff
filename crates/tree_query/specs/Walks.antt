-- What the query's walk (§8.2, §8.3) asks of the words, and what it leaves.
--     chain_hits, group_hits, group_opened    what a walk lists and opens
--     after, row_after, Left        what it has found, and the row, once some dots are listed and some nodes opened
--     CanGrow                      the counts may still grow by so much
--     ChainWalk, ChainWalked, NodeWalk, NodeWalked, GroupWalk, GroupWalked     the contracts of the walks
use Rattle.std.specs.Prelude.{◌≡◌, List, [], map, cond, ℕ, ◌+◌, ◌≤◌, ◌<◌, length, set}
use Rattle.geometry.specs.declared.aabb.AABB.{AABB}
use Rattle.geometry.specs.declared.centered_aabb.CenteredAABB.{CenteredAABB}
use Rattle.geometry.specs.declared.node_data.NodeData.{NodeData}
use Rattle.geometry.specs.declared.quadrants.Quadrants.{Quadrants}
use Rattle.geometry.specs.Cells.{child_data, cell_code, opens, InRange}
use Rattle.model.specs.declared.Window.{Window}
use Rattle.model.specs.declared.Dot.{Dot}
use Rattle.model.specs.Lists.{All, filter}
use Rattle.model.specs.Dots.{is_hit}
use Rattle.model.specs.Trees.{Placed, Tree, child_node, size}
use Rattle.model.specs.Query.{hits, opened}
use Rattle.model.specs.Layout.{none}
use Rattle.model.specs.Memory.{Chained}
use Rattle.memory.specs.Lent.{Held, mem_of}
use Rattle.tree.specs.Trees.{InRows, node_total, sum_last, join_last, TreeStands}
use Rattle.model.specs.declared.answers.Found.{Found}
use Rattle.std.proofs.lemmas.List.Edits.{sets}

-- ---- what a walk meets

abbrev pub chain_hits : Window → List Placed → List Placed
chain_hits q chain = filter (λ d. is_hit q d.dot) chain

-- of a group: its last children
abbrev pub group_hits : Window → NodeData → (ℕ → Tree) → ℕ → List Placed
group_hits q n f left = join_last left (λ i. cond (opens q.rect n i) (hits q (child_data n i) (f i)) [])

abbrev pub group_opened : AABB → NodeData → (ℕ → Tree) → ℕ → ℕ
group_opened q n f left = sum_last left (λ i. cond (opens q n i) (opened q (child_data n i) (f i)) 0)

-- a dot: the hits, and the row, once it has been looked at
unfoldable pub hits_after : Window → Dot → ℕ → ℕ
hits_after q d at = cond (is_hit q d) (at + 1) at

unfoldable pub row_with : Window → Dot → List ℕ → ℕ → List ℕ
row_with q d row at = cond (is_hit q d) (set row at d.id) row

abbrev pub ids : List Placed → List ℕ
ids ds = map (λ d. d.dot.id) ds

-- the dots ds are listed, as far as the row goes, and k nodes opened
unfoldable pub after : Found → List Placed → ℕ → Found
after found ds k = record { hits = found.hits + length ds; opened = found.opened + k }

unfoldable pub row_after : List ℕ → Found → List Placed → List ℕ
row_after row found ds = sets row found.hits (ids ds)

pub record Left (row : List ℕ) (found : Found) (ds : List Placed) (k : ℕ) (row' : List ℕ) (r : Found) : Type 0 where
  pub answer : r ≡ after found ds k
  pub written : row' ≡ row_after row found ds

-- ---- the contracts

-- `found` may still grow by the dots and nodes of what is walked
pub record CanGrow (found : Found) (dots nodes : ℕ) : Type 0 where
  pub hits : found.hits + dots ≤ 65536
  pub opened : found.opened + nodes ≤ 81921

pub record ChainWalk (h : Held) (found : Found) (head count : ℕ) : Type 0 where
  pub chain : List Placed
  pub stands : Chained (mem_of h) head chain none
  pub long : length chain ≡ count
  pub dots_in : All (InRows h.dots h.rects) chain
  pub grows : CanGrow found count 0

unfoldable pub ChainWalked : Window → Held → List ℕ → Found → ℕ → ℕ → List ℕ → Found → Type 0
ChainWalked q h row found head count row' r =
    (chain : List Placed) → Chained (mem_of h) head chain none → length chain ≡ count → Left row found (chain_hits q chain) 0 row' r

pub record NodeWalk (cell : CenteredAABB) (h : Held) (found : Found) (a levels : ℕ) : Type 0 where
  pub tree : Tree
  pub stands : TreeStands h.nodes h.dots h.rects levels a tree
  pub grows : CanGrow found (size tree) (node_total tree)
  pub cell_fits : InRange cell

unfoldable pub NodeWalked : Window → CenteredAABB → Held → List ℕ → Found → ℕ → ℕ → List ℕ → Found → Type 0
NodeWalked q cell h row found a levels row' r =
    (t : Tree) (n : NodeData) → TreeStands h.nodes h.dots h.rects levels a t → n.cell ≡ cell → Left row found (hits q n t) (opened q.rect n t) row' r

-- the last `left` children of a group
pub record GroupWalk (q : Window) (cell : CenteredAABB) (quadrants : Quadrants) (h : Held)
    (found : Found) (first levels left : ℕ) : Type 0 where
  pub group : ℕ
  pub children : ℕ → Tree
  pub head : first ≡ child_node group 0
  pub small : left ≤ 5
  pub stands : (i : ℕ) → 5 ≤ i + left → i < 5 → TreeStands h.nodes h.dots h.rects levels (child_node group i) (children i)
  pub grows : CanGrow found (sum_last left (λ i. size (children i))) (sum_last left (λ i. node_total (children i)))
  pub cell_fits : InRange cell
  pub code : quadrants.code ≡ cell_code cell q.rect

unfoldable pub GroupWalked : Window → CenteredAABB → Held → List ℕ → Found → ℕ → ℕ → ℕ → List ℕ → Found → Type 0
GroupWalked q cell h row found first levels left row' r =
    (g : ℕ) (f : ℕ → Tree) (n : NodeData) → first ≡ child_node g 0
    → ((i : ℕ) → 5 ≤ i + left → i < 5 → TreeStands h.nodes h.dots h.rects levels (child_node g i) (f i)) → n.cell ≡ cell
    → Left row found (group_hits q n f left) (group_opened q.rect n f left) row' r
