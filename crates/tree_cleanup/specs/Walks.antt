-- What the cleanup's walk asks of the words, and what it leaves.
--     HasGroup, empty_group, turned_nodes    a group in the row; the test of a group; the stores that turn a branch
--     walk_of       the rows and the head, as the walk of tree's Cleanup
--     Fits         what keeps a tree within the row and its numbers small
--     NodeToClean, NodeCleaned, GroupToClean, GroupCleaned     the contracts of the node's and the group's walk
use Rattle.std.specs.Prelude.{◌≡◌, List, Bool, ℕ, ◌+◌, ◌≤◌, ◌<◌, ℤ, eqb}
use Rattle.std.specs.List.{list_all, range_with_len}
use Rattle.model.specs.Sums.{indicator, sum_over, sum_below}
use Rattle.model.specs.Trees.{Tree, child_node, Shallow, size}
use Rattle.model.specs.Cleanup.{down_from, turned}
use Rattle.model.specs.Memory.{read, count_at, Represents, FreeGroups}
use Rattle.memory.specs.Nodes.{empty_leaf}
use Rattle.memory.specs.Rows.{HasNode, set_node_at}
use Rattle.tree.specs.Trees.{node_count, over_group, NodesIn, node_total}
use Rattle.tree.specs.Cleanup.{Walk, clean_words, TreeAndFree}
use Rattle.tree_cleanup.specs.declared.Swept.{Swept}

abbrev pub HasGroup : List ℕ → ℕ → Type 0
HasGroup nodes first = HasNode nodes (first + 4)

unfoldable pub empty_group : List ℕ → ℕ → Bool
empty_group nodes first = list_all (λ i. eqb (count_at nodes (first + i)) 0) (range_with_len 0 5)

unfoldable pub turned_nodes : List ℕ → ℕ → ℕ → ℕ → List ℕ
turned_nodes nodes a first head = set_node_at (set_node_at nodes a empty_leaf) first (record { first = head; count = 0 })

abbrev pub walk_of : List ℕ → List ℕ → List ℤ → ℕ → Walk
walk_of nodes dots rects head = record { mem = read nodes dots rects; head = head }

-- the tree's nodes are in the row, at most so high, and its dots few
pub record Fits (nodes : List ℕ) (levels a : ℕ) (t : Tree) : Type 0 where
  pub nodes_in : NodesIn nodes a t
  pub shallow : Shallow levels t
  pub few : size t ≤ 65536

-- the walk of the tree is done: the words and the head are those of tree's Cleanup, and so many branches more are turned
pub record Cleaned (nodes dots : List ℕ) (rects : List ℤ) (swept : Swept) (done : Walk → Walk) (k : ℕ) (nodes' : List ℕ) (r : Swept) : Type 0 where
  pub walk : walk_of nodes' dots rects r.head ≡ done (walk_of nodes dots rects swept.head)
  pub more : r.turned ≡ swept.turned + k

pub record NodeToClean (nodes : List ℕ) (swept : Swept) (a levels : ℕ) : Type 0 where
  pub dots : List ℕ
  pub rects : List ℤ
  pub tree : Tree
  pub free : List ℕ
  pub stands : TreeAndFree tree a (walk_of nodes dots rects swept.head) free
  pub fits : Fits nodes levels a tree
  pub small : swept.turned + node_total tree ≤ 81921

unfoldable pub NodeCleaned : List ℕ → Swept → ℕ → ℕ → List ℕ → Swept → Type 0
NodeCleaned nodes swept a levels nodes' r =
    (dots : List ℕ) (rects : List ℤ) (t : Tree) (free : List ℕ) → TreeAndFree t a (walk_of nodes dots rects swept.head) free → Fits nodes levels a t
    → Cleaned nodes dots rects swept (clean_words t a) (turned t) nodes' r

-- the children below `left` of a group and the free groups, no node twice
pub record ChildrenAndFree (g : ℕ) (f : ℕ → Tree) (left : ℕ) (s : Walk) (free : List ℕ) : Type 0 where
  pub once : (k : ℕ) → sum_below left (λ j. node_count k (child_node g j) (f j)) + sum_over (over_group (indicator k)) free ≤ 1
  pub represented : (j : ℕ) → j < left → Represents s.mem (child_node g j) (f j)
  pub groups : FreeGroups s.mem s.head free

abbrev pub clean_children : ℕ → (ℕ → Tree) → ℕ → Walk → Walk
clean_children g f left = down_from left (λ i x. clean_words (f i) (child_node g i) x)

pub record GroupToClean (nodes : List ℕ) (swept : Swept) (first levels left : ℕ) : Type 0 where
  pub dots : List ℕ
  pub rects : List ℤ
  pub group : ℕ
  pub children : ℕ → Tree
  pub free : List ℕ
  pub head : first ≡ child_node group 0
  pub most : left ≤ 5
  pub stands : ChildrenAndFree group children left (walk_of nodes dots rects swept.head) free
  pub fits : (j : ℕ) → j < left → Fits nodes levels (child_node group j) (children j)
  pub small : swept.turned + sum_below left (λ j. node_total (children j)) ≤ 81921

unfoldable pub GroupCleaned : List ℕ → Swept → ℕ → ℕ → ℕ → List ℕ → Swept → Type 0
GroupCleaned nodes swept first levels left nodes' r =
    (dots : List ℕ) (rects : List ℤ) (g : ℕ) (f : ℕ → Tree) (free : List ℕ) → first ≡ child_node g 0
    → ChildrenAndFree g f left (walk_of nodes dots rects swept.head) free → ((j : ℕ) → j < left → Fits nodes levels (child_node g j) (f j))
    → Cleaned nodes dots rects swept (clean_children g f left) (sum_below left (λ j. turned (f j))) nodes' r
