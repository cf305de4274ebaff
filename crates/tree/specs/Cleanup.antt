-- The stores of the cleanup's walk (§7.2, §7.3), with the head of the free groups.
--     Walk, collapse, clean_words   the memory and the head; one branch collapses; the walk of a subtree
--     TreeAndFree  the tree at a node and the free groups, no node twice
use Rattle.std.specs.Prelude.{List, cond, ℕ, ◌+◌, ◌≤◌}
use Rattle.model.specs.Sums.{indicator, sum_over}
use Rattle.model.specs.Trees.{Tree, leaf, branch, child_node}
use Rattle.model.specs.Layout.{none}
use Rattle.model.specs.Memory.{Mem, Represents, FreeGroups}
use Rattle.model.specs.Cleanup.{all_empty, down_from}
use Rattle.tree.specs.Trees.{node_count, over_group}
use Rattle.tree.specs.Stores.{set_first, set_count}

pub record Walk : Type 0 where
  pub mem : Mem
  pub head : ℕ

abbrev pub collapse : ℕ → ℕ → Walk → Walk
collapse a g s = record { mem = set_first (set_count (set_first s.mem a none) a 0) (child_node g 0) s.head; head = child_node g 0 }

abbrev pub clean_words : Tree → ℕ → Walk → Walk
clean_words (leaf c) a s = s
clean_words (branch g f) a s = cond (all_empty f) (collapse a g s) (down_from 5 (λ i x. clean_words (f i) (child_node g i) x) s)

-- the tree at a node and the free groups, no node twice
abbrev pub TreeAndFree : Tree → ℕ → Walk → List ℕ → Type 0
TreeAndFree t a s free =
    ((k : ℕ) → node_count k a t + sum_over (over_group (indicator k)) free ≤ 1) × Represents s.mem a t × FreeGroups s.mem s.head free
