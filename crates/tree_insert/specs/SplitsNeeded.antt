-- The splits that an insert needs (§5.2), counted without a store as far as there are free groups (§11.4).
--     within       the dots within bounds
--     SomeChain, CountedWithin     what the count of a chain within bounds asks and tells
--     Countable    what the count of the splits asks
--     needed_of, SplitsTold what it tells
use Rattle.std.specs.Prelude.{◌≡◌, List, Option, Some, None, true, cond, ℕ, ◌≤◌, length, leb}
use Rattle.geometry.specs.declared.aabb.AABB.{AABB}
use Rattle.geometry.specs.declared.bounds.Bounds.{Bounds}
use Rattle.geometry.specs.declared.settings.Settings.{Settings}
use Rattle.geometry.specs.declared.node_data.NodeData.{NodeData}
use Rattle.geometry.specs.Settings.{in_range}
use Rattle.geometry.specs.Cells.{InRange}
use Rattle.geometry.specs.Bounds.{in_bounds}
use Rattle.geometry.specs.Levels.{levels_left}
use Rattle.model.specs.Sums.{sum_over}
use Rattle.model.specs.Lists.{All}
use Rattle.model.specs.Dots.{acceptable_dot}
use Rattle.model.specs.Trees.{Placed, leaf}
use Rattle.model.specs.Insert.{split_count}
use Rattle.memory.specs.declared.node.Node.{Node}
use Rattle.memory.specs.Lent.{Held}
use Rattle.tree.specs.Chains.{ChainStands}
use Rattle.tree_insert.specs.FreeGroups.{FreeIn}

abbrev pub within : Bounds → Placed → ℕ
within b d = cond (in_bounds b d.dot.rect) 1 0

pub record SomeChain (h : Held) (node : Node) : Type 0 where
  pub chain : List Placed
  pub stands : ChainStands h.dots h.rects node.first node.count chain

abbrev pub CountedWithin : Held → Node → Bounds → ℕ → Type 0
CountedWithin h node b count = (chain : List Placed) → ChainStands h.dots h.rects node.first node.count chain → count ≡ sum_over (within b) chain

pub record Countable (s : Settings) (h : Held) (node : Node) (n : NodeData) : Type 0 where
  pub settings : in_range s ≡ true
  pub range : InRange n.cell
  pub chain : List Placed
  pub stands : ChainStands h.dots h.rects node.first node.count chain
  pub dots_fit : All (λ d. acceptable_dot s d.dot ≡ true) chain
  pub counted : node.count ≡ length chain

-- so many splits, where there are as many groups
abbrev pub needed_of : ℕ → ℕ → Option ℕ
needed_of splits groups = cond (leb splits groups) (Some splits) None

-- the splits of every leaf with that chain, beside every list of free groups from that head
abbrev pub SplitsTold : Settings → Held → Node → NodeData → AABB → ℕ → Option ℕ → Type 0
SplitsTold s h node n r head needed =
    (k : Countable s h node n) (levels : ℕ) → levels_left s n ≤ levels → (free : List ℕ) → FreeIn h.nodes head free
    → needed ≡ needed_of (split_count s levels n r (leaf k.chain)) (length free)
