-- What the whole memory holds: a tree, the free groups, the free places, each number once (§2.12).
use Rattle.std.specs.Prelude.{◌≡◌, List, map, ℕ, ◌+◌}
use Rattle.model.specs.Sums.{indicator, sum_over}
use Rattle.model.specs.Trees.{Tree, at_place, place_count, group_count}
use Rattle.model.specs.Shapes.{below}
use Rattle.model.specs.Layout.{none, blank}
use Rattle.model.specs.Memory.{Mem, Chained, Represents, FreeGroups}

pub record Stored (G N : ℕ) (m : Mem) (group_head place_head : ℕ) (t : Tree) (free spare : List ℕ) : Type 0 where
  pub tree : Represents m 0 t
  pub groups : FreeGroups m group_head free
  pub places : Chained m place_head (map blank spare) none
  pub groups_once : (k : ℕ) → group_count k t + sum_over (indicator k) free ≡ below k G
  pub places_once : (k : ℕ) → place_count k t + sum_over (at_place k) (map blank spare) ≡ below k N
