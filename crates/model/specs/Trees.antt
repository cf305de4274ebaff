-- The tree with its addresses (§2.2, §2.5 to §2.7): which group a branch has, at which place each dot stands.
--     Placed, Tree
--     child_node    the nodes of a group
--     sum_dots, sum_groups   a weight, summed over the dots or the groups; a count is the sum of an indicator
--     AllDots      what holds of every dot
--     dots         all dots, in the order of the query's walk
--     id_of         the id of a dot that stands in the tree
--     Shallow      how high a tree is at most
use Rattle.std.specs.Prelude.{List, ℕ, zero, suc, ◌+◌, ◌*◌, ◌<◌}
use Rattle.model.specs.declared.Dot.{Dot}
use Rattle.model.specs.Sums.{indicator, sum_over, sum_below}
use Rattle.model.specs.Lists.{join_below, All}

-- a dot with the place where it stands
pub record Placed : Type 0 where
  pub place : ℕ
  pub dot : Dot

-- A leaf has its chain, head first. A branch has its group's number and its children 0 to 4; what the function says beyond 4 means nothing.
pub data Tree : Type 0 where
  leaf : List Placed → Tree
  branch : ℕ → (ℕ → Tree) → Tree

-- §2.2: child i of a group
abbrev pub child_node : ℕ → ℕ → ℕ
child_node group i = 1 + 5 * group + i

abbrev pub sum_dots : (Placed → ℕ) → Tree → ℕ
sum_dots h (leaf chain) = sum_over h chain
sum_dots h (branch g f) = sum_below 5 (λ i. sum_dots h (f i))

abbrev pub sum_groups : (ℕ → ℕ) → Tree → ℕ
sum_groups h (leaf chain) = 0
sum_groups h (branch g f) = h g + sum_below 5 (λ i. sum_groups h (f i))

abbrev pub at_place : ℕ → Placed → ℕ
at_place k d = indicator k d.place

-- how often a place, a group, stands in the tree; how many dots it has
abbrev pub place_count : ℕ → Tree → ℕ
place_count k t = sum_dots (at_place k) t

abbrev pub group_count : ℕ → Tree → ℕ
group_count k t = sum_groups (indicator k) t

abbrev pub size : Tree → ℕ
size t = sum_dots (λ d. 1) t

abbrev pub AllDots : (Placed → Type 0) → Tree → Type 0
AllDots P (leaf chain) = All P chain
AllDots P (branch g f) = (i : ℕ) → i < 5 → AllDots P (f i)

-- every child is walked, child 0 first
abbrev pub dots : Tree → List Placed
dots (leaf chain) = chain
dots (branch g f) = join_below 5 (λ i. dots (f i))

abbrev pub id_of : Placed → ℕ
id_of d = d.dot.id

-- a tree at most n branches high
abbrev pub Shallow : ℕ → Tree → Type 0
Shallow n (leaf chain) = Unit {0}
Shallow zero (branch g f) = ⊥
Shallow (suc n) (branch g f) = (i : ℕ) → i < 5 → Shallow n (f i)
