-- The walk along the free groups.
--     Walking      its invariant: the groups passed and those from here on are the whole list
--     walk_start, walk_here, walk-on, walk_end     its begin; the next group is there; a turn; its end
--     groups-free, free-listed     the free groups of a stored tree, and of a memory
use Rattle.std.specs.Prelude.{◌≡◌, refl, List, [], ◌∷◌, ℕ, ◌≤◌, ◌+◌, ◌*◌, ◌<◌, ℤ, length}
use Rattle.std.proofs.Common.{ap, sym, ◌∙◌, subst, arith}
use Rattle.std.proofs.Math.Decide.{dec_lt}
use Rattle.model.specs.declared.State.{State}
use Rattle.model.specs.Layout.{none, world, Holds}
use Rattle.model.specs.Memory.{first_at, Mem, FreeGroups, memory}
use Rattle.model.specs.Shapes.{Shape}
use Rattle.model.specs.Sums.{indicator, sum_over}
use Rattle.model.proofs.Laws.Sums.{by_dec, indicator-same}
use Rattle.model.proofs.Laws.Shapes.{below-no}
use Rattle.model.proofs.Laws.Memory.{holds-represented}
use Rattle.model.specs.Trees.{child_node}
use Rattle.memory.specs.declared.node.Node.{Node}
use Rattle.memory.specs.Nodes.{node_at}
use Rattle.memory.specs.Rows.{HasNode}
use Rattle.tree_insert.specs.FreeGroups.{FreeIn, SomeFree}

-- the walk from a head is at a group and has passed so many
pub record Walking (nodes : List ℕ) (head at passed : ℕ) : Type 0 where
  pub rest : (free : List ℕ) → FreeIn nodes head free → (rest : List ℕ) × FreeIn nodes at rest × (length free ≡ passed + length rest)

pub walk_start : {nodes : List ℕ} {head : ℕ} → Walking nodes head head 0
walk_start = record { rest = λ free f. (free, f, omega arith) }

module _ {nodes : List ℕ} {head at passed : ℕ} (w : Walking nodes head at passed) where
  pub walk_here : SomeFree nodes head → ¬ (at ≡ none) → HasNode nodes at
  walk_here some ne = go (w.rest some.free some.listed).0 (w.rest some.free some.listed).1
    where
      go : (rest : List ℕ) → FreeIn nodes at rest → HasNode nodes at
      go [] f = absurd (ne f)
      go (g ∷ gs) f = f.1

  pub walk-on : ¬ (at ≡ none) → {node : Node} → node ≡ node_at nodes at → Walking nodes head node.first (passed + 1)
  walk-on ne {node} e = record { rest = λ free l. go free (w.rest free l).0 (w.rest free l).1 (w.rest free l).2 }
    where
      go : (free rest : List ℕ) → FreeIn nodes at rest → length free ≡ passed + length rest
          → (rest : List ℕ) × FreeIn nodes node.first rest × (length free ≡ passed + 1 + length rest)
      go free [] f q = absurd (ne f)
      go free (g ∷ gs) f q = (gs, subst (λ (y : ℕ). FreeIn nodes y gs) (sym (ap (λ (v : Node). v.first) e)) f.2, omega arith)

  pub walk_end : at ≡ none → (free : List ℕ) → FreeIn nodes head free → length free ≡ passed
  walk_end e free l = go (w.rest free l).0 (w.rest free l).1 (w.rest free l).2
    where
      go : (rest : List ℕ) → FreeIn nodes at rest → length free ≡ passed + length rest → length free ≡ passed
      go [] f q = omega arith
      go (g ∷ gs) f q = absurd (f.0 e)

-- ---- the free groups of the memory

pub groups-free : (G : ℕ) (nodes : List ℕ) (m : Mem) → m.first ≡ first_at nodes → length nodes ≡ 2 + 10 * G → G ≤ 16384 → (h : ℕ) (gs : List ℕ)
    → ((g : ℕ) → 1 ≤ sum_over (indicator g) gs → g < G) → FreeGroups m h gs → FreeIn nodes h gs
unfolding none
groups-free G nodes m firsts fit few h [] inside f = f
groups-free G nodes m firsts fit few h (g ∷ gs) inside f =
    let l : g < G = inside g (omega (arith, indicator-same g)) in (
      λ e. omega (arith, f.0),
      omega (arith, f.0),
      groups-free G nodes m firsts fit few (first_at nodes h) gs (λ k c. inside k (omega arith))
          (subst (λ (y : ℕ). FreeGroups m y gs) (ap (λ (k : ℕ → ℕ). k (child_node g 0)) firsts ∙ ap (first_at nodes) (sym f.0)) f.3),
    )

pub free-listed : (s : State) (nodes dots : List ℕ) (rects : List ℤ) (marks : List ℕ) (x : Shape) → Holds (world s nodes dots rects marks) x
    → FreeIn nodes s.free_group x.free_groups
free-listed s nodes dots rects marks x h =
    let w = world s nodes dots rects marks in
    let rep = holds-represented w x h in
    let v = h.valid in
    groups-free x.groups nodes (memory w) refl rep.nodes v.groups_fit s.free_group x.free_groups
    (λ g c. by_dec (dec_lt g x.groups) (λ b. b) (λ b. absurd (omega (arith, v.groups_once g, below-no g x.groups (omega arith))))) rep.groups
