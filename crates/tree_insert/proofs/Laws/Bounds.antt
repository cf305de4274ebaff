-- The dots of a chain that lie within the bounds of a node.
--     Chosen       a chain whose every sum is that of the dots within bounds
--     all-chosen, child-chosen     within no bounds all are; within a child's bounds those within the parent's that go to it
use Rattle.std.specs.Prelude.{◌≡◌, refl, List, [], ◌∷◌, cond, Bool, true, false, ◌&&◌, ℕ, ◌+◌, ◌≤◌, ◌<◌, eqb}
use Rattle.std.proofs.Common.{ap, arith}
use Rattle.arithmetic.proofs.Laws.Tests.{by_bool}
use Rattle.geometry.specs.declared.node_data.NodeData.{NodeData}
use Rattle.geometry.specs.declared.bounds.Bounds.{Bounds}
use Rattle.geometry.specs.declared.settings.Settings.{Settings}
use Rattle.geometry.specs.Bounds.{all_bounds, bounds_below, in_bounds}
use Rattle.geometry.proofs.Laws.Bounds.{bounds-below, bounds-all}
use Rattle.model.specs.Sums.{sum_over}
use Rattle.model.specs.Trees.{Placed}
use Rattle.model.specs.Insert.{route_dot}
use Rattle.model.specs.Lists.{All}
use Rattle.model.specs.Dots.{acceptable_dot}
use Rattle.model.proofs.Laws.Dots.{dot-upright}

-- ---- the dots within bounds

pub one-most : (b : Bool) → cond b 1 0 ≤ 1
one-most true = omega arith
one-most false = omega arith

-- every sum over the chain is that over the dots of ds within the bounds
abbrev pub Chosen : Bounds → List Placed → List Placed → Type 0
Chosen b ds chain = (h : Placed → ℕ) → sum_over h chain ≡ sum_over (λ d. cond (in_bounds b d.dot.rect) (h d) 0) ds

pub all-chosen : (s : Settings) (ds : List Placed) → All (λ d. acceptable_dot s d.dot ≡ true) ds → Chosen all_bounds ds ds
all-chosen s [] a h = refl
all-chosen s (d ∷ ds) a h = rw (bounds-all d.dot.rect (dot-upright s d.dot a.0).1) (ap (λ (k : ℕ). h d + k) (all-chosen s ds a.1 h))

-- the dots within a child's bounds are those within the parent's that go to it
pub child-chosen : (s : Settings) (b : Bounds) (n : NodeData) (i : ℕ) → 1 ≤ i → i < 5 → (h : Placed → ℕ) (ds : List Placed)
    → All (λ d. acceptable_dot s d.dot ≡ true) ds
    → sum_over (λ d. cond (in_bounds b d.dot.rect) (cond (eqb (route_dot n d) i) (h d) 0) 0) ds
    ≡ sum_over (λ d. cond (in_bounds (bounds_below b n.cell i) d.dot.rect) (h d) 0) ds
child-chosen s b n i one five h [] a = refl
child-chosen s b n i one five h (d ∷ ds) a =
    let r = d.dot.rect in
    let both : in_bounds (bounds_below b n.cell i) r ≡ in_bounds b r && eqb (route_dot n d) i =
    bounds-below b n.cell i one five r (dot-upright s d.dot a.0).0 in
    let here : cond (in_bounds b r) (cond (eqb (route_dot n d) i) (h d) 0) 0 ≡ cond (in_bounds (bounds_below b n.cell i) r) (h d) 0 =
    rw both (by_bool (in_bounds b r) (λ e. rw e refl) (λ e. rw e refl)) in
    omega (arith, here, child-chosen s b n i one five h ds a.1)
