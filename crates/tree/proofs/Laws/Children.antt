-- Joins over the last children of a group (`joinLast`).
--     join_step                    the first of those left, and the others
--     join-five                    all five children
--     join-four                    the four that are not child 0
use Rattle.std.specs.Prelude.{◌≡◌, refl, List, ◌++◌, ℕ, zero, suc, ◌+◌, ◌-◌, ◌≤◌}
use Rattle.std.proofs.Common.{append_assoc, append-nil, sub-one, arith}
use Rattle.model.specs.Lists.{join_below}
use Rattle.tree.specs.Trees.{join_last}

module _ {A : Type 0} (f : ℕ → List A) where
  pub join_step : (left : ℕ) → 1 ≤ left → join_last left f ≡ f (5 - left) ++ join_last (left - 1) f
  join_step zero h = absurd (omega arith)
  join_step (suc left) h = rw (sub-one (suc left)) refl

  pub join-five : join_last 5 f ≡ join_below 5 f
  join-five = simp (append_assoc, append-nil)

  pub join-four : join_last 4 f ≡ join_below 4 (λ i. f (1 + i))
  join-four = simp (append_assoc, append-nil)
