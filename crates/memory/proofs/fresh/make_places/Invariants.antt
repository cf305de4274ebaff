-- The loop's invariant: the places before `place` hold their fresh words.
use Rattle.std.proofs.Common.{ℕ, ◌<◌, ◌≡◌}
use Rattle.model.specs.Dots.{zero_dot}
use Rattle.model.specs.Memory.{dot_at, next_at}
use Rattle.memory.specs.Fresh.{fresh_next}
use Rattle.memory.proofs.fresh.make_places.Given as goal

abbrev pub invariant-loop-place : goal.invariant-loop-place
invariant-loop-place l = (k : ℕ) → k < l.place → (dot_at l.dots l.rects k ≡ zero_dot) × (next_at l.dots k ≡ fresh_next l.places k)
