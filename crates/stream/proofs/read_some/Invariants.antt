-- The invariant: the buffer keeps its length, and a read that a signal interrupts takes nothing and leaves the failure as it was.
use Rattle.std.proofs.Common.{length, ◌≡◌}
use Rattle.std.specs.Io.KnownBytes.{Keeps}
use Rattle.stream.proofs.read_some.Given as goal

abbrev pub invariant-loop : goal.invariant-loop
invariant-loop g l =
    (length l.buffer ≡ length l.initial.buffer) × Keeps (g.R.Read.remaining l.initial.input.inner) (g.R.Read.remaining l.input.inner)
    × (l.input.failure ≡ l.initial.input.failure)
