-- The invariant: what is written is the first of the bytes, and the failure is as it was.
use Rattle.std.proofs.Common.{length, take, ◌≤◌, ◌≡◌}
use Rattle.std.specs.Io.KnownBytes.{Appends}
use Rattle.stream.proofs.write_bytes.Given as goal

abbrev pub invariant-loop : goal.invariant-loop
invariant-loop g l =
    (l.done ≤ length l.bytes) × Appends (g.W.Write.contents l.initial.output.inner) (g.W.Write.contents l.output.inner) (take l.done l.bytes)
    × (l.output.failure ≡ l.initial.output.failure)
