-- The invariant: the lines before a place are answered (`Chunking`). The measure is the bytes left.
use Rattle.std.proofs.Common.{length, ◌-◌, take}
use Rattle.ticket.specs.Workspace.{lent_in, SameWorkspace}
use Rattle.ticket_io.proofs.Laws.Reading.{Chunking}
use Rattle.ticket_io.proofs.reads.chunk.Given as goal

abbrev pub invariant-loop-at : goal.invariant-loop-at
invariant-loop-at g l =
    let i = l.initial in record {
      so_far : Chunking i.workspace.program i.phase (take i.kept i.line) l.bytes (length i.line) (lent_in i.workspace)
          l.phase l.kept l.at l.line (lent_in l.workspace);
      same_rows : SameWorkspace i.workspace l.workspace;
    }

abbrev pub decreases-loop-at : goal.decreases-loop-at
decreases-loop-at g l = length l.bytes - l.at
