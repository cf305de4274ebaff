-- A whole line is answered, a part of one is kept.
use Rattle.std.proofs.Common.{rules}
use Rattle.ticket.proofs.Laws.Workspace.{same-refl, same-then}
use Rattle.ticket_io.proofs.Laws.Reading.{chunk_start, chunk_line, chunk_part}
use Rattle.ticket_io.proofs.reads.chunk.Goals as goal

pub loop-at-init : goal.loop-at-init
loop-at-init g c = record { so_far = chunk_start _ _ _ _ _ _ c.requires; same_rows = same-refl }

pub loop-at-preserved : goal.loop-at-preserved
loop-at-preserved g c =
    let i = c.loop-at.invariant in
    record {
      so_far = chunk_line i.so_far c.in-Some.is c.next_line-found.ensures (search rules) i.same_rows.program c.turn-phase.ensures.turn;
      same_rows = same-then i.same_rows c.turn-phase.ensures.same_rows;
    }

pub returns-in_default-clause-chunked : goal.returns-in_default-clause-chunked
returns-in_default-clause-chunked g c = chunk_part c.loop-at.invariant.so_far (search rules) c.next_line-found.ensures
