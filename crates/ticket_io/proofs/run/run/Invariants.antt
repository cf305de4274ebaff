-- The invariant: the lines of the pieces so far are answered (`Reading`).
use Rattle.std.proofs.Common.{◌≡◌, ◌≤◌, length}
use Rattle.ticket.specs.Workspace.{lent_in, SameWorkspace}
use Rattle.ticket_io.specs.Reading.{Reading}
use Rattle.ticket_io.proofs.run.run.Given as goal

abbrev pub invariant-loop : goal.invariant-loop
invariant-loop g l =
    let i = l.initial in record {
      so_far : Reading i.workspace.program 81 (lent_in i.workspace) l.progress l.line (lent_in l.workspace);
      kept : l.progress.kept ≤ length l.line;
      same_rows : SameWorkspace i.workspace l.workspace;
      line_room : length l.line ≡ 81;
    }
