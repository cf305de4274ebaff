-- The lines that a read brought are answered after those before it.
use Rattle.std.proofs.Common.{arith, sym, ◌∙◌}
use Rattle.ticket.proofs.Laws.Workspace.{same-refl, same-then}
use Rattle.ticket_io.proofs.Laws.Reading.{reading-start, reading-on, reading-over}
use Rattle.ticket_io.proofs.run.run.Goals as goal

pub loop-init : goal.loop-init
loop-init g c = record { so_far = reading-start _ _ _ _; kept = omega arith; same_rows = same-refl; line_room = c.requires }

pub returns-then-is_over-clause-all_answered : goal.returns-then-is_over-clause-all_answered
returns-then-is_over-clause-all_answered g c =
    let i = c.loop.invariant in
    reading-over i.so_far i.line_room i.same_rows.program c.read_on-progress.ensures.read_on

pub loop-preserved : goal.loop-preserved
loop-preserved g c =
    let i = c.loop.invariant in record {
      so_far = reading-on i.so_far i.line_room i.same_rows.program c.read_on-progress.ensures.read_on (sym c.is_over.ensures ∙ c.if-is_over.false);
      kept = c.read_on-progress.ensures.kept_after;
      same_rows = same-then i.same_rows c.read_on-progress.ensures.same_rows;
      line_room = omega arith;
    }
