-- A workspace of the same loans.
--     same-refl, same-then         before any call; after one call and another
use Rattle.std.proofs.Math.Path.{refl}
use Rattle.std.proofs.Common.{◌∙◌}
use Rattle.memory.proofs.Laws.Lent.{same-rows-refl, same-rows-then}
use Rattle.ticket.specs.declared.Workspace.{Workspace}
use Rattle.ticket.specs.Workspace.{SameWorkspace}

pub same-refl : {w : Workspace} → SameWorkspace w w
same-refl = record { program = refl; rows = refl; same_rows = same-rows-refl; marks = refl; row = refl; out = refl }

pub same-then : {w w' w'' : Workspace} → SameWorkspace w w' → SameWorkspace w' w'' → SameWorkspace w w''
same-then s t =
    record {
      program = t.program ∙ s.program;
      rows = t.rows ∙ s.rows;
      same_rows = same-rows-then s.same_rows t.same_rows;
      marks = t.marks ∙ s.marks;
      row = t.row ∙ s.row;
      out = t.out ∙ s.out;
    }
