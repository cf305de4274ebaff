-- The rows that a program works in, as one value.
--     lent_in      what they hold
--     SameWorkspace        the same program and the same loans, whatever they hold
use Rattle.std.specs.Prelude.{◌≡◌}
use Rattle.memory.specs.Lent.{SameRows}
use Rattle.ticket.specs.declared.Workspace.{Workspace}
use Rattle.ticket.specs.Turns.{Lent, lent}

abbrev pub lent_in : Workspace → Lent
lent_in w = lent w.rows.now.nodes.now w.rows.now.dots.now w.rows.now.rects.now w.marks.now w.row.now w.out.now

-- A value that holds `&mut`s could be given others: each function that takes it says that it has the ones it had.
pub record SameWorkspace (w w' : Workspace) : Type 0 where
  pub program : w'.program ≡ w.program
  pub rows : w'.rows.ghost_name ≡ w.rows.ghost_name
  pub same_rows : SameRows w.rows.now w'.rows.now
  pub marks : w'.marks.ghost_name ≡ w.marks.ghost_name
  pub row : w'.row.ghost_name ≡ w.row.ghost_name
  pub out : w'.out.ghost_name ≡ w.out.ghost_name
