-- Rows that are the same loans.
--     same-rows-refl, same-rows-then       before any call; after one call and another
use Rattle.std.proofs.Math.Path.{refl}
use Rattle.std.proofs.Common.{◌∙◌}
use Rattle.memory.specs.declared.rows.RowsMut.{RowsMut}
use Rattle.memory.specs.Lent.{SameRows}

pub same-rows-refl : {r : RowsMut} → SameRows r r
same-rows-refl = record { nodes = refl; dots = refl; rects = refl }

pub same-rows-then : {r r' r'' : RowsMut} → SameRows r r' → SameRows r' r'' → SameRows r r''
same-rows-then s t = record { nodes = t.nodes ∙ s.nodes; dots = t.dots ∙ s.dots; rects = t.rects ∙ s.rects }
