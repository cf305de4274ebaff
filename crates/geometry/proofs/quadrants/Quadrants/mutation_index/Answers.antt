-- The place of the lowest bit, of a code of eight bits.
use Rattle.std.proofs.Common.{rules}
use Rattle.geometry.proofs.Laws.Codes.{place-number}
use Rattle.geometry.proofs.quadrants.Quadrants.mutation_index.Goals as goal

pub returns : goal.returns
returns c = search (place-number, rules)
