-- The child's number, by the law of codes.
use Rattle.std.proofs.Common.{ap, ◌∙◌}
use Rattle.geometry.specs.Cells.{bit_place}
use Rattle.geometry.proofs.Laws.Codes.{route-code}
use Rattle.geometry.proofs.centered_aabb.CenteredAABB.route.Goals as goal

pub returns : goal.returns
returns c = c.mutation_index.ensures ∙ ap bit_place c.explore_quadrants.ensures ∙ route-code _ _
