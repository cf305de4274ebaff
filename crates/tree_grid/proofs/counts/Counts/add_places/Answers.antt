use Rattle.std.proofs.Common.{rules}
use Rattle.tree_grid.proofs.Laws.Places.{place-asks, pass-more}
use Rattle.tree_grid.proofs.counts.Counts.add_places.Goals as goal

pub add_place-pass-requires : goal.add_place-pass-requires
add_place-pass-requires c =
    let asked = place-asks c.loop-place.invariant c.requires.empty c.requires.places_bound in
    record { room = asked.0; total_bound = asked.1 }

pub loop-place-preserved : goal.loop-place-preserved
loop-place-preserved c = search (rules, pass-more)
