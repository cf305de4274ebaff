-- Each row holds its fresh words: the loops' promises are those of the layout.
use Rattle.std.proofs.Common.{◌≡◌, length}
use Rattle.model.specs.Layout.{groups_in, places_in}
use Rattle.memory.proofs.Laws.Lengths.{nodes-stated, places-stated}
use Rattle.memory.proofs.Laws.Fresh.{fresh-written}
use Rattle.memory.proofs.fresh.make_fresh.Goals as goal
use Rattle.memory.proofs.fresh.make_fresh.Goals.{After-places_in-places}

groups : (c : After-places_in-places) → c.groups_in-groups.result ≡ groups_in (length c.args.rows.now.nodes.now)
groups c = rw (← c.shared-given.ensures.0) c.groups_in-groups.ensures

places : (c : After-places_in-places) → c.places_in-places.result ≡ places_in (length c.args.rows.now.dots.now)
places c = rw (← c.shared-given.ensures.1) c.places_in-places.ensures

pub make_nodes-requires : goal.make_nodes-requires
make_nodes-requires c = nodes-stated _ _ _ _ c.requires.0 (groups (goal.at.make_nodes-requires c).After-places_in-places)

pub make_places-requires : goal.make_places-requires
make_places-requires c = places-stated _ _ _ _ c.requires.0 (places (goal.at.make_places-requires c).After-places_in-places)

pub returns-clause-fresh : goal.returns-clause-fresh
returns-clause-fresh c =
    let a = c.args in
    let read = (goal.at.returns-clause-fresh c).After-places_in-places in
    search (fresh-written a.settings a.rows.now.nodes.now a.rows.now.dots.now a.rows.now.rects.now a.marks.now, groups read, places read)
