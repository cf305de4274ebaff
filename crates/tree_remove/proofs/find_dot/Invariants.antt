-- A search whose invariant is that what it finds from here on is what it finds from the head. The places left fall.
use Rattle.std.proofs.Common.{◌≡◌, None}
use Rattle.tree_remove.proofs.Laws.Search.{Searching}
use Rattle.tree_remove.proofs.find_dot.Given as goal

abbrev pub invariant-search : goal.invariant-search
invariant-search l =
    let rest = l.places in
    goal.iterator-search.can_next rest × goal.iterator-search.is_finite rest × (rest.dots.now ≡ l.dots)
    × Searching l.dots l.id l.fn.leaf.first None l.fn.leaf.count rest.at l.previous rest.left
