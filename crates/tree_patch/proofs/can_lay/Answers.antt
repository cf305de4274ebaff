-- The tests one after another; the last decides.
use Rattle.std.proofs.Common.{ap, not, subst, ℕ, ◌+◌, ◌≤◌}
use Rattle.tree_insert.proofs.Laws.FreeGroups.{free-listed}
use Rattle.tree.proofs.Laws.Operations.{tree-settings}
use Rattle.tree_patch.proofs.Laws.Goes.{no-places, off_the_film, none_off_the_film, groups-told}
use Rattle.tree_patch.specs.Counts.{AllAcceptable}
use Rattle.tree_patch.proofs.can_lay.Goals as goal
use Rattle.tree_patch.proofs.can_lay.Goals.{Else-dots_within-number}

accepted : (c : Else-dots_within-number) → AllAcceptable c.args.state.settings c.args.patch
accepted c =
    none_off_the_film _ _ c.dots_number-number.ensures (tree-settings c.requires.0) c.unit_bounds.ensures
    (rw c.new-tiled.ensures at c.dots_within.ensures) c.if-dots_within-number.false

pub returns-then-places_in-live : goal.returns-then-places_in-live
returns-then-places_in-live c = no-places _ _ c.dots_number-number.ensures c.places_in.ensures c.if-places_in-live.true

pub unit_bounds-requires : goal.unit_bounds-requires
unit_bounds-requires c = tree-settings c.requires.0

pub returns-then-dots_within-number : goal.returns-then-dots_within-number
returns-then-dots_within-number c = off_the_film _ _ c.dots_number-number.ensures (tree-settings c.requires.0) c.unit_bounds.ensures
    (rw c.new-tiled.ensures at c.dots_within.ensures) c.if-dots_within-number.true

pub patch_splits-splits-requires : goal.patch_splits-splits-requires
patch_splits-splits-requires c = rw c.new-tiled.ensures (c.requires.0, accepted (goal.at.patch_splits-splits-requires c).Else-dots_within-number)

pub has_free-requires : goal.has_free-requires
has_free-requires c =
    let tree = c.requires.0 in
    record { free = tree.shape.free_groups; listed = free-listed _ _ _ _ tree.marks tree.shape tree.holds }

pub returns : goal.returns
returns c =
    let live = c.args.state.live in
    let enough = subst (λ (n : ℕ). live + c.dots_number-number.result ≤ n) c.places_in.ensures c.if-places_in-live.false in
    groups-told _ _ c.dots_number-number.ensures c.ids_fit.ensures (ap not c.if-not-ids_fit.false) enough
    (accepted (goal.at.returns c).Else-dots_within-number) _ (rw c.new-tiled.ensures at c.patch_splits-splits.ensures) c.has_free.ensures
