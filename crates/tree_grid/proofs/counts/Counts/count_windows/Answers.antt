-- The words are cleared, all places added, then the zero rectangle as often as dots have it.
use Rattle.std.proofs.Common.{arith, drop, ◌++◌, ◌≡◌}
use Rattle.geometry.specs.Rectangles.{zero_rect}
use Rattle.tree_grid.specs.Counts.{Cleared}
use Rattle.tree_grid.proofs.Laws.Reports.{filled, cleared_by, places-ask, has-few, has-live, has-free, rest-asks, rest-fits, totalled}
use Rattle.tree_grid.proofs.counts.Counts.count_windows.Goals as goal
use Rattle.tree_grid.proofs.counts.Counts.count_windows.Goals.{After-default, After-fill}

clear : (c : After-fill) →
    let row = c.args.self.now.row.now in
    Cleared row c.windows-windows.result (c.fill.new.self ++ drop c.windows-windows.result row)
clear c = filled _ _ _ (omega (arith, c.windows-windows.ensures, c.args.self.now.room)) (c.fill.ensures.after (λ y e. e))

zero : (c : After-default) → c.default.result ≡ zero_rect
zero c = let e = c.default.ensures in λ i. record { x1 = e.0 i; y1 = e.1.0 i; x2 = e.1.1.0 i; y2 = e.1.1.1 i }

pub add_places-pass-requires : goal.add_places-pass-requires
add_places-pass-requires c =
    let s = c.args.self.now in
    let cleared = clear (goal.at.add_places-pass-requires c).After-fill in
    let asked = places-ask _ _ _ cleared (omega (arith, c.windows-windows.ensures, s.room)) s.grid c.args.rects.now
    c.windows-windows.ensures (has-few c.args.state c.args.rects.now c.requires) in
    record { empty = asked.0; places_bound = asked.1 }

pub overflow_cast-free : goal.overflow_cast-free
overflow_cast-free c = omega (arith, has-few c.args.state c.args.rects.now c.requires)

pub overflow_sub-free : goal.overflow_sub-free
overflow_sub-free c = omega (arith, has-live c.args.state c.args.rects.now c.requires)

pub overflow_sub-pass : goal.overflow_sub-pass
overflow_sub-pass c = omega (arith, has-free c.args.state c.args.rects.now c.requires, c.add_places-pass.ensures.left_out)

pub add_rect-requires : goal.add_rect-requires
add_rect-requires c =
    let s = c.args.self.now in
    let cleared = clear (goal.at.add_rect-requires c).After-fill in
    let begun = places-ask _ _ _ cleared (omega (arith, c.windows-windows.ensures, s.room)) s.grid
    c.args.rects.now c.windows-windows.ensures (has-few c.args.state c.args.rects.now c.requires) in
    rest-asks c.add_places-pass.ensures begun.1.0 begun.0 (omega arith)

pub overflow_add-result : goal.overflow_add-result
overflow_add-result c =
    let added = rw (zero (goal.at.overflow_add-result c).After-default) at c.add_rect.ensures in
    omega (arith, rest-fits c.add_places-pass.ensures (has-few c.args.state c.args.rects.now c.requires) (omega arith) added.is_met)

pub returns-clause-totalled : goal.returns-clause-totalled
returns-clause-totalled c =
    let added = rw (zero (goal.at.returns-clause-totalled c).After-default) at c.add_rect.ensures in
    totalled (record {
      room = c.args.self.now.room;
      clears = cleared_by _ _ c.windows-windows.ensures (clear (goal.at.returns-clause-totalled c).After-fill);
      passes = c.add_places-pass.ensures;
      last = added;
    })
