-- The three ways: each refusal by its test, and the fresh tree.
use Rattle.std.proofs.Common.{ap, length, not, ◌≡◌}
use Rattle.memory.specs.Lengths.{lengths_fit}
use Rattle.calls.proofs.Laws.Make.{make-lengths, make-settings, make-made}
use Rattle.calls.proofs.make.make.Goals as goal
use Rattle.calls.proofs.make.make.Goals.{After-lengths_fit}

test : (c : After-lengths_fit) →
    let rows = c.args.rows.now in
    c.lengths_fit.result ≡ lengths_fit (length rows.nodes.now) (length rows.dots.now) (length rows.rects.now) (length c.args.marks.now)
test c = rw (← c.shared.ensures.0, ← c.shared.ensures.1, ← c.shared.ensures.2) c.lengths_fit.ensures

pub returns-then-not-lengths_fit-clause-makes : goal.returns-then-not-lengths_fit-clause-makes
returns-then-not-lengths_fit-clause-makes c =
    let fits = test (goal.at.returns-then-not-lengths_fit-clause-makes c).After-lengths_fit in
    make-lengths _ _ _ _ _ fits (ap not c.if-not-lengths_fit.true)

pub returns-then-not-in_range-clause-makes : goal.returns-then-not-in_range-clause-makes
returns-then-not-in_range-clause-makes c =
    let fits = test (goal.at.returns-then-not-in_range-clause-makes c).After-lengths_fit in
    make-settings _ _ _ _ _ fits (ap not c.if-not-lengths_fit.false) c.in_range.ensures (ap not c.if-not-in_range.true)

pub returns-clause-makes : goal.returns-clause-makes
returns-clause-makes c =
    let fits = test (goal.at.returns-clause-makes c).After-lengths_fit in
    make-made _ _ _ _ _ fits (ap not c.if-not-lengths_fit.false) c.in_range.ensures (ap not c.if-not-in_range.false) c.make_fresh.ensures.fresh
