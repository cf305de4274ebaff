-- The columns that have a dot, counted.
use Rattle.std.proofs.Common.{ℕ, arith, refl, rules, ltb, ◌∙◌}
use Rattle.std.proofs.lemmas.Iterator.{YieldsList-from_range}
use Rattle.std.proofs.lemmas.Iterator.Consumers.{count_from_yields_List, YieldsList-at, YieldsList-from_filter}
use Rattle.model.specs.Thresholds.{threshold_at}
use Rattle.tint.proofs.Laws.Sums.{row-counted}
use Rattle.tint.proofs.sums.count_row.Goals as goal

pub returns : goal.returns
returns c =
    let dot = λ (i : ℕ). ltb (threshold_at i c.args.row) c.args.tint in
    let columns = YieldsList-at c.filter.ensures.source (YieldsList-from_range 0 c.args.width c.args.width refl (omega arith)) in
    count_from_yields_List c.filter.result _ c.count.ensures.ran
    (YieldsList-from_filter _ dot columns c.filter.ensures.closure (λ x r q k. search rules))
    ∙ row-counted c.args.tint c.args.row c.args.width
