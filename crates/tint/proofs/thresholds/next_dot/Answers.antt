-- The search goes over the columns of one tile.
use Rattle.std.proofs.Common.{rules, true, false, ◌≡◌}
use Rattle.std.proofs.lemmas.Iterator.{first_from_Range}
use Rattle.model.specs.Patch.{has_dot}
use Rattle.tint.proofs.Laws.Rows.{next-found}
use Rattle.tint.proofs.thresholds.next_dot.Goals as goal

pub returns : goal.returns
returns c =
    let dot = λ (i : _). has_dot c.args.patch i c.args.row in
    let found = first_from_Range _ _ _ _ (λ i. dot i ≡ true) (λ i. dot i ≡ false) c.find.ensures.ran (λ x q k. search rules) (λ x q k. search rules) in
    rw c.unwrap_or.ensures (next-found c.requires.1 (search rules) _ found)
