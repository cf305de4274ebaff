-- The test of each mark.
use Rattle.std.proofs.Common.{rules, ◌≡◌}
use borrow.Author.Tests.{tests}
use Rattle.std.proofs.lemmas.Iterator.{cases_from_all, YieldsList-from_slice}
use Rattle.tree_check.proofs.Laws.Marks.{marks-told}
use Rattle.tree_check.proofs.marks.all_marked.Goals as goal

pub returns : goal.returns
returns c =
    marks-told c.args.marks.now c.all.result
    (cases_from_all _ _ _ (λ x. x ≡ 1) (λ x. x ≡ 1 → ⊥) c.all.ensures.ran (YieldsList-from_slice c.args.marks.now cc)
    (λ x q k. search (rules, tests)) (λ x q k. search (rules, tests)))
