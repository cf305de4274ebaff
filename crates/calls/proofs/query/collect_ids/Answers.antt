-- The check, then a query with the root's rectangle, of all inks.
use Rattle.tree_query.proofs.Laws.Queries.{tree-root}
use Rattle.model.proofs.Laws.Refusals.{handed-on}
use Rattle.calls.proofs.Laws.Pattern.{checked-tree}
use Rattle.calls.proofs.Laws.Calls.{collect_refused, collect_answered}
use Rattle.calls.proofs.query.collect_ids.Goals as goal

pub returns-in_err-check : goal.returns-in_err-check
returns-in_err-check c = rw (handed-on c.from_residual.ensures.1) (collect_refused c.check.ensures _ c.in_err-check.was)

pub root_rect-requires : goal.root_rect-requires
root_rect-requires c = tree-root _ _ _ _ (checked-tree c.check.ensures c.in_ok-check.was)

pub returns : goal.returns
returns c = collect_answered c.check.ensures _ c.in_ok-check.was c.root_rect.ensures c.all_inks-window.ensures _ _ c.query_row.ensures
