-- The landing's refusal, or its splits.
use Rattle.model.proofs.Laws.Refusals.{handed-on}
use Rattle.tree_insert.proofs.Laws.Answers.{ask-refused, ask-told}
use Rattle.tree_insert.proofs.ask.ask_dot.Goals as goal

pub returns-in_err-splits : goal.returns-in_err-splits
returns-in_err-splits c =
    rw (handed-on c.from_residual.ensures.1) (ask-refused c.args.dot c.land.result c.land.ensures c.in_err-splits.was)

pub returns : goal.returns
returns c = ask-told c.args.dot c.land.result c.land.ensures c.in_ok-splits.was
