-- The remove, and its answer as a record.
use Rattle.batch_step.proofs.Laws.Records.{remove_done}
use Rattle.batch_step.proofs.remove_record.Goals as goal

pub returns-clause-carried_out : goal.returns-clause-carried_out
returns-clause-carried_out c = remove_done c.args.dot c.remove_dot-answer.result c.remove_dot-answer.ensures.carried_out c.said_record.ensures
