-- The insert, and its answer as a record.
use Rattle.batch_step.proofs.Laws.Records.{insert_done}
use Rattle.batch_step.proofs.insert_record.Goals as goal

pub returns-clause-carried_out : goal.returns-clause-carried_out
returns-clause-carried_out c = insert_done c.args.dot c.insert_dot-answer.result c.insert_dot-answer.ensures.carried_out c.splits_record.ensures
