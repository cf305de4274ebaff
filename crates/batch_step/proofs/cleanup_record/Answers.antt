-- The cleanup, and its answer as a record.
use Rattle.batch_step.proofs.Laws.Records.{cleanup_done}
use Rattle.batch_step.proofs.cleanup_record.Goals as goal

pub returns-clause-carried_out : goal.returns-clause-carried_out
returns-clause-carried_out c = cleanup_done _ c.cleanup_tree-answer.ensures c.said_record.ensures
