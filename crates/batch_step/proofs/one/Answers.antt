-- The record, then its answer word.
use Rattle.batch_step.proofs.Laws.Records.{stepped}
use Rattle.batch_step.proofs.one.Goals as goal

pub returns-clause-stepped : goal.returns-clause-stepped
returns-clause-stepped c = stepped _ _ c.requires.0 c.carry_out-done.ensures.carried_out c.followed_by.ensures
