-- A record of each kind.
use Rattle.std.proofs.Common.{arith}
use Rattle.std.proofs.lemmas.Bool.Decides.{nat_tests}
use Rattle.batch_step.proofs.Laws.Records.{of_kind, other_kind}
use Rattle.batch_step.proofs.carry_out.Goals as goal

pub returns-in-Insert-clause-carried_out : goal.returns-in-Insert-clause-carried_out
returns-in-Insert-clause-carried_out c = of_kind c.args.record 0 (grind (arith, nat_tests)) c.insert_record.ensures.carried_out

pub returns-in-Remove-clause-carried_out : goal.returns-in-Remove-clause-carried_out
returns-in-Remove-clause-carried_out c = of_kind c.args.record 1 (grind (arith, nat_tests)) c.remove_record.ensures.carried_out

pub returns-in-Cleanup-clause-carried_out : goal.returns-in-Cleanup-clause-carried_out
returns-in-Cleanup-clause-carried_out c = of_kind c.args.record 2 (grind (arith, nat_tests)) (c.cleanup_record.ensures.carried_out _)

pub returns-in-Unknown-clause-carried_out : goal.returns-in-Unknown-clause-carried_out
returns-in-Unknown-clause-carried_out c =
    other_kind c.args.record (λ e. grind (arith, nat_tests)) (λ e. grind (arith, nat_tests)) (λ e. grind (arith, nat_tests)) c.refused_word.ensures
