-- The kind, and the dot after it.
use Rattle.std.proofs.Common.{get_or, ◌*◌}
use Rattle.host_rows.specs.Records.{record_in}
use Rattle.host_rows.proofs.records.record_in.Goals as goal

pub returns : goal.returns
unfolding record_in
returns c = λ k. record { kind = get_or c.args.records.now (7 * c.args.i) 0; dot = c.dot_in-dot.ensures k }
