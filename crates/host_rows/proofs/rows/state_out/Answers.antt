-- Three stores, and the count.
use Rattle.host_rows.specs.Rows.{with_state}
use Rattle.host_rows.proofs.rows.state_out.Goals as goal

pub returns : goal.returns
unfolding with_state
returns c = c.wide_out.ensures
