-- The settings, three words, and the count.
use Rattle.std.proofs.Common.{get_or}
use Rattle.host_rows.specs.Rows.{state_in}
use Rattle.host_rows.proofs.rows.state_in.Goals as goal

pub returns : goal.returns
unfolding state_in
returns c =
    let row = c.args.state.now in
    let told = c.wide_in-changes.ensures in (
      (λ i. record {
        settings = c.settings_in-settings.ensures i;
        free_group = get_or row 7 0;
        free_place = get_or row 8 0;
        live = get_or row 9 0;
        changes = told.0 i;
      }),
      told.1,
    )
