-- The four numbers by `signed`, and three words.
use Rattle.std.proofs.Common.{get_or, w32}
use Rattle.arithmetic.proofs.Laws.Linear.{got}
use Rattle.host_rows.specs.Rows.{settings_in}
use Rattle.host_rows.proofs.rows.settings_in.Goals as goal

pub returns : goal.returns
unfolding settings_in
returns c =
    let row = c.args.state.now in
    let left = got w32 c.signed-left.type_inv c.signed-left.ensures in
    let top = got w32 c.signed-top.type_inv c.signed-top.ensures in
    let width = got w32 c.signed-width.type_inv c.signed-width.ensures in
    let height = got w32 c.signed-height.type_inv c.signed-height.ensures in
    λ i. record {
      left = left i;
      top = top i;
      width = width i;
      height = height i;
      depth_limit = get_or row 4 0;
      leaf_limit = get_or row 5 0;
      smallest_cell = get_or row 6 0;
    }
