-- Refusal 13, a test of both rows, then the call's own contract.
use Rattle.std.proofs.Common.{ap, not, rules, ◌∙◌, ◌≡◌}
use Rattle.model.specs.Answers.{change_state}
use Rattle.model.specs.Patch.{patch_fits}
use Rattle.host_rows.specs.Rows.{patch_of}
use Rattle.host_rows.proofs.Laws.Rows.{twelve, twelve-two, told-patch}
use Rattle.krakvinge.proofs.Laws.Exports.{exported_other, exported_changed, patch_bad, patch-good}
use Rattle.krakvinge.proofs.patching.krakvinge_patch.Goals as goal
use Rattle.krakvinge.proofs.patching.krakvinge_patch.Goals.{After-in_range}

tested : (c : After-in_range) → let a = c.args in
    c.in_range.result ≡ patch_fits (patch_of a.x a.y a.columns a.rows a.tint a.first_id)
tested c = let f = c.ranges in c.in_range.ensures ∙ ap patch_fits (told-patch f.x f.y)

pub returns-then-not-in_range : goal.returns-then-not-in_range
returns-then-not-in_range c =
    rw c.refused.ensures (patch_bad (tested (goal.at.returns-then-not-in_range c).After-in_range) (ap not c.if-not-in_range.true))

pub returns-then-not-rows_fit : goal.returns-then-not-rows_fit
returns-then-not-rows_fit c =
    let other = exported_other c.rows_fit.ensures (ap not c.if-not-rows_fit.true) in
    rw c.refused-then-not-rows_fit.ensures (patch-good (tested (goal.at.returns-then-not-rows_fit c).After-in_range) (ap not c.if-not-in_range.false) other)

pub state_in-before-requires : goal.state_in-before-requires
state_in-before-requires c = twelve _ _ c.rows_fit.ensures (ap not c.if-not-rows_fit.false)

pub change_out-requires : goal.change_out-requires
change_out-requires c = twelve-two _ _ c.rows_fit.ensures (ap not c.if-not-rows_fit.false)

pub returns : goal.returns
returns c =
    let f = c.ranges in
    let said = rw (told-patch f.x f.y) at c.patch-done.ensures.obeys in
    patch-good (tested (goal.at.returns c).After-in_range) (ap not c.if-not-in_range.false)
    (exported_changed (λ t. change_state t c.patch-done.result) _ c.rows_fit.ensures (ap not c.if-not-rows_fit.false)
    c.state_in-before.ensures.0 said (search rules) c.change_out.ensures.0 c.change_out.ensures.1)
