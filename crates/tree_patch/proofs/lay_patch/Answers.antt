-- A patch that cannot be laid is refused, and so is one whose dots cannot be counted; any other is laid whole.
use Rattle.std.proofs.Common.{ap, not, ◌∙◌}
use Rattle.memory.specs.Lent.{held_mut}
use Rattle.tree_patch.specs.Goes.{GoesTold}
use Rattle.tree_patch.proofs.Laws.Answers.{refused-14, refused-16, some-starts, laid-whole}
use Rattle.tree_patch.proofs.lay_patch.Goals as goal
use Rattle.tree_patch.proofs.lay_patch.Goals.{After-can_lay}

told : (c : After-can_lay) → GoesTold c.args.state c.args.patch (held_mut c.args.rows.now) c.can_lay.result
told c = rw (← c.shared.ensures.0, ← c.shared.ensures.1, ← c.shared.ensures.2) c.can_lay.ensures

pub returns-then-not-can_lay-clause-carried_out : goal.returns-then-not-can_lay-clause-carried_out
returns-then-not-can_lay-clause-carried_out c =
    refused-14 (told (goal.at.returns-then-not-can_lay-clause-carried_out c).After-can_lay) (ap not c.if-not-can_lay.true)

pub returns-then-not-can_count-clause-carried_out : goal.returns-then-not-can_count-clause-carried_out
returns-then-not-can_count-clause-carried_out c =
    refused-16 (told (goal.at.returns-then-not-can_count-clause-carried_out c).After-can_lay) (ap not c.if-not-can_lay.false)
    (c.from.ensures ∙ c.dots_number.ensures) c.can_count.ensures (ap not c.if-not-can_count.true)

pub lay_rows-requires : goal.lay_rows-requires
lay_rows-requires c =
    some-starts (told (goal.at.lay_rows-requires c).After-can_lay) c.requires.1 (ap not c.if-not-can_lay.false)
    (c.from.ensures ∙ c.dots_number.ensures) c.can_count.ensures (ap not c.if-not-can_count.false) c.requires.0

pub returns-clause-carried_out : goal.returns-clause-carried_out
returns-clause-carried_out c =
    laid-whole (told (goal.at.returns-clause-carried_out c).After-can_lay) c.requires.1 (ap not c.if-not-can_lay.false)
    (c.from.ensures ∙ c.dots_number.ensures) c.can_count.ensures (ap not c.if-not-can_count.false) _ _ _ _ c.lay_rows.ensures.proceeds
