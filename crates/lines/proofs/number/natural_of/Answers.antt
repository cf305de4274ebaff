-- The bytes are added up, and the sum's text is held against them.
use Rattle.std.proofs.Common.{rules, tests, ◌≡◌}
use Rattle.lines.specs.Text.{decimal}
use Rattle.lines.proofs.Laws.Digits.{natural-part, decimal-std}
use Rattle.lines.proofs.number.natural_of.Goals as goal

pub returns : goal.returns
returns c =
    let text : decimal c.value_of-value.result ≡ c.as_bytes.result.now = search (rules, decimal-std) in
    rw (c.then_some.ensures) (natural-part _ _ _ (search rules) c.value_of-value.ensures (rw text (search (rules, tests))))
