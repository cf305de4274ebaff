-- The first comma after the field's own ends it.
use Rattle.std.proofs.Common.{rules, tests, ◌≡◌, ◌-◌, length, take, drop}
use Rattle.std.proofs.lemmas.Iterator.{YieldsList-from_slice}
use Rattle.std.proofs.lemmas.Iterator.Search.{position_from_yields_List}
use Rattle.std.specs.List.{position}
use Rattle.lines.proofs.Laws.Digits.{first-byte}
use Rattle.lines.proofs.Laws.Fields.{is_comma, part-of}
use Rattle.lines.proofs.field.Fields.part.Goals as goal

pub returns : goal.returns
returns c =
    let after = take (length c.args.self.now.rest.now - 1) (drop 1 c.args.self.now.rest.now) in
    let first : c.position.result ≡ position is_comma after =
    position_from_yields_List is_comma _ _ _ c.position.ensures.ran (YieldsList-from_slice after cc) (λ x b q k. search (rules, tests)) in
    part-of (search (rules, first-byte)) (rw first at c.unwrap_or-end.ensures) c.split_at.ensures.front c.split_at.ensures.back
