-- The first LF from the place on ends the line; without one, all the bytes are a part of it.
use Rattle.std.proofs.Common.{rules, tests, sym, ◌∙◌, ◌≡◌, ◌-◌, length, take, drop}
use Rattle.std.proofs.lemmas.Iterator.{YieldsList-from_slice}
use Rattle.std.proofs.lemmas.Iterator.Search.{position_from_yields_List}
use Rattle.std.proofs.lemmas.List.{take_rest}
use Rattle.std.specs.List.{position}
use Rattle.line_reader.proofs.Laws.Steps.{is_lf, found-line, found-part}
use Rattle.line_reader.proofs.next_line.Goals as goal

pub returns-in-Some : goal.returns-in-Some
returns-in-Some c =
    let rest = take (length c.args.bytes.now - c.args.at) (drop c.args.at c.args.bytes.now) in
    let first : c.position.result ≡ position is_lf rest =
    position_from_yields_List is_lf _ _ _ c.position.ensures.ran (YieldsList-from_slice rest cc) (λ x b q k. search (rules, tests)) in
    found-line (take_rest c.args.bytes.now c.args.at) c.requires.1 (sym first ∙ c.in-Some.is) c.keep.ensures

pub returns-in-None : goal.returns-in-None
returns-in-None c =
    let rest = take (length c.args.bytes.now - c.args.at) (drop c.args.at c.args.bytes.now) in
    let first : c.position.result ≡ position is_lf rest =
    position_from_yields_List is_lf _ _ _ c.position.ensures.ran (YieldsList-from_slice rest cc) (λ x b q k. search (rules, tests)) in
    found-part (take_rest c.args.bytes.now c.args.at) c.requires.1 (sym first ∙ c.in-None.is) c.keep-in-None.ensures
