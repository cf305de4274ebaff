-- An id and a rectangle, to the end or to an ink.
use Rattle.std.proofs.Common.{rules, tests, refl, [], ◌∷◌, ◌++◌, length, eqb}
use Rattle.arithmetic.proofs.Laws.Tests.{by_bool}
use Rattle.lines.specs.Lines.{four}
use Rattle.lines.proofs.Laws.Fields.{reads_then}
use Rattle.lines.proofs.Laws.Lines.{Begun, call-none, call-some, insert-none, insert-last}
use Rattle.lines.specs.Text.{u32}
use Rattle.lines.specs.declared.line.Call.TheVariants as call
use Rattle.lines.proofs.line.insert_line.Goals as goal

begun : Begun 73 (u32 ∷ four)
begun zs = by_bool (eqb (length zs) 6) (λ six. rw six (u32 ∷ [], refl)) (λ other. rw other ([], refl))

begun-id : Begun 73 (u32 ∷ [])
begun-id zs = let (ls, same) = begun zs in (four ++ ls, same)

pub returns-in_err-id : goal.returns-in_err-id
returns-in_err-id c = rw c.from_residual.ensures (call-none begun-id c.in_err-id.ensures)

pub returns-in_err-rect : goal.returns-in_err-rect
returns-in_err-rect c = rw c.from_residual-in_err-rect.ensures (call-none begun (reads_then c.in_ok-id.ensures c.in_err-rect.ensures))

pub returns-then-is_empty : goal.returns-then-is_empty
returns-then-is_empty c =
    call-some (call.Insert c.in_ok-id.id c.in_ok-rect.rect) (reads_then c.in_ok-id.ensures c.in_ok-rect.ensures) (search (rules, tests))

pub returns-in_err-ink : goal.returns-in_err-ink
returns-in_err-ink c =
    let dot = reads_then c.in_ok-id.ensures c.in_ok-rect.ensures in
    rw c.from_residual-in_err-ink.ensures (insert-none dot (search (rules, tests)) (reads_then dot c.in_err-ink.ensures))

pub returns : goal.returns
returns c =
    let dot = reads_then c.in_ok-id.ensures c.in_ok-rect.ensures in
    insert-last dot (search (rules, tests)) _ (reads_then dot c.in_ok-ink.ensures) c.is_empty-2.ensures c.then_some.ensures
