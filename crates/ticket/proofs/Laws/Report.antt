-- The answers to a later line of gridreport, case by case, and what they say of the tree.
--     grid_refused, grid_reported   the report's answer, and the line that was written for it
--     report-asks  what the writing of a report asks, of an accepted one
--     report-lines THE LAW: the bytes of an accepted report are the lines of the grid's windows on the tree, and their total
--     grid_nine    a ticket's answer to a grid's line
use Rattle.std.specs.Prelude.{◌≡◌, List, ◌++◌, Option, Some, None, Result, Ok, Err, ℕ, ◌+◌, ◌*◌, ◌^◌, ◌≤◌, ◌<◌, length, get_or, drop}
use Rattle.std.proofs.Common.{ap, ap₂, subst, subst₂, sym, ◌∙◌, mul_comm, arith}
use Rattle.grid.specs.declared.grid.Grid.{Grid}
use Rattle.grid.specs.Grids.{columns_of, rows_of, windows}
use Rattle.grid.proofs.Laws.Windows.{sizes}
use Rattle.model.specs.Lists.{join_over}
use Rattle.model.specs.Shapes.{Shape}
use Rattle.model.specs.Layout.{World, Holds}
use Rattle.model.specs.Grid.{WindowLine, window_count, grid_counts, grid_lines, grid_total}
use Rattle.model.specs.declared.refusal.Refusal.{Refusal}
use Rattle.model.specs.Refusals.{number_of, refusal_reply}
use Rattle.model.specs.Calls.{answered, GridReport}
use Rattle.model.specs.Answers.{number_reply}
use Rattle.model.proofs.Laws.Lists.{join_below_ext}
use Rattle.model.proofs.Laws.Grid.{counts-cell, join-windows}
use Rattle.model.proofs.Laws.Reports.{grid_sized, grid_room, grid_small, grid_exit}
use Rattle.lines.specs.Report.{window_line, window_row, window_lines, total_line, report}
use Rattle.lines.specs.Reading.{Output, Written}
use Rattle.lines.specs.Grids.{GridLineOf}
use Rattle.lines.proofs.Laws.Grids.{grid_unreadable}
use Rattle.lines.proofs.Laws.Texts.{line-one}
use Rattle.lines.specs.declared.line.Call.{Call}
use Rattle.ticket.specs.Ticket.{refusal_line, Nine, LineAnswer, Answered}
use Rattle.ticket.proofs.Laws.Replies.{refused-line}
use Rattle.ticket.specs.Report.{line_text, report_lines, GridAnswered}

module _ {w w' : World} {g : Grid} {row row' : List ℕ} {out : Output} {a : Result ℕ Refusal} where
  pub grid_refused : {e : Refusal} → a ≡ Err e → GridReport w g row w' row' (number_reply a) → Written out (refusal_line (number_of e))
      → GridAnswered w g row w' row' out
  grid_refused {e} is h l = record { reply = refusal_reply e; call = rw is at h; line = refused-line (report (columns_of g) (rows_of g) row') e l }

  -- c and r: the columns and the rows, as the code has them
  pub grid_reported : {total c r : ℕ} → a ≡ Ok total → GridReport w g row w' row' (number_reply a) → c ≡ columns_of g → r ≡ rows_of g
      → Written out (report c r row' total) → GridAnswered w g row w' row' out
  grid_reported {total} e h across down l = record {
    reply = answered total;
    call = rw e at h;
    line = subst₂ (λ (n m : ℕ). Written out (report n m row' total)) across down l;
  }

pub report-asks : (w : World) (g : Grid) (row : List ℕ) (w' : World) (row' : List ℕ) {a : Result ℕ Refusal} {total c r bytes : ℕ} → a ≡ Ok total
    → GridReport w g row w' row' (number_reply a) → c ≡ columns_of g → r ≡ rows_of g → length row' ≡ length row → 24 + 17 * length row ≤ bytes
    → ((c ≤ 64) × (r ≤ 64) × (c * r ≤ length row') × (total < 2 ^ 32)) × (17 + 17 * (c * r) ≤ bytes)
report-asks w g row w' row' {total = total} {c} {r} e h across down same room =
    let said : GridReport w g row w' row' (answered total) = rw e at h in
    let z = sizes g (grid_sized g w row w' row' total said) in
    let all : c * r ≡ windows g = λ i. across i * down i in
    let fits = grid_room g w row w' row' total said in (
      (omega (arith, z.few_columns), omega (arith, z.few_rows), omega arith, omega (arith, grid_small g w row w' row' total said)),
      omega arith,
    )

-- a grid is no call: refusal 9, and nothing is changed
pub grid_nine : (w : World) (g : Grid) (row input : List ℕ) (w' : World) (row' : List ℕ) (out : Output) → GridLineOf input (Some g)
    → Answered w row input w' row' out → Nine w row w' row' out
grid_nine w g row input w' row' out is a =
    let none = line-one input a.says None a.is (grid_unreadable g input is.2) in
    subst (λ (l : Option Call). LineAnswer w row l w' row' out) none a.answer

-- ---- the report's lines are those of the tree

-- counts that stand in the row, with more words after them
counts-lines : (g : Grid) (x : Shape) (rest : List ℕ) → window_lines (columns_of g) (rows_of g) (grid_counts g x ++ rest) ≡ join_over line_text (grid_lines g x)
unfolding window_lines window_row grid_lines
counts-lines g x rest =
    let line_of : ℕ → ℕ → WindowLine = λ column line. record { column = column; row = line; count = window_count g x column line } in
    join_below_ext (rows_of g) _ _ (λ line l. join_below_ext (columns_of g) _ (λ column. line_text (line_of column line)) (λ column b.
    ap (window_line column line)
    (ap (λ (n : ℕ). get_or (grid_counts g x ++ rest) (n + column) 0) (mul_comm line (columns_of g)) ∙ counts-cell g x rest column line b l)))
    ∙ sym (join-windows g line_text line_of)

pub report-lines : (w : World) (g : Grid) (row : List ℕ) (w' : World) (row' : List ℕ) (total : ℕ) → GridReport w g row w' row' (answered total)
    → (x : Shape) → Holds w x → report (columns_of g) (rows_of g) row' total ≡ report_lines (grid_lines g x) (grid_total g x)
report-lines w g row w' row' total said x h =
    let done = grid_exit g w row w' row' total said x h in
    ap₂ (λ (ls : List ℕ) (n : ℕ). ls ++ total_line n)
    (ap (window_lines (columns_of g) (rows_of g)) done.0 ∙ counts-lines g x (drop (windows g) row))
    done.1
