-- The statements of the lines are equations: two exits of one line are equal, in every word and every byte.
--     answered_fixed       a later line
--     turned_fixed         a later line of gridreport
--     started_fixed        the first line
-- Where a call is made, it must be told whether the memory is a tree; its own check tells it (§11.3).
use Rattle.std.specs.Prelude.{◌≡◌, ◌⊎◌, ℕ, length, Option, Some, None}
use Rattle.std.proofs.Math.Path.{refl, ap, sym}
use Rattle.std.proofs.Common.{ap₂, subst, ◌∙◌}
use mathlib.Core.List.{List, []}
use Rattle.geometry.specs.declared.settings.Settings.{Settings}
use Rattle.grid.specs.declared.grid.Grid.{Grid}
use Rattle.grid.specs.Grids.{columns_of, rows_of}
use Rattle.model.specs.declared.Dot.{Dot}
use Rattle.model.specs.Shapes.{Shape}
use Rattle.model.specs.Layout.{World, Holds}
use Rattle.model.specs.Calls.{Reply, exit, Insert, Remove, Cleanup, Query, GridReport, insert_rule, remove_rule, cleanup_rule, grid_rule}
use Rattle.model.proofs.Laws.Pattern.{obeys_fixed, make_fixed}
use Rattle.lines.specs.Report.{report}
use Rattle.lines.specs.Reading.{Output, Written}
use Rattle.lines.proofs.Laws.Rows.{written_fixed}
use Rattle.lines.proofs.Laws.Texts.{line-one}
use Rattle.lines.proofs.Laws.Grids.{grid_line_one}
use Rattle.lines.specs.declared.line.Call.TheVariants as call
use Rattle.lines.specs.declared.line.Call.{Call}
use Rattle.ticket.specs.Ticket.{reply_line, refusal_line, listing, plain_dot, InsertLine, Nine, LineAnswer, Answered}
use Rattle.ticket.specs.First.{Start, going, ended, start_of, MakeLine, NoStart, FirstAnswer, Started}
use Rattle.ticket.specs.Report.{GridAnswered, TurnAnswer, Turned}

-- w is a tree, or it is none
abbrev pub TreeOrNone : World → Type 0
TreeOrNone w = ((x : Shape) × Holds w x) ⊎ ((x : Shape) → Holds w x → ⊥)

module _ (o p : Output) (before : o.before ≡ p.before) where
  -- the lines of equal replies
  replies : {A : Type 0} (f g : A → List ℕ) (a b : Reply A) → f ≡ g → a ≡ b → Written o (reply_line f a) → Written p (reply_line g b) → o ≡ p
  replies f g a b e r v w = written_fixed o p (reply_line f a) before v (subst (Written p) (sym (ap₂ reply_line e r)) w)

  nine : {w : World} {row : List ℕ} {w₁ w₂ : World} {row₁ row₂ : List ℕ} → Nine w row w₁ row₁ o → Nine w row w₂ row₂ p
      → (w₁ ≡ w₂) × (row₁ ≡ row₂) × (o ≡ p)
  nine m n = (m.0 ∙ sym n.0, m.1 ∙ sym n.1, written_fixed o p (refusal_line 9) before m.2 n.2)

  module _ (w : World) (row : List ℕ) (tree? : TreeOrNone w) (w₁ w₂ : World) (row₁ row₂ : List ℕ) where
    insert_fixed : (dot : Dot) → (row₁ ≡ row) × InsertLine w dot w₁ o → (row₂ ≡ row) × InsertLine w dot w₂ p → (w₁ ≡ w₂) × (row₁ ≡ row₂) × (o ≡ p)
    unfolding Insert
    insert_fixed dot m n =
        let c = m.1 in
        let d = n.1 in
        let e = obeys_fixed _ (insert_rule dot) w [] (exit w₁ [] c.reply) (exit w₂ [] d.reply) tree? c.call d.call in
        (ap (λ x. x.world) e, m.0 ∙ sym n.0, replies _ _ _ _ refl (ap (λ x. x.reply) e) c.line d.line)

    answer_fixed : (l : Option Call) → LineAnswer w row l w₁ row₁ o → LineAnswer w row l w₂ row₂ p → (w₁ ≡ w₂) × (row₁ ≡ row₂) × (o ≡ p)
    unfolding Remove Cleanup Query
    answer_fixed None m n = nine m n
    answer_fixed (Some (call.Settings s)) m n = nine m.answer n.answer
    answer_fixed (Some (call.Insert id r)) m n = insert_fixed (plain_dot id r) m.answer n.answer
    answer_fixed (Some (call.InsertInk dot)) m n = insert_fixed dot m.answer n.answer
    answer_fixed (Some (call.Remove id r)) m n =
        let c = m.answer.1 in
        let d = n.answer.1 in
        let e = obeys_fixed _ (remove_rule id r) w [] (exit w₁ [] c.reply) (exit w₂ [] d.reply) tree? c.call d.call in
        (ap (λ x. x.world) e, m.answer.0 ∙ sym n.answer.0, replies _ _ _ _ refl (ap (λ x. x.reply) e) c.line d.line)
    answer_fixed (Some call.Cleanup) m n =
        let c = m.answer.1 in
        let d = n.answer.1 in
        let e = obeys_fixed _ cleanup_rule w [] (exit w₁ [] c.reply) (exit w₂ [] d.reply) tree? c.call d.call in
        (ap (λ x. x.world) e, m.answer.0 ∙ sym n.answer.0, replies _ _ _ _ refl (ap (λ x. x.reply) e) c.line d.line)
    answer_fixed (Some (call.Query r)) m n =
        let c = m.answer in
        let d = n.answer in
        let e = obeys_fixed _ _ w row (exit w₁ row₁ c.reply) (exit w₂ row₂ d.reply) tree? c.call d.call in
        let rows : row₁ ≡ row₂ = ap (λ x. x.row) e in
        (ap (λ x. x.world) e, rows, replies _ _ _ _ (ap listing rows) (ap (λ x. x.reply) e) c.line d.line)

pub answered_fixed : (w : World) (row input : List ℕ) → TreeOrNone w → (w₁ w₂ : World) (row₁ row₂ : List ℕ) (o p : Output) → o.before ≡ p.before
    → Answered w row input w₁ row₁ o → Answered w row input w₂ row₂ p → (w₁ ≡ w₂) × (row₁ ≡ row₂) × (o ≡ p)
answered_fixed w row input tree? w₁ w₂ row₁ row₂ o p before m n =
    let one = line-one input n.says m.says n.is m.is in
    answer_fixed o p before w row tree? w₁ w₂ row₁ row₂ m.says m.answer (subst (λ (l : Option Call). LineAnswer w row l w₂ row₂ p) one n.answer)

module _ (w : World) (row input : List ℕ) (tree? : TreeOrNone w) (r₁ r₂ : Start) (w₁ w₂ : World) (row₁ row₂ : List ℕ) (o p : Output)
    (before : o.before ≡ p.before) where
  grid_fixed : (g : Grid) → GridAnswered w g row w₁ row₁ o → GridAnswered w g row w₂ row₂ p → (w₁ ≡ w₂) × (row₁ ≡ row₂) × (o ≡ p)
  unfolding GridReport
  grid_fixed g m n =
      let e = obeys_fixed _ (grid_rule g (length row)) w row (exit w₁ row₁ m.reply) (exit w₂ row₂ n.reply) tree? m.call n.call in
      let rows : row₁ ≡ row₂ = ap (λ x. x.row) e in
      let lines = replies o p before _ _ _ _ (ap (report (columns_of g) (rows_of g)) rows) (ap (λ x. x.reply) e) m.line n.line in
      (ap (λ x. x.world) e, rows, lines)

  turn_fixed : (l : Option Grid) → TurnAnswer w row input l r₁ w₁ row₁ o → TurnAnswer w row input l r₂ w₂ row₂ p
      → (r₁ ≡ r₂) × (w₁ ≡ w₂) × (row₁ ≡ row₂) × (o ≡ p)
  turn_fixed (Some g) m n =
      let same = grid_fixed g m.1 n.1 in
      (m.0 ∙ ap (λ (x : Output). ended x.next) same.2 ∙ sym n.0, same.0, same.1, same.2)
  turn_fixed None m n =
      let same = answered_fixed w row input tree? w₁ w₂ row₁ row₂ o p before m.1 n.1 in
      (m.0 ∙ (λ i. going (same.0 i).state (same.2 i).next) ∙ sym n.0, same.0, same.1, same.2)

  pub turned_fixed : Turned w row input r₁ w₁ row₁ o → Turned w row input r₂ w₂ row₂ p → (r₁ ≡ r₂) × (w₁ ≡ w₂) × (row₁ ≡ row₂) × (o ≡ p)
  turned_fixed m n =
      let one = grid_line_one input n.says m.says n.is m.is in
      turn_fixed m.says m.answer (subst (λ (l : Option Grid). TurnAnswer w row input l r₂ w₂ row₂ p) one n.answer)

module _ (w : World) (r₁ r₂ : Start) (w₁ w₂ : World) (o p : Output) (before : o.before ≡ p.before) where
  no_start : NoStart w r₁ w₁ o → NoStart w r₂ w₂ p → (r₁ ≡ r₂) × (w₁ ≡ w₂) × (o ≡ p)
  no_start m n =
      let outs = written_fixed o p (refusal_line 9) before m.line n.line in
      (m.ends ∙ ap (λ (x : Output). ended x.next) outs ∙ sym n.ends, m.kept ∙ sym n.kept, outs)

  make-line : (s : Settings) → MakeLine w s r₁ w₁ o → MakeLine w s r₂ w₂ p → (r₁ ≡ r₂) × (w₁ ≡ w₂) × (o ≡ p)
  make-line s m n =
      let e = make_fixed w s w₁ w₂ m.reply n.reply m.call n.call in
      let outs = replies o p before _ _ _ _ refl e.1 m.line n.line in
      (m.goes ∙ (λ i. start_of (e.1 i) (e.0 i).state (outs i).next) ∙ sym n.goes, e.0, outs)

  first_fixed : (l : Option Call) → FirstAnswer w l r₁ w₁ o → FirstAnswer w l r₂ w₂ p → (r₁ ≡ r₂) × (w₁ ≡ w₂) × (o ≡ p)
  first_fixed None m n = no_start m n
  first_fixed (Some (call.Settings s)) m n = make-line s m n
  first_fixed (Some (call.Insert id r)) m n = no_start m n
  first_fixed (Some (call.InsertInk dot)) m n = no_start m n
  first_fixed (Some (call.Remove id r)) m n = no_start m n
  first_fixed (Some call.Cleanup) m n = no_start m n
  first_fixed (Some (call.Query r)) m n = no_start m n

  pub started_fixed : (input : List ℕ) → Started w input r₁ w₁ o → Started w input r₂ w₂ p → (r₁ ≡ r₂) × (w₁ ≡ w₂) × (o ≡ p)
  started_fixed input m n =
      let one = line-one input n.says m.says n.is m.is in
      first_fixed m.says m.answer (subst (λ (l : Option Call). FirstAnswer w l r₂ w₂ p) one n.answer)
