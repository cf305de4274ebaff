-- The loops over the columns and rows of a patch.
--     proceeds_none, proceeds_then, proceeds_some  nothing laid; one part after another; what the next part asks
--     row_next     to the next dot of a row
--     row_done, rows_done  the end of a row is the start of the next; the end of all
use Rattle.std.specs.Prelude.{◌≡◌, List, ℕ, suc, ◌*◌, length}
use Rattle.std.proofs.Common.{ap, sym, ◌∙◌, subst}
use Rattle.geometry.specs.declared.aabb.AABB.{AABB}
use Rattle.model.specs.declared.patch.Patch.{Patch}
use Rattle.model.specs.Shapes.{Shape}
use Rattle.model.specs.Layout.{Holds}
use Rattle.model.specs.Laying.{laid}
use Rattle.model.specs.Patch.{numbered}
use Rattle.memory.specs.Lent.{Held, world_of}
use Rattle.tint.specs.Rows.{NextDot}
use Rattle.model.specs.declared.answers.Changed.{Changed}
use Rattle.tree_patch.specs.Laid.{rects_before, Progress, SomeProgress, Proceeds}
use Rattle.tree_patch.proofs.Laws.Order.{before-row, here-skipped}

-- two columns and rows before which the same dots stand
moved : {p : Patch} {column row column' row' : ℕ} {l : Changed} {h : Held} {marks : List ℕ} {x : Shape}
    → rects_before p column row ≡ rects_before p column' row' → Progress p column row l h marks x → Progress p column' row' l h marks x
moved {p} {l = l} {h} {marks} {x} same g =
    record {
      fits = g.fits;
      valid = g.valid;
      goes = g.goes;
      counts = g.counts;
      holds = subst (λ (rs : List AABB). Holds (world_of l.state h marks) (laid (numbered p.first_id rs) x)) same g.holds;
      number = g.number ∙ ap length same;
    }

module _ {p : Patch} {column row : ℕ} {l : Changed} {h : Held} where
  pub proceeds_none : Proceeds p column row l h column row l h
  proceeds_none = record { on = λ marks x g. g }

  module _ {column₁ row₁ : ℕ} {l₁ : Changed} {h₁ : Held} where
    pub proceeds_some : SomeProgress p column row l h → Proceeds p column row l h column₁ row₁ l₁ h₁ → SomeProgress p column₁ row₁ l₁ h₁
    proceeds_some s on = record { marks = s.marks; shape = s.shape; progress = on.on s.marks s.shape s.progress }

    pub proceeds_then : {column₂ row₂ : ℕ} {l₂ : Changed} {h₂ : Held} → Proceeds p column row l h column₁ row₁ l₁ h₁
        → Proceeds p column₁ row₁ l₁ h₁ column₂ row₂ l₂ h₂ → Proceeds p column row l h column₂ row₂ l₂ h₂
    proceeds_then first second = record { on = λ marks x g. second.on marks x (first.on marks x g) }

    -- to the next dot, or the row's end
    pub row_next : {next : ℕ} → NextDot p column₁ row₁ next → Proceeds p column row l h column₁ row₁ l₁ h₁
        → Proceeds p column row l h next row₁ l₁ h₁
    row_next {next} n done =
        record { on = λ marks x g. moved (sym (here-skipped p column₁ row₁ next n.onward n.none)) (done.on marks x g) }

    -- its end is the start of the next
    pub row_done : column₁ ≡ 16 * p.columns → Proceeds p column row l h column₁ row₁ l₁ h₁
        → Proceeds p column row l h 0 (suc row₁) l₁ h₁
    row_done e done =
        let same : rects_before p column₁ row₁ ≡ rects_before p 0 (suc row₁) = ap (λ (k : ℕ). rects_before p k row₁) e ∙ sym (before-row p row₁) in
        record { on = λ marks x g. moved same (done.on marks x g) }

    pub rows_done : row₁ ≡ 16 * p.rows → Proceeds p column row l h column₁ row₁ l₁ h₁
        → Proceeds p column row l h column₁ (16 * p.rows) l₁ h₁
    rows_done e done = subst (λ (k : ℕ). Proceeds p column row l h column₁ k l₁ h₁) e done
