-- A patch whose dots are being laid, by rows and columns.
--     rects_before, dots_before      what stands before a column of a row, in the patch's order
--     DotAt        there is a dot at a column and a row
--     patch_dot     it, after so many others; DotFits: its numbers fit
--     none_laid     nothing is laid yet
--     Progress, SomeProgress       the dots before a column of a row are laid, and the others can be
--     Proceeds     from one column and row to another
use Rattle.std.specs.Prelude.{◌≡◌, List, ◌++◌, true, ℕ, ◌+◌, ◌*◌, ◌≤◌, ◌<◌, pos, ◌+ℤ◌, length}
use Rattle.std.specs.Int.{w32}
use Rattle.std.proofs.Common.{SFits}
use Rattle.geometry.specs.declared.aabb.AABB.{AABB}
use Rattle.model.specs.declared.Dot.{Dot}
use Rattle.model.specs.declared.State.{State}
use Rattle.model.specs.declared.patch.Patch.{Patch}
use Rattle.model.specs.Lists.{join_below}
use Rattle.model.specs.Shapes.{Shape, Valid}
use Rattle.model.specs.Layout.{Holds}
use Rattle.model.specs.Calls.{largest_count}
use Rattle.model.specs.Laying.{laid}
use Rattle.model.specs.Patch.{patch_fits, unit_rect, has_dot, rects_at, numbered, patch_dots, PatchGoes}
use Rattle.model.specs.declared.answers.Changed.{Changed}
use Rattle.memory.specs.Lent.{Held, world_of}

-- those of the rows above, and those to the left
unfoldable pub rects_before : Patch → ℕ → ℕ → List AABB
rects_before p column row = join_below row (λ j. join_below (16 * p.columns) (λ i. rects_at p i j)) ++ join_below column (λ i. rects_at p i row)

abbrev pub dots_before : Patch → ℕ → ℕ → List Dot
dots_before p column row = numbered p.first_id (rects_before p column row)

-- the patch has a dot there
pub record DotAt (p : Patch) (column row : ℕ) : Type 0 where
  pub in_row : column < 16 * p.columns
  pub in_patch : row < 16 * p.rows
  pub there : has_dot p column row ≡ true

abbrev pub patch_dot : Patch → ℕ → ℕ → ℕ → Dot
patch_dot p column row number =
    record { id = p.first_id + number; rect = unit_rect (p.x +ℤ pos column) (p.y +ℤ pos row); ink = 0 }

pub record DotFits (p : Patch) (column row number : ℕ) : Type 0 where
  pub column_fits : column ≤ 1024
  pub row_fits : row ≤ 1024
  pub left : SFits w32 (p.x +ℤ pos column)
  pub top : SFits w32 (p.y +ℤ pos row)
  pub right : SFits w32 ((p.x +ℤ pos column) +ℤ pos 1)
  pub bottom : SFits w32 ((p.y +ℤ pos row) +ℤ pos 1)
  pub id : p.first_id + number ≤ 4294967295

abbrev pub none_laid : State → Changed
none_laid s = record { state = s; number = 0 }

-- from the shape x on, in which the patch can be laid and its dots counted
pub record Progress (p : Patch) (column row : ℕ) (l : Changed) (h : Held) (marks : List ℕ) (x : Shape) : Type 0 where
  pub fits : patch_fits p ≡ true
  pub valid : Valid x
  pub goes : PatchGoes p x
  pub counts : x.changes + length (patch_dots p) ≤ largest_count
  pub holds : Holds (world_of l.state h marks) (laid (dots_before p column row) x)
  pub number : l.number ≡ length (rects_before p column row)

pub record SomeProgress (p : Patch) (column row : ℕ) (l : Changed) (h : Held) : Type 0 where
  pub marks : List ℕ
  pub shape : Shape
  pub progress : Progress p column row l h marks shape

pub record Proceeds (p : Patch) (column row : ℕ) (l : Changed) (h : Held) (column' row' : ℕ) (l' : Changed)
    (h' : Held) : Type 0 where
  pub on : (marks : List ℕ) (x : Shape) → Progress p column row l h marks x → Progress p column' row' l' h' marks x
