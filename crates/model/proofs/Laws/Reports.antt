-- What a grid report says.
--     grid_eleven, grid_twelve     of a grid that is refused: by its sizes, wherever its corner is, then by its corner
--     grid_sized, grid_room, grid_small    of its grid, its row and its total
--     grid_exit    of the tree that it was made on: the counts, the total, and nothing else is changed
--     grid_book    after every list of calls: of the live dots in the book
use Rattle.std.specs.Prelude.{◌≡◌, List, ◌++◌, true, false, not, ltb, length, get_or}
use Rattle.std.proofs.Math.Path.{refl, ap}
use Rattle.std.proofs.Common.{◌∙◌, arith}
use Prim.Native.Nat.{ℕ, ◌+◌, ◌*◌, ◌≤◌, ◌<◌}
use borrow.Author.Tests.{not-true, lt-ltb, le-ltb, ltb-true, ltb-false}
use Rattle.std.proofs.Math.ListN.{drop}
use Rattle.arithmetic.proofs.Laws.Tests.{by_bool, true_false}
use Rattle.geometry.specs.declared.settings.Settings.{Settings}
use Rattle.grid.specs.declared.grid.Grid.{Grid}
use Rattle.grid.specs.Grids.{columns_of, windows, sizes_fit, corner_fits}
use Rattle.model.specs.Shapes.{Shape}
use Rattle.model.specs.Layout.{World, layout, Holds}
use Rattle.model.specs.Grid.{grid_counts, grid_total, GridOf}
use Rattle.model.specs.Calls.{refused, too_many, answered, Exit, exit, refuse, carried_out, Make, grid_rule, GridReport}
use Rattle.model.specs.Book.{accepted, Event, Run, Distinct, book}
use Rattle.model.proofs.Laws.Layout.{obeys-tree}
use Rattle.model.proofs.Laws.Pattern.{answered-tree}
use Rattle.model.proofs.Laws.Calls.{reply_of, answered-same}
use Rattle.model.proofs.Laws.Demand.{run-book}
use Rattle.model.proofs.Laws.Grid.{total_all, count-all, counts-length, counts-cell, total_le}

module _ (g : Grid) (room : ℕ) (x : Shape) where
  pub grid_eleven : sizes_fit g ≡ false → grid_rule g room x ≡ refuse 11
  unfolding grid_rule
  grid_eleven large = rw large refl

  pub grid_twelve : sizes_fit g ≡ true → corner_fits g ≡ false → grid_rule g room x ≡ refuse 12
  unfolding grid_rule
  grid_twelve sized far = rw (sized, far) refl

-- ---- an accepted one

module _ (g : Grid) (w : World) (row : List ℕ) (w' : World) (row' : List ℕ) (total : ℕ) (said : GridReport w g row w' row' (answered total)) where
  abbrev Left : Shape → Type 0
  Left x = exit w' row' (answered total) ≡ carried_out w row (grid_rule g (length row) x)

  not-refused : {v : World} {row'' : List ℕ} {k : ℕ} {X : Type 0} → exit w' row' (answered total) ≡ exit v row'' (refused k) → X
  not-refused e = true_false (ap (λ (f : Exit ℕ ℕ). accepted f.reply) e)

  not-many : {v : World} {row'' : List ℕ} {k : ℕ} {X : Type 0} → exit w' row' (answered total) ≡ exit v row'' (too_many k) → X
  not-many e = true_false (ap (λ (f : Exit ℕ ℕ). accepted f.reply) e)

  pub grid_sized : sizes_fit g ≡ true
  unfolding GridReport grid_rule
  grid_sized =
      answered-tree (grid_rule g (length row)) w row w' row' total said (sizes_fit g)
      (λ x h e. by_bool (sizes_fit g) (λ t. t) (λ f. not-refused (rw f at e)))

  near : corner_fits g ≡ true
  unfolding GridReport grid_rule
  near =
      answered-tree (grid_rule g (length row)) w row w' row' total said (corner_fits g)
      (λ x h e. by_bool (corner_fits g) (λ t. t) (λ f. not-refused (rw (grid_sized, f) at e)))

  pub grid_room : windows g ≤ length row
  unfolding GridReport grid_rule
  grid_room =
      ltb-false (length row) (windows g)
      (not-true (ltb (length row) (windows g))
      (answered-tree (grid_rule g (length row)) w row w' row' total said (not (ltb (length row) (windows g)))
      (λ x h e. by_bool (ltb (length row) (windows g)) (λ t. not-many (rw (grid_sized, near, t) at e)) (λ f. rw f refl))))

  -- of the shape that the memory has
  grid_left : (x : Shape) → Left x
      → exit w' row' (answered total) ≡ exit (layout x) (grid_counts g x ++ drop (length (grid_counts g x)) row) (answered (grid_total g x))
  unfolding grid_rule
  grid_left x e = rw (grid_sized, near, le-ltb (length row) (windows g) grid_room) at e

  pub grid_small : total < 4294967296
  unfolding GridReport
  grid_small =
      ltb-true total 4294967296
      (answered-tree (grid_rule g (length row)) w row w' row' total said (ltb total 4294967296)
      (λ x h e.
      let is : total ≡ grid_total g x = answered-same (reply_of (grid_left x e)) in
      lt-ltb total 4294967296 (omega (arith, is, total_le g grid_sized x h.valid))))

  pub grid_exit : (x : Shape) → Holds w x → (row' ≡ grid_counts g x ++ drop (windows g) row) × (total ≡ grid_total g x)
  unfolding GridReport
  grid_exit x h =
      let left = grid_left x (obeys-tree (grid_rule g (length row)) w row _ said x h) in (
        ap (λ (f : Exit ℕ ℕ). f.row) left ∙ ap (λ (n : ℕ). grid_counts g x ++ drop n row) (counts-length g x),
        answered-same (reply_of left),
      )

-- ---- the book

pub grid_book : (lent : World) (s : Settings) (start : World) → Make lent s start (answered tt)
    → (es : List Event) (w : World) → Run start es w → Distinct es
    → (g : Grid) (row : List ℕ) (w' : World) (row' : List ℕ) (total : ℕ) → GridReport w g row w' row' (answered total) → GridOf g (book es) row' total
grid_book lent s start made es w run distinct g row w' row' total said =
    let kept = run-book lent s start made es w run distinct in
    let x = kept.0 in
    let done = grid_exit g w row w' row' total said x kept.1 in
    record {
      counts = λ column line b l.
          ap (λ (r : List ℕ). get_or r (columns_of g * line + column) 0) done.0
          ∙ counts-cell g x (drop (windows g) row) column line b l
          ∙ count-all g x (book es) kept.2 column line;
      pairs = done.1 ∙ total_all g x (book es) kept.2;
    }
