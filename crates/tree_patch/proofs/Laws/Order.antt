-- The dots of a patch in their order.
--     before-start, before-row, before_end         where the order begins, goes on in the next row, and ends
--     here-laid, here-skipped      one column on, with a dot; columns without one
--     patch-parts  the patch's dots: those before a dot, the dot, those after it
use Rattle.std.specs.Prelude.{◌≡◌, true, false, ℕ, zero, suc, ◌+◌, ◌*◌, ◌≤◌, ◌<◌, pos, ◌+ℤ◌, length}
use Rattle.std.proofs.Math.Path.{refl, sym}
use Rattle.std.proofs.Common.{ap, ◌∙◌, add-zero, arith}
use mathlib.Core.List.{List, [], ◌∷◌, ◌++◌, append_assoc, append-nil}
use Rattle.std.proofs.Math.Decide.{dec_le}
use Rattle.geometry.specs.declared.aabb.AABB.{AABB}
use Rattle.model.specs.declared.Dot.{Dot}
use Rattle.model.specs.declared.patch.Patch.{Patch}
use Rattle.model.specs.Lists.{join_below}
use Rattle.model.specs.Patch.{unit_rect, has_dot, rects_at, patch_rects, numbered, patch_dots}
use Rattle.model.proofs.Laws.Sums.{by_dec}
use Rattle.tint.specs.Rows.{NoDots}
use Rattle.tree_patch.specs.Laid.{rects_before, dots_before, patch_dot}

module _ (p : Patch) where
  abbrev above : ℕ → List AABB
  above row = join_below (16 * p.columns) (λ i. rects_at p i row)

  pub before-start : rects_before p 0 0 ≡ []
  unfolding rects_before
  before-start = refl

  pub before-row : (row : ℕ) → rects_before p 0 (suc row) ≡ rects_before p (16 * p.columns) row
  unfolding rects_before
  before-row row = append-nil (join_below (suc row) above)

  pub before_end : rects_before p 0 (16 * p.rows) ≡ patch_rects p
  unfolding rects_before patch_rects
  before_end = append-nil (join_below (16 * p.rows) above)

  before-column : (column row : ℕ) → rects_before p (suc column) row ≡ rects_before p column row ++ rects_at p column row
  unfolding rects_before
  before-column column row = sym (append_assoc (join_below row above) (join_below column (λ i. rects_at p i row)) (rects_at p column row))

  pub here-laid : (column row : ℕ) → has_dot p column row ≡ true
      → rects_before p (suc column) row ≡ rects_before p column row ++ unit_rect (p.x +ℤ pos column) (p.y +ℤ pos row) ∷ []
  here-laid column row e = before-column column row ∙ rw e refl

  here-left_out : (column row : ℕ) → has_dot p column row ≡ false → rects_before p (suc column) row ≡ rects_before p column row
  here-left_out column row e = before-column column row ∙ rw e (append-nil (rects_before p column row))

-- columns without a dot
pub here-skipped : (p : Patch) (column row next : ℕ) → column ≤ next → NoDots p column next row → rects_before p next row ≡ rects_before p column row
here-skipped p column row zero low none = let same : 0 ≡ column = omega arith in ap (λ (k : ℕ). rects_before p k row) same
here-skipped p column row (suc next) low none =
    by_dec (dec_le column next)
    (λ l. here-left_out p next row (none next l (omega arith)) ∙ here-skipped p column row next l (λ i a b. none i a (omega arith)))
    (λ g. let same : suc next ≡ column = omega arith in ap (λ (k : ℕ). rects_before p k row) same)

-- ---- the whole patch begins with what stands before a column of a row

abbrev Begins : List AABB → List AABB → Type 0
Begins rects whole = (rest : List AABB) × (whole ≡ rects ++ rest)

join-begins : (f : ℕ → List AABB) (k n : ℕ) → k ≤ n → Begins (join_below k f) (join_below n f)
join-begins f k zero h = ([], let same : k ≡ 0 = omega arith in rw same refl)
join-begins f k (suc n) h =
    by_dec (dec_le k n)
    (λ l. let r = join-begins f k n l in (r.0 ++ f n, ap (λ (l : List AABB). l ++ f n) r.1 ∙ append_assoc (join_below k f) r.0 (f n)))
    (λ g. ([], let same : k ≡ suc n = omega arith in rw same (sym (append-nil (join_below (suc n) f)))))

patch-begins : (p : Patch) (column row : ℕ) → column ≤ 16 * p.columns → row < 16 * p.rows → Begins (rects_before p column row) (patch_rects p)
unfolding rects_before patch_rects
patch-begins p column row cb rb =
    let rows = join_below row (above p) in
    let left : ℕ → List AABB = λ i. rects_at p i row in
    let down = join-begins (above p) (suc row) (16 * p.rows) rb in
    let across = join-begins left column (16 * p.columns) cb in (
      across.0 ++ down.0,
      down.1
          ∙ ap (λ (l : List AABB). (rows ++ l) ++ down.0) across.1
          ∙ append_assoc rows (join_below column left ++ across.0) down.0
          ∙ ap (λ (l : List AABB). rows ++ l) (append_assoc (join_below column left) across.0 down.0)
          ∙ sym (append_assoc rows (join_below column left) (across.0 ++ down.0)),
    )

pub numbered-append : (id : ℕ) (rects others : List AABB) → numbered id (rects ++ others) ≡ numbered id rects ++ numbered (id + length rects) others
numbered-append id [] others = ap (λ (k : ℕ). numbered k others) (sym (add-zero id))
numbered-append id (r ∷ rects) others =
    let next : suc id + length rects ≡ id + suc (length rects) = omega arith in
    ap (λ (ds : List Dot). record { id = id; rect = r; ink = 0 } ∷ ds)
    (numbered-append (suc id) rects others ∙ ap (λ (k : ℕ). numbered (suc id) rects ++ numbered k others) next)

pub patch-parts : (p : Patch) (column row : ℕ) → column < 16 * p.columns → row < 16 * p.rows → has_dot p column row ≡ true
    → (after : List Dot) × (patch_dots p ≡ dots_before p column row ++ patch_dot p column row (length (rects_before p column row)) ∷ after)
unfolding patch_dots
patch-parts p column row cb rb e =
    let before = rects_before p column row in
    let d = patch_dot p column row (length before) in
    let begins = patch-begins p (suc column) row cb rb in
    let rest = begins.0 in
    let whole : patch_rects p ≡ before ++ d.rect ∷ rest =
    begins.1 ∙ ap (λ (rects : List AABB). rects ++ rest) (here-laid p column row e) ∙ append_assoc before (d.rect ∷ []) rest in
    (numbered (suc d.id) rest, ap (numbered p.first_id) whole ∙ numbered-append p.first_id before (d.rect ∷ rest))
