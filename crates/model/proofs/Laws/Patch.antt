-- Laws of tint patches.
--     patch-sum    a sum over the rectangles of a patch, by rows and columns
--     patch-rects, patch-number    the rectangles of its dots, and how many there are
--     tile_of_3, tiles_of_2        the dots of two patches, computed
--     ids-fit      when the ids fit
--     patch-once   no two dots have one id
--     patch-goes, patch_cases      the patch is laid whole, or refused 14
use Rattle.std.specs.Prelude.{◌≡◌, ◌⊎◌, List, [], ◌∷◌, cond, ℕ, suc, ◌+◌, ◌*◌, ◌≤◌, ◌<◌, pos, ◌+ℤ◌, length, leb}
use Rattle.std.proofs.Math.Path.{refl}
use Rattle.std.proofs.Common.{ap, sym, ◌∙◌, arith, leb-true, leb-false, le-leb}
use Rattle.std.proofs.Math.Logic.{inl, inr, ⊎_elim}
use Rattle.std.proofs.Math.Decide.{ℕ_discrete}
use Rattle.std.proofs.lemmas.Bool.{lt-leb}
use Rattle.arithmetic.proofs.Laws.Tests.{by_bool}
use Rattle.geometry.specs.declared.aabb.AABB.{AABB}
use Rattle.model.specs.declared.Dot.{Dot}
use Rattle.model.specs.declared.patch.Patch.{Patch}
use Rattle.model.specs.Sums.{sum_over, sum_below}
use Rattle.model.specs.Lists.{join_below}
use Rattle.model.specs.Shapes.{Shape, Valid, below}
use Rattle.model.specs.Calls.{refuse, accept}
use Rattle.model.specs.Thresholds.{thresholds, threshold_at, count_before}
use Rattle.model.specs.Laying.{laid, dot_rects}
use Rattle.model.specs.Patch.{unit_rect, has_dot, rects_at, patch_rects, numbered, patch_dots, ids_fit, patch_verdict, PatchGoes}
use Rattle.model.proofs.Laws.Sums.{indicator_other, indicator-le, by_dec, sum_over-one, sum_below_ext}
use Rattle.model.proofs.Laws.Lists.{sum_over-join_below}
use Rattle.model.proofs.Laws.Dots.{id_is}
use Rattle.model.proofs.Laws.Thresholds.{tiles-dots}
use Rattle.model.proofs.Laws.Laying.{lay_can, lay_cases}

-- ---- the dots

pub patch-sum : (h : AABB → ℕ) (p : Patch)
    → sum_over h (patch_rects p)
    ≡ sum_below (16 * p.rows)
    (λ row. sum_below (16 * p.columns) (λ column. cond (has_dot p column row) (h (unit_rect (p.x +ℤ pos column) (p.y +ℤ pos row))) 0))
unfolding patch_rects
patch-sum h p =
    let at : ℕ → ℕ → ℕ = λ row column. cond (has_dot p column row) (h (unit_rect (p.x +ℤ pos column) (p.y +ℤ pos row))) 0 in
    let in_row : ℕ → List AABB = λ row. join_below (16 * p.columns) (λ column. rects_at p column row) in
    sum_over-join_below h (16 * p.rows) in_row
    ∙ sum_below_ext (16 * p.rows) (λ row. sum_over h (in_row row)) (λ row. sum_below (16 * p.columns) (at row))
    (λ row b.
    sum_over-join_below h (16 * p.columns) (λ column. rects_at p column row)
    ∙ sum_below_ext (16 * p.columns) (λ column. sum_over h (rects_at p column row)) (at row)
    (λ column c. by_bool (has_dot p column row) (λ e. rw e (omega arith)) (λ e. rw e refl)))

-- §20.2: each tile gets as many dots as the tint says
rects-number : (p : Patch) → p.tint ≤ 256 → length (patch_rects p) ≡ p.rows * (p.columns * p.tint)
unfolding count_before below
rects-number p h = sym (sum_over-one (patch_rects p)) ∙ patch-sum (λ r. 1) p ∙ tiles-dots p.tint p.columns p.rows h

numbered-rects : (id : ℕ) (rects : List AABB) → dot_rects (numbered id rects) ≡ rects
numbered-rects id [] = refl
numbered-rects id (r ∷ rects) = ap (λ (l : List AABB). r ∷ l) (numbered-rects (suc id) rects)

pub numbered-length : (id : ℕ) (rects : List AABB) → length (numbered id rects) ≡ length rects
numbered-length id [] = refl
numbered-length id (r ∷ rects) = ap suc (numbered-length (suc id) rects)

pub patch-rects : (p : Patch) → dot_rects (patch_dots p) ≡ patch_rects p
unfolding patch_dots
patch-rects p = numbered-rects p.first_id (patch_rects p)

pub patch-number : (p : Patch) → p.tint ≤ 256 → length (patch_dots p) ≡ p.rows * (p.columns * p.tint)
unfolding patch_dots
patch-number p h = numbered-length p.first_id (patch_rects p) ∙ rects-number p h

-- ---- two patches, computed

abbrev unit_dot : ℕ → ℕ → ℕ → Dot
unit_dot id x y = record { id = id; rect = record { x1 = pos x; y1 = pos y; x2 = pos (x + 1); y2 = pos (y + 1) }; ink = 0 }

-- of the first row the thresholds 0 and 2, of the ninth the threshold 1
pub tile_of_3 : patch_dots (record { x = pos 2; y = pos 3; columns = 1; rows = 1; tint = 3; first_id = 7 })
    ≡ unit_dot 7 2 3 ∷ unit_dot 8 10 3 ∷ unit_dot 9 10 11 ∷ []
unfolding patch_rects patch_dots thresholds threshold_at
tile_of_3 = refl

-- by rows of both tiles
pub tiles_of_2 : patch_dots (record { x = pos 0; y = pos 0; columns = 2; rows = 1; tint = 2; first_id = 0 })
    ≡ unit_dot 0 0 0 ∷ unit_dot 1 16 0 ∷ unit_dot 2 8 8 ∷ unit_dot 3 24 8 ∷ []
unfolding patch_rects patch_dots thresholds threshold_at
tiles_of_2 = refl

-- ---- the ids

numbered-fit : (id : ℕ) (rects : List AABB) → id ≤ 4294967296 → ids_fit (numbered id rects) ≡ leb (id + length rects) 4294967296
numbered-fit id [] h = sym (le-leb (id + 0) 4294967296 (omega arith))
numbered-fit id (r ∷ rects) h =
    by_bool (leb id 4294967295)
    (λ e.
    let next : suc id + length rects ≡ id + suc (length rects) = omega arith in
    rw e (numbered-fit (suc id) rects (omega (arith, leb-true id 4294967295 e)) ∙ ap (λ (k : ℕ). leb k 4294967296) next))
    (λ e. rw e (sym (lt-leb (id + suc (length rects)) 4294967296 (omega (arith, leb-false id 4294967295 e)))))

-- the ids fit exactly if the number after the last of them is at most 4294967296
pub ids-fit : (p : Patch) → p.first_id ≤ 4294967295 → p.tint ≤ 256
    → ids_fit (patch_dots p) ≡ leb (p.first_id + p.rows * (p.columns * p.tint)) 4294967296
unfolding patch_dots
ids-fit p first h =
    numbered-fit p.first_id (patch_rects p) (omega arith) ∙ ap (λ (k : ℕ). leb (p.first_id + k) 4294967296) (rects-number p h)

numbered_below : (id : ℕ) (rects : List AABB) (k : ℕ) → k < id → sum_over (id_is k) (numbered id rects) ≡ 0
numbered_below id [] k b = refl
numbered_below id (r ∷ rects) k b = omega (arith, indicator_other k id (λ e. omega arith), numbered_below (suc id) rects k (omega arith))

numbered-once : (id : ℕ) (rects : List AABB) (k : ℕ) → sum_over (id_is k) (numbered id rects) ≤ 1
numbered-once id [] k = omega arith
numbered-once id (r ∷ rects) k =
    by_dec (ℕ_discrete k id)
    (λ e. omega (arith, indicator-le k id, numbered_below (suc id) rects k (omega arith)))
    (λ ne. omega (arith, indicator_other k id ne, numbered-once (suc id) rects k))

-- no two dots of a patch have one id
pub patch-once : (p : Patch) (k : ℕ) → sum_over (id_is k) (patch_dots p) ≤ 1
unfolding patch_dots
patch-once p k = numbered-once p.first_id (patch_rects p) k

-- ---- the rule, whatever the count of changes

module _ (p : Patch) (x : Shape) (v : Valid x) where
  pub patch-goes : PatchGoes p x → (patch_verdict p x ≡ accept (laid (patch_dots p) x) [] (length (patch_dots p))) × Valid (laid (patch_dots p) x)
  unfolding patch_verdict
  patch-goes g = let lay = lay_can (patch_dots p) x v g.can in (rw (g.ids, lay.0) refl, lay.1)

  -- it is laid whole, or nothing is laid
  pub patch_cases : (patch_verdict p x ≡ refuse 14) ⊎ PatchGoes p x
  unfolding patch_verdict
  patch_cases =
      by_bool (ids_fit (patch_dots p))
      (λ e. ⊎_elim (λ k. inl (rw (e, k.1) refl)) (λ can. inr (record { ids = e; can = can })) (lay_cases (patch_dots p) x v))
      (λ e. inl (rw e refl))
