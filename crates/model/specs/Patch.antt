-- Tint patches (§20).
--     patch_fits    what refusal 13 asks
--     patch_rects, patch_dots        the dots of a patch, in their order
--     patch_rule    what the call does with a tree; PatchGoes: what it needs
--     LayPatch     the call on any lent words
use Rattle.std.specs.Prelude.{◌≡◌, List, [], ◌∷◌, Bool, true, false, cond, ◌&&◌, ℕ, suc, ◌*◌, ℤ, pos, ◌+ℤ◌, leb, ltb}
use Rattle.geometry.specs.declared.aabb.AABB.{AABB}
use Rattle.geometry.specs.Settings.{between}
use Rattle.model.specs.declared.Dot.{Dot}
use Rattle.model.specs.declared.patch.Patch.{Patch}
use Rattle.model.specs.Lists.{join_below}
use Rattle.model.specs.Shapes.{Shape}
use Rattle.model.specs.Layout.{World}
use Rattle.model.specs.Calls.{Reply, refused, Verdict, refuse, overflow, accept, exit, Obeys, counted}
use Rattle.model.specs.Thresholds.{threshold_at}
use Rattle.model.specs.Laying.{lay_all, CanLay}

-- §20.1: 1 to 64 tiles each way, a tint from 0 to 256
unfoldable pub patch_fits : Patch → Bool
patch_fits p = (between 1 64 p.columns && between 1 64 p.rows) && leb p.tint 256

-- ---- the dots

-- §20.3: a one-unit dot
abbrev pub unit_rect : ℤ → ℤ → AABB
unit_rect x y = record { x1 = x; y1 = y; x2 = x +ℤ pos 1; y2 = y +ℤ pos 1 }

-- §20.3: whether this place has a dot: its threshold is below the tint
abbrev pub has_dot : Patch → ℕ → ℕ → Bool
has_dot p column row = ltb (threshold_at column row) p.tint

abbrev pub rects_at : Patch → ℕ → ℕ → List AABB
rects_at p column row = cond (has_dot p column row) (unit_rect (p.x +ℤ pos column) (p.y +ℤ pos row) ∷ []) []

-- §20.3: row after row over the width of the whole patch, the topmost first, each from left to right
unfoldable pub patch_rects : Patch → List AABB
patch_rects p = join_below (16 * p.rows) (λ row. join_below (16 * p.columns) (λ column. rects_at p column row))

-- §20.3: of ink 0, ids rising by 1
abbrev pub numbered : ℕ → List AABB → List Dot
numbered id [] = []
numbered id (r ∷ rects) = record { id = id; rect = r; ink = 0 } ∷ numbered (suc id) rects

unfoldable pub patch_dots : Patch → List Dot
patch_dots p = numbered p.first_id (patch_rects p)

-- ---- the call

-- §20.5: no id past 4294967295
abbrev pub ids_fit : List Dot → Bool
ids_fit [] = true
ids_fit (d ∷ ds) = leb d.id 4294967295 && ids_fit ds

-- §20.4, §20.5: the number of dots laid; or 14, where a dot would be refused in its turn, and then no dot is laid
abbrev pub whole_or_none : Verdict ℕ ℕ → Verdict ℕ ℕ
whole_or_none (refuse k) = refuse 14
whole_or_none (overflow n) = refuse 14
whole_or_none (accept x row number) = accept x row number

unfoldable pub patch_verdict : Patch → Shape → Verdict ℕ ℕ
patch_verdict p x = let ds = patch_dots p in cond (ids_fit ds) (whole_or_none (lay_all ds x)) (refuse 14)

-- §21.2: 16 where the count alone is in the way
unfoldable pub patch_rule : Patch → Shape → Verdict ℕ ℕ
patch_rule p x = counted (patch_verdict p x)

-- what a patch needs, so that it is not refused 14 (`patch-goes`, `patch-cases` of Laws.Patch)
pub record PatchGoes (p : Patch) (x : Shape) : Type 0 where
  pub ids : ids_fit (patch_dots p) ≡ true
  pub can : CanLay (patch_dots p) x

-- §20.5: 13 comes ahead of 1 and keeps the marks too
pub record LayPatch (w : World) (p : Patch) (w' : World) (reply : Reply ℕ) : Type 0 where
  pub bad_patch : patch_fits p ≡ false → (w' ≡ w) × (reply ≡ refused 13)
  pub good_patch : patch_fits p ≡ true → Obeys true (patch_rule p) w [] (exit w' [] reply)
