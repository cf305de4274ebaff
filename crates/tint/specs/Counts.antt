-- The dots of a patch within bounds (§20.3).
--     sum_from, dots_between         a sum from a number on and before another; the dots in a span of columns and a span of rows
--     corners_below, corners_within  how many of the corners first, first + 1 .. lie below a limit; those that lie within the bounds of an axis
--     within_bounds         the rectangles that lie within bounds
--     unit_upto, unit_bounds         the bounds within which a one-unit dot is acceptable
use Rattle.std.specs.Prelude.{List, cond, ℕ, min, ℤ, pos, ◌+ℤ◌, ◌-ℤ◌, leb}
use Rattle.arithmetic.specs.Ints.{min_z, natural}
use Rattle.geometry.specs.declared.aabb.AABB.{AABB}
use Rattle.geometry.specs.declared.bounds.Bounds.{Bounds}
use Rattle.geometry.specs.declared.settings.Settings.{Settings}
use Rattle.geometry.specs.Bounds.{in_bounds}
use Rattle.model.specs.Sums.{sum_below}
use Rattle.model.specs.Lists.{filter}
use Rattle.model.specs.Shapes.{below}
use Rattle.model.specs.Thresholds.{threshold_at}
use Rattle.std.specs.declared.ops.Range.{Range}

abbrev pub sum_from : ℕ → ℕ → (ℕ → ℕ) → ℕ
sum_from low high f = sum_below high (λ i. cond (leb low i) (f i) 0)

unfoldable pub dots_between : ℕ → Range ℕ → Range ℕ → ℕ
dots_between tint across down = sum_from down.start down.end (λ j. sum_from across.start across.end (λ i. below (threshold_at i j) tint))

-- of a number of corners
unfoldable pub corners_below : ℤ → ℤ → ℕ → ℕ
corners_below first limit number = min (natural (limit -ℤ first)) number

-- a one-unit dot lies within bounds where its corner lies strictly between them
abbrev pub corners_within : ℤ → ℤ → ℤ → ℕ → Range ℕ
corners_within first over upto number = record { start = corners_below first (over +ℤ pos 1) number; end = corners_below first upto number }

abbrev pub within_bounds : Bounds → List AABB → List AABB
within_bounds b rects = filter (in_bounds b) rects

-- ---- acceptable dots (§20.5)

-- on one axis of the root: a corner lies on it, and the corner after is in range
unfoldable pub unit_upto : ℤ → ℤ → ℤ
unit_upto low size = min_z ((low +ℤ size) +ℤ pos 1) (pos 1073741823)

unfoldable pub unit_bounds : Settings → Bounds
unit_bounds s = record {
  x_over = s.left -ℤ pos 1;
  x_upto = unit_upto s.left s.width;
  y_over = s.top -ℤ pos 1;
  y_upto = unit_upto s.top s.height;
}
