-- Bounds: the rectangles that a path of children leads to (§4.4), told by four comparisons.
--     all_bounds    those of the root: every rectangle in the range of coordinates
--     bounds_below  those of a child
--     in_bounds     whether a rectangle lies within them
-- Laws.Bounds: to lie within a child's bounds is to lie within the parent's and to be routed to that child.
use Rattle.std.specs.Prelude.{Bool, cond, ◌&&◌, ◌||◌, ℕ, ℤ, pos, negsuc, eqb, leb}
use Rattle.std.specs.Int.Signed.{lt_z, le_z}
use Rattle.arithmetic.specs.Ints.{max_z, min_z}
use Rattle.geometry.specs.declared.aabb.AABB.{AABB}
use Rattle.geometry.specs.declared.centered_aabb.CenteredAABB.{CenteredAABB}
use Rattle.geometry.specs.declared.bounds.Bounds.{Bounds}

unfoldable pub all_bounds : Bounds
all_bounds = record { x_over = negsuc 1073741824; x_upto = pos 1073741823; y_over = negsuc 1073741824; y_upto = pos 1073741823 }

-- on one axis: the upper half lies above the centre, the lower half at most at it
unfoldable pub quarter_bounds : Bounds → CenteredAABB → Bool → Bool → Bounds
quarter_bounds b c on_right at_bottom =
    record {
      x_over = cond on_right (max_z b.x_over c.center_x) b.x_over;
      x_upto = cond on_right b.x_upto (min_z b.x_upto c.center_x);
      y_over = cond at_bottom (max_z b.y_over c.center_y) b.y_over;
      y_upto = cond at_bottom b.y_upto (min_z b.y_upto c.center_y);
    }

unfoldable pub bounds_below : Bounds → CenteredAABB → ℕ → Bounds
bounds_below b c i = cond (eqb i 0) b (quarter_bounds b c (eqb i 2 || eqb i 4) (leb 3 i))

-- above over and at most upto, on one axis
abbrev pub in_span : ℤ → ℤ → ℤ → ℤ → Bool
in_span over upto first second = lt_z over first && le_z second upto

unfoldable pub in_bounds : Bounds → AABB → Bool
in_bounds b r = in_span b.x_over b.x_upto r.x1 r.x2 && in_span b.y_over b.y_upto r.y1 r.y2
