-- Cells stay within ±2^30, so that no sum of theirs wraps.
--     path-range, path_sums               for accepted settings, at the end of any path of children
--     accepted                            what accepted settings are, and a root's two axes
--     sum_fits, upper_fits, lower-fits    what a child's centre is made of fits an i32
--     child-span, child-range             a child of a cell in range is in range
--     edge-fits                           the root's far edges fit an i32
--     root-fits, root-range               the root's cell is in range, for accepted settings
use Rattle.std.specs.Prelude.{◌≡◌, refl, List, [], ◌∷◌, Bool, ◌&&◌, ◌||◌, ℕ, ◌+◌, ◌≤◌, eqb, leb, length, ℤ, pos, negsuc, ◌+ℤ◌, ◌-ℤ◌}
use Rattle.std.proofs.Math.Bool.{true, false}
use Rattle.std.proofs.Common.{arith, leb-true, SFits}
use Rattle.std.specs.Int.Signed.{le_z, shr_z}
use Rattle.std.specs.Int.{w32}
use Rattle.arithmetic.proofs.Laws.Tests.{by_bool}
use Rattle.arithmetic.proofs.Laws.Linear.{ints, sum, dif, half-lo, half-hi, fits32, and_t}
use Rattle.geometry.specs.declared.settings.Settings.{Settings}
use Rattle.geometry.specs.declared.centered_aabb.CenteredAABB.{CenteredAABB}
use Rattle.geometry.specs.declared.node_data.NodeData.{NodeData}
use Rattle.geometry.specs.Settings.{axis_fits, root_fits, between, in_range}
use Rattle.geometry.specs.Cells.{Span, InRange, child_centre, quarter_cell, child_cell, root_cell, root_data, child_data, data_along}

pub record Accepted (s : Settings) : Type 0 where
  pub root : root_fits s ≡ true
  pub depth : s.depth_limit ≤ 255
  pub cell : 1 ≤ s.smallest_cell

pub accepted : (s : Settings) → in_range s ≡ true → Accepted s
unfolding in_range
accepted s e =
    let p = and_t (root_fits s && between 0 255 s.depth_limit) (between 1 4294967295 s.leaf_limit && between 1 2147483647 s.smallest_cell) e in
    let a = and_t (root_fits s) (between 0 255 s.depth_limit) p.0 in
    let b = and_t (between 1 4294967295 s.leaf_limit) (between 1 2147483647 s.smallest_cell) p.1 in
    record {
      root = a.0;
      depth = leb-true _ _ (and_t (leb 0 s.depth_limit) (leb s.depth_limit 255) a.1).1;
      cell = leb-true _ _ (and_t (leb 1 s.smallest_cell) (leb s.smallest_cell 2147483647) b.1).0;
    }

pub root_axes : (s : Settings) → root_fits s ≡ true → (axis_fits s.left s.width ≡ true) × (axis_fits s.top s.height ≡ true)
unfolding root_fits
root_axes s e = and_t (axis_fits s.left s.width) (axis_fits s.top s.height) e

module _ (c h : ℤ) (s : Span c h) where
  pub sum_fits : SFits w32 (c +ℤ h)
  sum_fits = fits32 _ (omega (arith, ints, sum c h, dif c h))

  pub upper_fits : SFits w32 ((c +ℤ h) -ℤ shr_z h 2)
  upper_fits = fits32 _ (omega (arith, ints, dif (c +ℤ h) (shr_z h 2), half-lo h, half-hi h, sum c h, dif c h))

  pub lower-fits : SFits w32 (c -ℤ shr_z h 2)
  lower-fits = fits32 _ (omega (arith, ints, dif c (shr_z h 2), half-lo h, half-hi h, sum c h, dif c h))

  pub child-span : (upper : Bool) → Span (child_centre c h upper) (shr_z h 2)
  unfolding child_centre
  child-span true =
      let k = shr_z h 2 in
      let d = (c +ℤ h) -ℤ k in
      omega (arith, ints, dif (c +ℤ h) k, half-lo h, half-hi h, sum c h, dif c h, sum d k, dif d k)
  child-span false =
      let k = shr_z h 2 in
      let d = c -ℤ k in
      omega (arith, ints, dif c k, half-lo h, half-hi h, sum c h, dif c h, sum d k, dif d k)

pub child-range : (c : CenteredAABB) (i : ℕ) → InRange c → InRange (child_cell c i)
unfolding child_cell quarter_cell
child-range c i r =
    by_bool (eqb i 0)
    (λ e. rw e r)
    (λ e. rw e
    (record {
      x = child-span c.center_x c.half_width r.x (eqb i 2 || eqb i 4);
      y = child-span c.center_y c.half_height r.y (leb 3 i);
    }))

-- an axis of the root
module _ (low size : ℤ) (e : axis_fits low size ≡ true) where
  pub root-span : Span (low +ℤ shr_z size 2) (shr_z size 2)
  unfolding axis_fits
  root-span =
      let p = and_t (le_z (negsuc 1073741823) low && le_z (pos 0) size) (le_z (low +ℤ size) (pos 1073741823)) e in
      let q = and_t (le_z (negsuc 1073741823) low) (le_z (pos 0) size) p.0 in
      let h = shr_z size 2 in
      omega (arith, ints, sum low size, sum low h, half-lo size, half-hi size, sum (low +ℤ h) h, dif (low +ℤ h) h)

  pub root-fits : SFits w32 (low +ℤ shr_z size 2)
  root-fits =
      let h = shr_z size 2 in
      let s = root-span in
      fits32 _ (omega (arith, ints, sum (low +ℤ h) h, dif (low +ℤ h) h))

-- the root's far edge is a coordinate
pub edge-fits : (low size : ℤ) → axis_fits low size ≡ true → SFits w32 (low +ℤ size)
unfolding axis_fits
edge-fits low size e =
    let p = and_t (le_z (negsuc 1073741823) low && le_z (pos 0) size) (le_z (low +ℤ size) (pos 1073741823)) e in
    let q = and_t (le_z (negsuc 1073741823) low) (le_z (pos 0) size) p.0 in
    fits32 _ (omega (arith, ints, sum low size))

pub root-range : (s : Settings) → root_fits s ≡ true → InRange (root_cell s)
unfolding root_cell
root-range s e =
    let p = root_axes s e in
    record { x = root-span s.left s.width p.0; y = root-span s.top s.height p.1 }

-- no sum of a child's centre wraps
pub record SumsFit (center half : ℤ) : Type 0 where
  pub whole : SFits w32 (center +ℤ half)
  pub upper : SFits w32 ((center +ℤ half) -ℤ shr_z half 2)
  pub lower : SFits w32 (center -ℤ shr_z half 2)

sums_fit : (center half : ℤ) → Span center half → SumsFit center half
sums_fit c h s = record { whole = sum_fits c h s; upper = upper_fits c h s; lower = lower-fits c h s }

pub along-range : (n : NodeData) (path : List ℕ) → InRange n.cell → InRange (data_along n path).cell
unfolding data_along child_data
along-range n [] r = r
along-range n (i ∷ path) r = along-range (child_data n i) path (child-range n.cell i r)

pub along-depth : (n : NodeData) (path : List ℕ) → (data_along n path).depth ≤ n.depth + length path
unfolding data_along child_data
along-depth n [] = omega arith
along-depth n (i ∷ path) = by_bool (eqb i 0)
    (λ e. let d : (child_data n i).depth ≡ n.depth = rw e refl in omega (arith, along-depth (child_data n i) path))
    (λ e. let d : (child_data n i).depth ≡ n.depth + 1 = rw e refl in omega (arith, along-depth (child_data n i) path))

-- for accepted settings, at the end of any path of children
pub path-range : (s : Settings) → in_range s ≡ true → (path : List ℕ) → InRange (data_along (root_data s) path).cell
unfolding root_data
path-range s ok path = along-range (root_data s) path (root-range s (accepted s ok).root)

pub path_sums : (s : Settings) → in_range s ≡ true → (path : List ℕ) →
    let c = (data_along (root_data s) path).cell in SumsFit c.center_x c.half_width × SumsFit c.center_y c.half_height
path_sums s ok path = let r = path-range s ok path in (sums_fit _ _ r.x, sums_fit _ _ r.y)
