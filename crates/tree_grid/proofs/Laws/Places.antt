-- All places of a memory, with the zero rectangles set apart.
--     besides-zero         a weight over all rectangles, by those that are not zero and the number of those that are
--     Passing, place-asks, pass-room, pass-more    the loop over the places
use Rattle.std.specs.Prelude.{◌≡◌, refl, List, Bool, true, false, cond, ℕ, zero, suc, ◌+◌, ◌*◌, ◌≤◌, ◌<◌, ℤ, length}
use Rattle.std.proofs.Common.{ap, subst, sym, ◌∙◌, add-mul, add-one, arith}
use Rattle.arithmetic.proofs.Laws.Tests.{by_bool}
use Rattle.geometry.specs.declared.aabb.AABB.{AABB}
use Rattle.geometry.specs.Rectangles.{same_rect, zero_rect}
use Rattle.grid.specs.declared.grid.Grid.{Grid}
use Rattle.grid.specs.Grids.{windows}
use Rattle.model.specs.Sums.{sum_below}
use Rattle.model.specs.Memory.{rect_at}
use Rattle.model.proofs.Laws.Sums.{sum_below-le, sum_below-mul, sum_below-one}
use Rattle.model.proofs.Laws.Dots.{same_rect_true}
use Rattle.tree_grid.specs.declared.counts.Counts.{Counts}
use Rattle.tree_grid.specs.declared.places.Pass.{Pass}
use Rattle.tree_grid.specs.Counts.{Added, Room, Empty, weight_of, met_by, besides, zero_is}
use Rattle.tree_grid.specs.Passes.{Stepped, Passed}
use Rattle.tree_grid.proofs.Laws.Rects.{weight_le, met-few}
use Rattle.tree_grid.proofs.Laws.Counts.{added_then}

-- of the first n rectangles f
pub besides-zero : (h : AABB → ℕ) (f : ℕ → AABB) (n : ℕ)
    → sum_below n (λ p. h (f p)) ≡ sum_below n (λ p. besides h (f p)) + sum_below n (λ p. zero_is (f p)) * h zero_rect
besides-zero h f zero = omega arith
besides-zero h f (suc n) =
    let zeros = sum_below n (λ p. zero_is (f p)) in
    let rest = besides-zero h f n in
    by_bool (same_rect (f n) zero_rect)
    (λ e. rw e (omega (arith, rest, ap h (same_rect_true (f n) zero_rect e), add-mul zeros 1 (h zero_rect))))
    (λ e. rw e (omega (arith, rest, add-mul zeros 0 (h zero_rect))))

sum_below-next : (n : ℕ) (f : ℕ → ℕ) → sum_below (n + 1) f ≡ sum_below n f + f n
sum_below-next n f = rw add-one refl

-- ---- the places so far

pub record Passing (rects : List ℤ) (places : ℕ) (c₀ c : Counts) (pass : Pass) (i : ℕ) : Type 0 where
  pub within : i ≤ places
  pub passed : Passed rects i c₀ c pass

module _ {rects : List ℤ} {places : ℕ} {c₀ c : Counts} {pass : Pass} {i : ℕ} (s : Passing rects places c₀ c pass i) where
  abbrev g : Grid
  g = c₀.grid

  -- how large the numbers are
  pub zeros-le : pass.zeros ≤ i
  zeros-le =
      omega (
        arith,
        s.passed.left_out,
        sum_below-le i (λ p. zero_is (rect_at rects p)) (λ p. 1) (λ p b. cond-le (same_rect (rect_at rects p) zero_rect)),
        sum_below-one i,
      )
    where
      cond-le : (b : Bool) → cond b 1 0 ≤ 1
      cond-le true = omega arith
      cond-le false = omega arith

  pub totals-le : pass.total ≤ 4096 * i
  totals-le =
      omega (
        arith,
        s.passed.totals,
        sum_below-le i (λ p. besides (met_by g) (rect_at rects p)) (λ p. 4096 * 1) (λ p b. each (rect_at rects p)),
        sum_below-mul i 4096 (λ p. 1),
        sum_below-one i,
      )
    where
      each : (r : AABB) → besides (met_by g) r ≤ 4096 * 1
      each r = by_bool (same_rect r zero_rect) (λ e. rw e (omega arith)) (λ e. rw e (omega (arith, met-few g c₀.sized r)))

  -- each word is at most the number of places so far
  pub pass-room : Empty (windows g) c₀.row.now → (weight : ℕ) → weight + i ≤ 4294967295 → Room 0 (windows c.grid) weight c.row.now
  pass-room empty weight few j l h =
      let inside : j < windows g = rw s.passed.same.grid at h in
      omega (
        arith,
        s.passed.counts.each j (omega (arith, c₀.room)),
        empty j inside,
        sum_below-le i (λ p. besides (λ r. weight_of g r 1 j) (rect_at rects p)) (λ p. 1) (λ p b. weight_le g j (rect_at rects p)),
        sum_below-one i,
      )

  -- what a place asks
  pub place-asks : Empty (windows g) c₀.row.now → (places ≤ 65536) × (4 * places ≤ length rects)
      → Room 0 (windows c.grid) 1 c.row.now × ((pass.total ≤ 4294967296) × (pass.zeros ≤ 65536))
  place-asks empty few = (
    pass-room empty 1 (omega (arith, s.within, few.0)),
    (omega (arith, totals-le, s.within, few.0), omega (arith, zeros-le, s.within, few.0)),
  )

  pub pass-more : {r : AABB} {c' : Counts} {pass' : Pass} → i < places → r ≡ rect_at rects i → Stepped r c c' pass pass'
      → Passing rects places c₀ c' pass' (i + 1)
  pass-more {r} {c'} {pass'} h is step =
      let here : Stepped (rect_at rects i) c c' pass pass' = subst (λ (q : AABB). Stepped q c c' pass pass') is step in
      let same = s.passed.same in
      let counts : Added c.row.now (λ j. besides (λ q. weight_of g q 1 j) (rect_at rects i)) c'.row.now = rw same.grid at here.counts in
      let totals : pass'.total ≡ pass.total + besides (met_by g) (rect_at rects i) = rw same.grid at here.totals in
      record {
        within = omega arith;
        passed = record {
          same = record { grid = here.same.grid ∙ same.grid; row = here.same.row ∙ same.row };
          counts = added_then (λ j. sum_below (i + 1) (λ p. besides (λ q. weight_of g q 1 j) (rect_at rects p)))
              (λ j l. sym (sum_below-next i (λ p. besides (λ q. weight_of g q 1 j) (rect_at rects p)))) s.passed.counts counts;
          totals = omega (arith, s.passed.totals, totals, sum_below-next i (λ p. besides (met_by g) (rect_at rects p)));
          left_out = omega (arith, s.passed.left_out, here.left_out, sum_below-next i (λ p. zero_is (rect_at rects p)));
        };
      }
