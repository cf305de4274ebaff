-- What D is for.
--     splits-reached       a cell reached from the root by d steps into children 1 to 4 may split exactly if d < D
--     deepest-within       D is at most 255
use Rattle.std.specs.Prelude.{◌≡◌, refl, true, false, ◌&&◌, ◌||◌, ℕ, suc, ◌-◌, ◌/◌, ◌≤◌, ◌<◌, max, min, ℤ, pos, negsuc, eqb, leb, ltb}
use Rattle.std.proofs.Common.{sym, ap, ◌∙◌, le-div_iff_mul-le, div-lt_iff_lt-mul, arith, leb-true, leb-false, le-leb, ltb-true, ltb-false, lt-ltb}
use Rattle.std.proofs.lemmas.Bool.{lt-leb}
use Rattle.std.specs.Int.Signed.{le_z, shr_z}
use Rattle.arithmetic.specs.Ints.{natural}
use Rattle.arithmetic.proofs.Laws.Tests.{by_bool}
use Rattle.arithmetic.proofs.Laws.Linear.{same_test}
use Rattle.geometry.specs.declared.settings.Settings.{Settings}
use Rattle.geometry.specs.declared.node_data.NodeData.{NodeData}
use Rattle.geometry.specs.Settings.{bit_length, in_range, D}
use Rattle.geometry.specs.Cells.{root_data, child_cell, quarter_cell, child_data, may_divide, may_split}
use Rattle.geometry.proofs.Laws.Geometry.{bits-half, bits-zero, bits-drop, halves_swap, natural-half, levels-root_is}
use Rattle.geometry.specs.Levels.{wider}
use Rattle.geometry.specs.Levels.{levels_left}
use Rattle.geometry.proofs.Laws.Ranges.{accepted}

-- a node that is no child 0 uses up a level by each step
pub levels-step : (s : Settings) (n : NodeData) (i : ℕ) → n.is_child_0 ≡ false → eqb i 0 ≡ false → levels_left s (child_data n i) ≡ levels_left s n - 1
unfolding levels_left child_data child_cell quarter_cell
levels-step s n i z e =
    let k = s.smallest_cell in
    let hw = n.cell.half_width in
    let hh = n.cell.half_height in
    let same : max (natural (shr_z hw 2)) (natural (shr_z hh 2)) ≡ wider n / 2 = omega (arith, natural-half hw, natural-half hh) in
    rw (e, z, same) (omega (arith, ap bit_length (halves_swap (wider n) k), bits-drop (wider n / k)))

-- the node reached from the root by steps into children 1 to 4, the last step first
pub data Reached (s : Settings) : NodeData → ℕ → Type 0 where
  start : Reached s (root_data s) 0
  step : {n : NodeData} {d : ℕ} (i : ℕ) → eqb i 0 ≡ false → Reached s n d → Reached s (child_data n i) (suc d)

no-child_0 : (s : Settings) {n : NodeData} {d : ℕ} → Reached s n d → n.is_child_0 ≡ false
unfolding root_data child_data
no-child_0 s start = refl
no-child_0 s (step i e r) = e

levels-reached : (s : Settings) {n : NodeData} {d : ℕ} → Reached s n d → levels_left s n ≡ D s - d
levels-reached s start = omega (arith, levels-root_is s)
levels-reached s (step {n} {d} i e r) = omega (arith, levels-step s n i (no-child_0 s r) e, levels-reached s r)

-- a leaf may split while a level is left
le-natural_is : (k : ℕ) (z : ℤ) → 1 ≤ k → le_z (pos k) z ≡ leb k (natural z)
le-natural_is k (pos n) h = refl
le-natural_is k (negsuc n) h = sym (lt-leb k 0 (omega arith))

or-max : (k a b : ℕ) → (leb k a || leb k b) ≡ leb k (max a b)
or-max k a b =
    by_bool (leb k a)
    (λ e. rw e (sym (le-leb k (max a b) (omega (arith, leb-true k a e)))))
    (λ e. rw e (by_bool (leb k b)
    (λ f. rw f (sym (le-leb k (max a b) (omega (arith, leb-true k b f)))))
    (λ f. rw f (sym (lt-leb k (max a b) (omega (arith, leb-false k a e, leb-false k b f)))))))

bits-some : (q : ℕ) → 1 ≤ q → 1 ≤ bit_length q
bits-some q h = omega (arith, bits-half q h)

levels-some : (depth limit k w : ℕ) → 1 ≤ k → (ltb depth limit && leb k w) ≡ leb 1 (min (limit - depth) (bit_length (w / k)))
levels-some depth limit k w one =
    by_bool (ltb depth limit)
    (λ e. rw e
    (by_bool (leb k w)
    (λ f. rw f
    (let some : 1 ≤ w / k = (le-div_iff_mul-le one).1 (omega (arith, leb-true k w f)) in
    sym (le-leb 1 (min (limit - depth) (bit_length (w / k))) (omega (arith, ltb-true depth limit e, bits-some (w / k) some)))))
    (λ f. rw f
    (let none : w / k < 1 = (div-lt_iff_lt-mul one).1 (omega (arith, leb-false k w f)) in
    let zeroes : w / k ≡ 0 = omega arith in
    sym (lt-leb 1 (min (limit - depth) (bit_length (w / k))) (omega (arith, ap bit_length zeroes, bits-zero)))))))
    (λ e. rw e (sym (lt-leb 1 (min (limit - depth) (bit_length (w / k))) (omega (arith, ltb-false depth limit e)))))

pub may_split-levels : (s : Settings) (n : NodeData) → 1 ≤ s.smallest_cell → n.is_child_0 ≡ false → may_split s n ≡ leb 1 (levels_left s n)
unfolding may_divide levels_left
may_split-levels s n one z =
    let k = s.smallest_cell in
    let hw = n.cell.half_width in
    let hh = n.cell.half_height in
    rw (z, le-natural_is k hw one, le-natural_is k hh one, or-max k (natural hw) (natural hh)) (levels-some n.depth s.depth_limit k (wider n) one)

pub splits-reached : (s : Settings) {n : NodeData} {d : ℕ} → in_range s ≡ true → Reached s n d → may_split s n ≡ ltb d (D s)
splits-reached s {n} {d} ok r =
    may_split-levels s n (accepted s ok).cell (no-child_0 s r)
    ∙ same_test (leb 1 (levels_left s n)) (ltb d (D s))
    (λ e. lt-ltb d (D s) (omega (arith, leb-true 1 (levels_left s n) e, levels-reached s r)))
    (λ e. le-leb 1 (levels_left s n) (omega (arith, ltb-true d (D s) e, levels-reached s r)))

pub deepest-within : (s : Settings) → in_range s ≡ true → D s ≤ 255
unfolding D
deepest-within s ok = omega (arith, (accepted s ok).depth)
