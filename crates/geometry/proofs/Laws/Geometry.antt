-- Laws of rectangles, cells and levels.
--     route-child  a rectangle goes to one of the children 0 to 4
--     prune_touch, prune   a query opens the child that a rectangle which it touches, or intersects, goes to
--     overlap_tests        to overlap on an axis, without the larger and the smaller
--     overlaps-intersects, only-touches    what overlaps intersects; what does not intersects by an edge
--     unreached    a rectangle that another does not reach does not intersect it
--     inverted-meets_none, none-meets_inverted
--     levels_fall, levels-root_is   levels_left falls from node to child, and is D at the root
use Rattle.std.specs.Prelude.{◌≡◌, refl, Bool, true, false, not, ◌&&◌, ◌||◌, ℕ, zero, suc, ◌+◌, ◌-◌, ◌/◌, ◌≤◌, ◌<◌, max, min, ℤ, pos, negsuc, ◌≤ℤ◌, eqb, ltb}
use Rattle.std.proofs.Common.{sym, ◌∙◌, ap, ⊎_elim, mul_comm, le-div_iff_mul-le, arith, eqb-true, leb-true, ltb-true}
use Rattle.std.proofs.Math.Nat.{div-div-eq-div-mul}
use Rattle.std.specs.Int.Signed.{lt_z, le_z, shr_z}
use Rattle.arithmetic.specs.Ints.{max_z, min_z, natural}
use Rattle.arithmetic.proofs.Laws.Linear.{ints, max-above, min-below, same_test, and_t, or_t}
use Rattle.geometry.specs.declared.aabb.AABB.{AABB}
use Rattle.geometry.specs.declared.settings.Settings.{Settings}
use Rattle.geometry.specs.declared.node_data.NodeData.{NodeData}
use Rattle.arithmetic.proofs.Laws.Tests.{by_bool, true_false}
use Rattle.arithmetic.proofs.Laws.Cases.{all_four, all-four}
use Rattle.geometry.specs.Rectangles.{flat, spans_overlap, overlaps, intersects, touches, reaches, inverted}
use Rattle.geometry.specs.Settings.{W, bits_within, bit_length, halvings, D}
use Rattle.geometry.specs.Cells.{root_cell, root_data, quarter_cell, child_cell, child_data, left_of, right_of, top_of, bottom_of, quadrant, route_cell, route}
use Rattle.geometry.specs.Levels.{wider, levels_left}
use Rattle.geometry.specs.Cells.{both_tests, opens, may_divide, may_split}

-- ---- the child that a rectangle goes to

quadrant-child : (l r t b : Bool) → quadrant l r t b < 5
unfolding quadrant
quadrant-child l r t b = ltb-true _ _ (all-four (λ l r t b. ltb (quadrant l r t b) 5) refl l r t b)

pub route-child : (n : NodeData) (r : AABB) → route n r < 5
unfolding route_cell
route-child n r = quadrant-child (left_of n.cell r) (right_of n.cell r) (top_of n.cell r) (bottom_of n.cell r)

-- ---- pruning

-- two rectangles that intersect share a point on each axis
pub record Meets (a b : AABB) : Type 0 where
  pub ax : a.x1 ≤ℤ b.x2
  pub bx : b.x1 ≤ℤ a.x2
  pub ay : a.y1 ≤ℤ b.y2
  pub by : b.y1 ≤ℤ a.y2
  pub own_x : a.x1 ≤ℤ a.x2
  pub own_y : a.y1 ≤ℤ a.y2
  pub other_x : b.x1 ≤ℤ b.x2
  pub other_y : b.y1 ≤ℤ b.y2

apart : (a b : AABB) → le_z (max_z a.x1 b.x1) (min_z a.x2 b.x2) ≡ true → le_z (max_z a.y1 b.y1) (min_z a.y2 b.y2) ≡ true → Meets a b
apart a b h k =
    omega (arith, ints, max-above a.x1 b.x1, min-below a.x2 b.x2, max-above a.y1 b.y1, min-below a.y2 b.y2)

pub touches-meets : (a b : AABB) → touches a b ≡ true → Meets a b
unfolding touches
touches-meets a b e =
    let p = and_t (le_z (max_z a.x1 b.x1) (min_z a.x2 b.x2)) (le_z (max_z a.y1 b.y1) (min_z a.y2 b.y2)) e in
    apart a b p.0 p.1

lt-le : (a b : ℤ) → lt_z a b ≡ true → le_z a b ≡ true
lt-le a b h = omega (arith, ints)

-- larger < smaller, by four tests
pub overlap_tests : (a c b d : ℤ) → (lt_z a d && lt_z b c) && (lt_z a c && lt_z b d) ≡ spans_overlap a c b d
unfolding spans_overlap max_z min_z
overlap_tests a c b d = same_test ((lt_z a d && lt_z b c) && (lt_z a c && lt_z b d)) (lt_z (max_z a b) (min_z c d)) there back
  where
    there : (lt_z a d && lt_z b c) && (lt_z a c && lt_z b d) ≡ true → lt_z (max_z a b) (min_z c d) ≡ true
    there e =
        let p = and_t (lt_z a d && lt_z b c) (lt_z a c && lt_z b d) e in
        let q = and_t (lt_z a d) (lt_z b c) p.0 in
        let r = and_t (lt_z a c) (lt_z b d) p.1 in
        by_bool (lt_z a b)
        (λ s. by_bool (lt_z d c) (λ t. rw (s, t) r.1) (λ t. rw (s, t) q.1))
        (λ s. by_bool (lt_z d c) (λ t. rw (s, t) q.0) (λ t. rw (s, t) r.0))

    back : lt_z (max_z a b) (min_z c d) ≡ true → (lt_z a d && lt_z b c) && (lt_z a c && lt_z b d) ≡ true
    back e =
        let above = max-above a b in
        let below = min-below c d in
        let ad : lt_z a d ≡ true = omega (arith, ints, above, below) in
        let bc : lt_z b c ≡ true = omega (arith, ints, above, below) in
        let ac : lt_z a c ≡ true = omega (arith, ints, above, below) in
        let bd : lt_z b d ≡ true = omega (arith, ints, above, below) in
        rw (ad, bc, ac, bd) refl

pub overlaps-intersects : (a b : AABB) → overlaps a b ≡ true → true ≡ intersects a b
unfolding spans_overlap overlaps intersects
overlaps-intersects a b e = rw e refl

pub only-touches : (a b : AABB) → overlaps a b ≡ false → (flat a || flat b) && touches a b ≡ intersects a b
unfolding spans_overlap overlaps intersects touches
only-touches a b e = rw e refl

pub intersects-touches : (a b : AABB) → intersects a b ≡ true → touches a b ≡ true
unfolding intersects touches
intersects-touches a b e =
    let xmax = max_z a.x1 b.x1 in
    let xmin = min_z a.x2 b.x2 in
    let ymax = max_z a.y1 b.y1 in
    let ymin = min_z a.y2 b.y2 in
    let lts = lt_z xmax xmin && lt_z ymax ymin in
    let les = le_z xmax xmin && le_z ymax ymin in
    let flats = flat a || flat b in
    ⊎_elim
    (λ p. let q = and_t (lt_z xmax xmin) (lt_z ymax ymin) p in rw (lt-le xmax xmin q.0, lt-le ymax ymin q.1) refl)
    (λ p. (and_t flats les p).1)
    (or_t lts (flats && les) e)

pub meets : (a b : AABB) → intersects a b ≡ true → Meets a b
meets a b e = touches-meets a b (intersects-touches a b e)

reached : (a b : AABB) → intersects a b ≡ true → reaches a b ≡ true
unfolding reaches
reached a b h =
    let m = meets a b h in
    let left : lt_z b.x2 a.x1 ≡ false = omega (arith, ints, m.ax) in
    let right : lt_z a.x2 b.x1 ≡ false = omega (arith, ints, m.bx) in
    let above : lt_z b.y2 a.y1 ≡ false = omega (arith, ints, m.ay) in
    let below : lt_z a.y2 b.y1 ≡ false = omega (arith, ints, m.by) in
    rw (left, right, above, below) refl

pub unreached : (a b : AABB) → reaches a b ≡ false → intersects a b ≡ false
unreached a b e = by_bool (intersects a b) (λ h. true_false (sym (reached a b h) ∙ e)) (λ h. h)

-- §3.3: an inverted rectangle intersects nothing
not-inverted : (r : AABB) → r.x1 ≤ℤ r.x2 → r.y1 ≤ℤ r.y2 → inverted r ≡ true → ⊥
unfolding inverted
not-inverted r x y e = ⊎_elim (λ p. omega (arith, ints)) (λ p. omega (arith, ints)) (or_t (lt_z r.x2 r.x1) (lt_z r.y2 r.y1) e)

pub inverted-meets_none : (a b : AABB) → inverted a ≡ true → intersects a b ≡ false
inverted-meets_none a b e = by_bool (intersects a b) (λ h. let m = meets a b h in absurd (not-inverted a m.own_x m.own_y e)) (λ h. h)

pub none-meets_inverted : (a b : AABB) → inverted b ≡ true → intersects a b ≡ false
none-meets_inverted a b e = by_bool (intersects a b) (λ h. let m = meets a b h in absurd (not-inverted b m.other_x m.other_y e)) (λ h. h)

-- The four tests of a rectangle and of a query that it touches: where only one of left and right is true of the rectangle, it is true of the query.
abbrev follows : Bool → Bool → Bool → Bool → Bool
follows l r l' r' = (r || l') && (l || r')

abbrev opens_route : Bool → Bool → Bool → Bool → Bool → Bool → Bool → Bool → Bool
opens_route l r t b l' r' t' b' = not (follows l r l' r' && follows t b t' b') || both_tests l' r' t' b' (quadrant l r t b)

opens-route : (l r t b l' r' t' b' : Bool) → opens_route l r t b l' r' t' b' ≡ true
unfolding quadrant both_tests
opens-route l r t b = all-four (opens_route l r t b) (all-four (λ l r t b. all_four (opens_route l r t b)) refl l r t b)

opens-quadrant : (l r t b l' r' t' b' : Bool) → follows l r l' r' ≡ true → follows t b t' b' ≡ true → both_tests l' r' t' b' (quadrant l r t b) ≡ true
opens-quadrant l r t b l' r' t' b' x y = rw (x, y) at (opens-route l r t b l' r' t' b')

-- of two tests one is true, where the one's failing gives the other
either : (s t : Bool) → (s ≡ false → t ≡ true) → s || t ≡ true
either true t f = refl
either false t f = f refl

pub prune_touch : (q : AABB) (n : NodeData) (r : AABB) → touches q r ≡ true → opens q n (route n r) ≡ true
unfolding opens route_cell
prune_touch q n r h =
    let c = n.cell in
    let m = touches-meets q r h in
    let right : right_of c r || left_of c q ≡ true = either (right_of c r) (left_of c q) (λ e. omega (arith, ints)) in
    let left : left_of c r || right_of c q ≡ true = either (left_of c r) (right_of c q) (λ e. omega (arith, ints)) in
    let bottom : bottom_of c r || top_of c q ≡ true = either (bottom_of c r) (top_of c q) (λ e. omega (arith, ints)) in
    let top : top_of c r || bottom_of c q ≡ true = either (top_of c r) (bottom_of c q) (λ e. omega (arith, ints)) in
    opens-quadrant (left_of c r) (right_of c r) (top_of c r) (bottom_of c r) (left_of c q) (right_of c q) (top_of c q) (bottom_of c q)
    (rw (right, left) refl) (rw (bottom, top) refl)

pub prune : (q : AABB) (n : NodeData) (r : AABB) → intersects q r ≡ true → opens q n (route n r) ≡ true
prune q n r h = prune_touch q n r (intersects-touches q r h)

-- ---- levels

-- the halvings' bound does not matter, where it is at least the number
bits-enough : (n m q : ℕ) → q ≤ n → q ≤ m → bits_within n q ≡ bits_within m q
unfolding bits_within
bits-enough zero zero q a b = refl
bits-enough zero (suc m) zero a b = refl
bits-enough zero (suc m) (suc q) a b = absurd (omega arith)
bits-enough (suc n) zero zero a b = refl
bits-enough (suc n) zero (suc q) a b = absurd (omega arith)
bits-enough (suc n) (suc m) zero a b = refl
bits-enough (suc n) (suc m) (suc q) a b = ap (λ (y : ℕ). 1 + y) (bits-enough n m (suc q / 2) (omega arith) (omega arith))

pub bits-half : (q : ℕ) → 1 ≤ q → bit_length q ≡ 1 + bit_length (q / 2)
unfolding bit_length bits_within
bits-half zero h = absurd (omega arith)
bits-half (suc q) h = ap (λ (y : ℕ). 1 + y) (bits-enough q (suc q / 2) (suc q / 2) (omega arith) (omega arith))

le-natural : (k : ℕ) (z : ℤ) → le_z (pos k) z ≡ true → k ≤ natural z
le-natural k (pos n) e = leb-true k n e
le-natural k (negsuc n) e = true_false (sym e)

pub natural-half : (z : ℤ) → natural (shr_z z 2) ≡ natural z / 2
natural-half (pos n) = refl
natural-half (negsuc n) = refl

pub halves_swap : (w k : ℕ) → w / 2 / k ≡ w / k / 2
halves_swap w k = div-div-eq-div-mul w 2 k ∙ ap (λ (y : ℕ). w / y) (mul_comm 2 k) ∙ sym (div-div-eq-div-mul w k 2)

step_down : (limit depth w k : ℕ) → depth < limit → 1 ≤ k → k ≤ w
    → 1 + min (limit - (depth + 1)) (bit_length (w / 2 / k)) ≤ min (limit - depth) (bit_length (w / k))
step_down limit depth w k below one big =
    let some : 1 ≤ w / k = (le-div_iff_mul-le one).1 (omega arith) in
    omega (arith, bits-half (w / k) some, ap bit_length (halves_swap w k))

-- what may_split says
pub record Splits (s : Settings) (n : NodeData) : Type 0 where
  pub no_child0 : n.is_child_0 ≡ false
  pub above : n.depth < s.depth_limit
  pub wide : s.smallest_cell ≤ wider n

pub may-splits : (s : Settings) (n : NodeData) → may_split s n ≡ true → Splits s n
unfolding may_divide
may-splits s n e =
    let hw = n.cell.half_width in
    let hh = n.cell.half_height in
    let k = s.smallest_cell in
    let b = and_t (not n.is_child_0 && ltb n.depth s.depth_limit) (le_z (pos k) hw || le_z (pos k) hh) e in
    let a = and_t (not n.is_child_0) (ltb n.depth s.depth_limit) b.0 in
    record {
      no_child0 = by_bool n.is_child_0 (λ t. true_false (sym (rw t at a.0))) (λ f. f);
      above = leb-true (suc n.depth) s.depth_limit a.1;
      wide = ⊎_elim
          (λ p. let w = le-natural k hw p in omega arith)
          (λ p. let w = le-natural k hh p in omega arith)
          (or_t (le_z (pos k) hw) (le_z (pos k) hh) b.1);
    }

-- a level is used up by a split
pub levels_fall : (s : Settings) → 1 ≤ s.smallest_cell → (n : NodeData) → may_split s n ≡ true → (i : ℕ) → 1 + levels_left s (child_data n i) ≤ levels_left s n
unfolding levels_left child_data child_cell quarter_cell
levels_fall s one n m i =
    let p = may-splits s n m in
    let k = s.smallest_cell in
    let hw = n.cell.half_width in
    let hh = n.cell.half_height in
    let down = step_down s.depth_limit n.depth (wider n) k p.above one p.wide in
    let same : max (natural (shr_z hw 2)) (natural (shr_z hh 2)) ≡ wider n / 2 = omega (arith, natural-half hw, natural-half hh) in
    rw p.no_child0
    (by_bool (eqb i 0)
    (λ e. rw e (omega arith))
    (λ e. rw (e, same) down))

bits_none : bit_length (0 / 2) ≡ bit_length 0 - 1
unfolding bit_length bits_within
bits_none = refl

pub bits-zero : bit_length 0 ≡ 0
unfolding bit_length bits_within
bits-zero = refl

pub bits-drop : (q : ℕ) → bit_length (q / 2) ≡ bit_length q - 1
bits-drop zero = bits_none
bits-drop (suc q) = omega (arith, bits-half (suc q) (omega arith))

-- at the root D are left
pub levels-root_is : (s : Settings) → levels_left s (root_data s) ≡ D s
unfolding levels_left root_data root_cell D halvings W
levels-root_is s =
    let k = s.smallest_cell in
    let w = max (natural s.width) (natural s.height) in
    let q = w / k in
    let same : max (natural (shr_z s.width 2)) (natural (shr_z s.height 2)) ≡ w / 2 = omega (arith, natural-half s.width, natural-half s.height) in
    let turn = ap bit_length (halves_swap w k) in
    rw same
    (by_bool (eqb q 0)
    (λ e. rw e (omega (arith, turn, bits-drop q, ap bit_length (eqb-true q 0 e), bits-zero)))
    (λ e. rw e (omega (arith, turn, bits-drop q))))

pub levels-root : (s : Settings) → levels_left s (root_data s) ≤ D s
levels-root s = omega (arith, levels-root_is s)
