-- What is read after a store: one number's word is changed, every other is kept.
--     changed-by   a function that differs at one number
--     first-set, count_set, next-set, rect-set, dot-set    what is stored
--     next-dot, dot-next   what stands beside it
--     node-length, next-length, dot-length, rect-length    rows keep their lengths
use Rattle.std.specs.Prelude.{◌≡◌, ◌≢◌, List, ℕ, ◌+◌, ◌*◌, ◌<◌, ℤ, pos, length}
use Rattle.std.proofs.Common.{ap, sym, ◌∙◌, arith}
use Rattle.std.proofs.Math.Path.{fun_ext}
use Rattle.std.proofs.Math.Decide.{ℕ_discrete}
use Rattle.std.proofs.Math.ListN.{get_or, set, length-set}
use Rattle.std.proofs.Math.Seq.{get_or-set_same, get_or-set_other}
use Rattle.geometry.specs.declared.aabb.AABB.{AABB}
use Rattle.model.specs.declared.Dot.{Dot}
use Rattle.model.specs.Sums.{changed}
use Rattle.model.proofs.Laws.Sums.{changed-same, changed_other, by_dec}
use Rattle.model.specs.Memory.{first_at, count_at, id_at, next_at, ink_at, rect_at, dot_at}
use Rattle.memory.specs.declared.node.Node.{Node}
use Rattle.memory.specs.Rows.{HasNode, HasPlace, HasRect, set_node_at, set_next_at, set_dot_at, set_rect_at}

pub changed-by : {A : Type 0} (f g : ℕ → A) (a : ℕ) (v : A) → g a ≡ v → ((k : ℕ) → k ≢ a → g k ≡ f k) → g ≡ changed f a v
changed-by f g a v same other =
    fun_ext (λ k.
    by_dec (ℕ_discrete k a)
    (λ e. ap g e ∙ same ∙ sym (ap (changed f a v) e ∙ changed-same f a v))
    (λ ne. other k ne ∙ sym (changed_other f a v k ne)))

-- ---- nodes

module _ (l : List ℕ) (a : ℕ) (v : Node) (h : HasNode l a) where
  pub first-set : first_at (set_node_at l a v) ≡ changed (first_at l) a v.first
  unfolding first_at set_node_at
  first-set =
      let m = set l (2 * a + 0) v.first in
      changed-by (λ k. get_or l (2 * k + 0) 0) (λ k. get_or (set m (2 * a + 1) v.count) (2 * k + 0) 0) a v.first
      (get_or-set_other m (2 * a + 1) (2 * a + 0) v.count 0 (λ e. omega arith) ∙ get_or-set_same l (2 * a + 0) v.first 0 (omega arith))
      (λ k ne. get_or-set_other m (2 * a + 1) (2 * k + 0) v.count 0 (λ e. omega arith) ∙ get_or-set_other l (2 * a + 0) (2 * k + 0) v.first 0
      (λ e. ne (omega arith)))

  pub count_set : count_at (set_node_at l a v) ≡ changed (count_at l) a v.count
  unfolding count_at set_node_at
  count_set =
      let m = set l (2 * a + 0) v.first in
      changed-by (λ k. get_or l (2 * k + 1) 0) (λ k. get_or (set m (2 * a + 1) v.count) (2 * k + 1) 0) a v.count
      (get_or-set_same m (2 * a + 1) v.count 0 (omega (arith, length-set l (2 * a + 0) v.first)))
      (λ k ne. get_or-set_other m (2 * a + 1) (2 * k + 1) v.count 0 (λ e. ne (omega arith)) ∙ get_or-set_other l (2 * a + 0) (2 * k + 1) v.first 0
      (λ e. omega arith))

pub node-length : (l : List ℕ) (a : ℕ) (v : Node) → length (set_node_at l a v) ≡ length l
unfolding set_node_at
node-length l a v = simp length-set

-- ---- places

module _ (l : List ℕ) (p v : ℕ) where
  pub next-set : HasPlace l p → next_at (set_next_at l p v) ≡ changed (next_at l) p v
  unfolding next_at set_next_at
  next-set h =
      changed-by (λ k. get_or l (3 * k + 1) 0) (λ k. get_or (set l (3 * p + 1) v) (3 * k + 1) 0) p v
      (get_or-set_same l (3 * p + 1) v 0 (omega arith)) (λ k ne. get_or-set_other l (3 * p + 1) (3 * k + 1) v 0 (λ e. ne (omega arith)))

  pub next-length : length (set_next_at l p v) ≡ length l
  unfolding set_next_at
  next-length = length-set l (3 * p + 1) v

module _ (l : List ℕ) (p : ℕ) (d : Dot) where
  pub next-dot : next_at (set_dot_at l p d) ≡ next_at l
  unfolding next_at set_dot_at
  next-dot =
      let m = set l (3 * p + 0) d.id in
      fun_ext (λ k.
      get_or-set_other m (3 * p + 2) (3 * k + 1) d.ink 0 (λ e. omega arith) ∙ get_or-set_other l (3 * p + 0) (3 * k + 1) d.id 0 (λ e. omega arith))

  pub dot-length : length (set_dot_at l p d) ≡ length l
  unfolding set_dot_at
  dot-length = simp length-set

  id-set : HasPlace l p → id_at (set_dot_at l p d) ≡ changed (id_at l) p d.id
  unfolding id_at set_dot_at
  id-set h =
      let m = set l (3 * p + 0) d.id in
      changed-by (λ k. get_or l (3 * k + 0) 0) (λ k. get_or (set m (3 * p + 2) d.ink) (3 * k + 0) 0) p d.id
      (get_or-set_other m (3 * p + 2) (3 * p + 0) d.ink 0 (λ e. omega arith) ∙ get_or-set_same l (3 * p + 0) d.id 0 (omega arith))
      (λ k ne. get_or-set_other m (3 * p + 2) (3 * k + 0) d.ink 0 (λ e. omega arith) ∙ get_or-set_other l (3 * p + 0) (3 * k + 0) d.id 0
      (λ e. ne (omega arith)))

  ink-set : HasPlace l p → ink_at (set_dot_at l p d) ≡ changed (ink_at l) p d.ink
  unfolding ink_at set_dot_at
  ink-set h =
      let m = set l (3 * p + 0) d.id in
      changed-by (λ k. get_or l (3 * k + 2) 0) (λ k. get_or (set m (3 * p + 2) d.ink) (3 * k + 2) 0) p d.ink
      (get_or-set_same m (3 * p + 2) d.ink 0 (omega (arith, length-set l (3 * p + 0) d.id)))
      (λ k ne. get_or-set_other m (3 * p + 2) (3 * k + 2) d.ink 0 (λ e. ne (omega arith)) ∙ get_or-set_other l (3 * p + 0) (3 * k + 2) d.id 0
      (λ e. omega arith))

-- ---- rectangles

-- a word of the four that place p has, in a row after a store of one of them
module _ (l : List ℤ) (i j : ℕ) (v : ℤ) where
  corner_other : i ≢ j → get_or (set l i v) j (pos 0) ≡ get_or l j (pos 0)
  corner_other ne = get_or-set_other l i j v (pos 0) (λ e. ne (sym e))

module _ (l : List ℤ) (p : ℕ) (r : AABB) (h : HasRect l p) where
  pub rect-set : rect_at (set_rect_at l p r) ≡ changed (rect_at l) p r
  unfolding rect_at set_rect_at
  rect-set =
      let a = set l (4 * p + 0) r.x1 in
      let b = set a (4 * p + 1) r.y1 in
      let c = set b (4 * p + 2) r.x2 in
      let d = set c (4 * p + 3) r.y2 in
      let far : (i : ℕ) → ((j : ℕ) → j < 4 → 4 * p + j ≢ i) → get_or d i (pos 0) ≡ get_or l i (pos 0) = λ i ne.
      corner_other c (4 * p + 3) i r.y2 (ne 3 (omega arith)) ∙ corner_other b (4 * p + 2) i r.x2 (ne 2 (omega arith))
      ∙ corner_other a (4 * p + 1) i r.y1 (ne 1 (omega arith)) ∙ corner_other l (4 * p + 0) i r.x1 (ne 0 (omega arith)) in
      let x1 : get_or d (4 * p + 0) (pos 0) ≡ r.x1 =
      corner_other c (4 * p + 3) (4 * p + 0) r.y2 (λ e. omega arith) ∙ corner_other b (4 * p + 2) (4 * p + 0) r.x2 (λ e. omega arith)
      ∙ corner_other a (4 * p + 1) (4 * p + 0) r.y1 (λ e. omega arith) ∙ get_or-set_same l (4 * p + 0) r.x1 (pos 0) (omega arith) in
      let y1 : get_or d (4 * p + 1) (pos 0) ≡ r.y1 =
      corner_other c (4 * p + 3) (4 * p + 1) r.y2 (λ e. omega arith) ∙ corner_other b (4 * p + 2) (4 * p + 1) r.x2 (λ e. omega arith)
      ∙ get_or-set_same a (4 * p + 1) r.y1 (pos 0) (simp length-set (omega arith)) in
      let x2 : get_or d (4 * p + 2) (pos 0) ≡ r.x2 =
      corner_other c (4 * p + 3) (4 * p + 2) r.y2 (λ e. omega arith) ∙ get_or-set_same b (4 * p + 2) r.x2 (pos 0) (simp length-set (omega arith)) in
      let y2 : get_or d (4 * p + 3) (pos 0) ≡ r.y2 = get_or-set_same c (4 * p + 3) r.y2 (pos 0) (simp length-set (omega arith)) in
      changed-by (rect_at l) (rect_at (set_rect_at l p r)) p r
      (λ i. record { x1 = x1 i; y1 = y1 i; x2 = x2 i; y2 = y2 i })
      (λ k ne.
      let k1 = far (4 * k + 0) (λ j b e. ne (omega arith)) in
      let k2 = far (4 * k + 1) (λ j b e. ne (omega arith)) in
      let k3 = far (4 * k + 2) (λ j b e. ne (omega arith)) in
      let k4 = far (4 * k + 3) (λ j b e. ne (omega arith)) in
      λ i. record { x1 = k1 i; y1 = k2 i; x2 = k3 i; y2 = k4 i })

pub rect-length : (l : List ℤ) (p : ℕ) (r : AABB) → length (set_rect_at l p r) ≡ length l
unfolding set_rect_at
rect-length l p r = simp length-set

-- ---- dots, whose words stand in two rows

module _ (dots : List ℕ) (rects : List ℤ) (p : ℕ) where
  -- a next is no word of a dot
  pub dot-next : (v : ℕ) → dot_at (set_next_at dots p v) rects ≡ dot_at dots rects
  unfolding id_at ink_at set_next_at
  dot-next v =
      fun_ext (λ k.
      let id = get_or-set_other dots (3 * p + 1) (3 * k + 0) v 0 (λ e. omega arith) in
      let ink = get_or-set_other dots (3 * p + 1) (3 * k + 2) v 0 (λ e. omega arith) in
      λ i. record { id = id i; rect = rect_at rects k; ink = ink i })

  pub dot-set : (d : Dot) → HasPlace dots p → HasRect rects p → dot_at (set_dot_at dots p d) (set_rect_at rects p d.rect) ≡ changed (dot_at dots rects) p d
  dot-set d h hr =
      let id = id-set dots p d h in
      let ink = ink-set dots p d h in
      let rect = rect-set rects p d.rect hr in
      let stored : (k : ℕ) → dot_at (set_dot_at dots p d) (set_rect_at rects p d.rect) k
      ≡ record { id = changed (id_at dots) p d.id k; rect = changed (rect_at rects) p d.rect k; ink = changed (ink_at dots) p d.ink k } =
      λ k i. record { id = id i k; rect = rect i k; ink = ink i k } in
      changed-by (dot_at dots rects) (dot_at (set_dot_at dots p d) (set_rect_at rects p d.rect)) p d
      (stored p ∙ (λ i. record {
        id = changed-same (id_at dots) p d.id i;
        rect = changed-same (rect_at rects) p d.rect i;
        ink = changed-same (ink_at dots) p d.ink i;
      }))
      (λ k ne. stored k ∙ (λ i. record {
        id = changed_other (id_at dots) p d.id k ne i;
        rect = changed_other (rect_at rects) p d.rect k ne i;
        ink = changed_other (ink_at dots) p d.ink k ne i;
      }))
