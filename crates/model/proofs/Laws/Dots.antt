-- Laws of what the calls ask of a dot.
--     rect-upright, dot-upright    an acceptable rectangle, and an acceptable dot's, passes refusal 4
--     hit-apart, hit-by_ink        whether a query lists a dot, by the rectangles first
--     hit-opens    a query opens the child that a dot which it lists goes to
--     match_id, id_match   a remove takes just the dots of its id
--     on_dot        a weight on dots, of a dot with its place
--     id_is, dot_is  1 at the dots of an id; 1 at those of an id and a rectangle
--     same_rect_true, same_rect-same     the test of equal rectangles
--     default-zero  the default dot is what a free place holds
use Rattle.std.specs.Prelude.{◌≡◌, Bool, true, false, not, cond, ◌&&◌, ◌||◌, ℕ, ℤ, pos}
use Rattle.std.proofs.Math.Path.{refl}
use Rattle.std.proofs.Common.{sym, ◌∙◌}
use borrow.Author.Tests.{eqb-true, eq-eqb, not-true, not-false}
use Rattle.arithmetic.specs.Ints.{eq_z}
use Rattle.arithmetic.proofs.Laws.Linear.{eq_t, t_eq, nat_eq, and_t, or_f}
use Rattle.geometry.specs.declared.aabb.AABB.{AABB}
use Rattle.geometry.specs.declared.node_data.NodeData.{NodeData}
use Rattle.geometry.specs.declared.settings.Settings.{Settings}
use Rattle.geometry.specs.Rectangles.{intersects, same_rect, inverted, far_out}
use Rattle.geometry.specs.Settings.{root_of, contains, acceptable}
use Rattle.geometry.specs.Cells.{route, opens}
use Rattle.geometry.proofs.Laws.Geometry.{prune}
use Rattle.model.specs.declared.Dot.{Dot}
use Rattle.model.specs.declared.Window.{Window}
use Rattle.model.specs.Sums.{indicator}
use Rattle.model.specs.Dots.{good_ink, acceptable_dot, shows, is_hit, matches, zero_dot}
use Rattle.model.specs.Trees.{Placed}

pub rect-upright : (s : Settings) (r : AABB) → acceptable s r ≡ true → (inverted r ≡ false) × (far_out r ≡ false)
unfolding acceptable
rect-upright s r e =
    or_f (inverted r) (far_out r) (not-true (inverted r || far_out r) (and_t (not (inverted r || far_out r)) (contains (root_of s) r) e).0)

pub dot-upright : (s : Settings) (d : Dot) → acceptable_dot s d ≡ true → (inverted d.rect ≡ false) × (far_out d.rect ≡ false)
unfolding acceptable_dot
dot-upright s d e = rect-upright s d.rect (and_t (acceptable s d.rect) (good_ink d) e).0

module _ (q : Window) (d : Dot) {b : Bool} (told : b ≡ intersects q.rect d.rect) where
  pub hit-apart : not b ≡ true → false ≡ is_hit q d
  unfolding is_hit
  hit-apart n = rw (sym told ∙ not-true b n) refl

  pub hit-by_ink : not b ≡ false → {v : Bool} → v ≡ shows q d → v ≡ is_hit q d
  unfolding is_hit
  hit-by_ink n e = rw (sym told ∙ not-false b n) e

pub hit-opens : (q : Window) (n : NodeData) (d : Dot) → is_hit q d ≡ true → opens q.rect n (route n d.rect) ≡ true
unfolding is_hit
hit-opens q n d h = prune q.rect n d.rect (and_t (intersects q.rect d.rect) (shows q d) h).0

pub match_id : (id : ℕ) (d : Dot) → matches id d ≡ true → d.id ≡ id
unfolding matches
match_id id d e = sym (eqb-true id d.id e)

pub id_match : (id : ℕ) (d : Dot) → d.id ≡ id → matches id d ≡ true
unfolding matches
id_match id d e = eq-eqb id d.id (sym e)

-- ---- weights on dots

abbrev pub on_dot : (Dot → ℕ) → Placed → ℕ
on_dot h d = h d.dot

abbrev pub id_is : ℕ → Dot → ℕ
id_is k d = indicator k d.id

abbrev pub dot_is : ℕ → AABB → Dot → ℕ
dot_is k r d = cond (same_rect r d.rect) (id_is k d) 0

-- ---- equal rectangles

eq_z_true : (a b : ℤ) → eq_z a b ≡ true → a ≡ b
eq_z_true a b e = nat_eq a b (eq_t a b e)

pub same_rect_true : (a b : AABB) → same_rect a b ≡ true → a ≡ b
unfolding same_rect
same_rect_true a b e =
    let p = and_t (eq_z a.x1 b.x1 && eq_z a.y1 b.y1) (eq_z a.x2 b.x2 && eq_z a.y2 b.y2) e in
    let q = and_t (eq_z a.x1 b.x1) (eq_z a.y1 b.y1) p.0 in
    let r = and_t (eq_z a.x2 b.x2) (eq_z a.y2 b.y2) p.1 in
    let x1 = eq_z_true a.x1 b.x1 q.0 in
    let y1 = eq_z_true a.y1 b.y1 q.1 in
    let x2 = eq_z_true a.x2 b.x2 r.0 in
    let y2 = eq_z_true a.y2 b.y2 r.1 in
    λ i. record { x1 = x1 i; y1 = y1 i; x2 = x2 i; y2 = y2 i }

pub same_rect-same : (r : AABB) → same_rect r r ≡ true
unfolding same_rect
same_rect-same r = rw (t_eq r.x1 r.x1 refl, t_eq r.y1 r.y1 refl, t_eq r.x2 r.x2 refl, t_eq r.y2 r.y2 refl) refl

pub default-zero : (d : Dot)
    → (d.id ≡ 0) × (((d.rect.x1 ≡ pos 0) × ((d.rect.y1 ≡ pos 0) × ((d.rect.x2 ≡ pos 0) × (d.rect.y2 ≡ pos 0)))) × (d.ink ≡ 0)) → d ≡ zero_dot
default-zero d (id, ((x1, (y1, (x2, y2))), ink)) = λ i. record { id = id i; rect = record { x1 = x1 i; y1 = y1 i; x2 = x2 i; y2 = y2 i }; ink = ink i }
