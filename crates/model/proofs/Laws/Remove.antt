-- Laws of the remove.
--     Gone, found-gone     a yes takes out one dot of that id, whose place is the one freed
--     found-live   a dot that stands where its rectangle routes to is found by it
--     remove-all, remove-groups, remove-valid      what it keeps
use Rattle.std.specs.Prelude.{◌≡◌, refl, List, [], ◌∷◌, true, ℕ, ◌+◌, ◌≤◌, length}
use Rattle.std.proofs.Common.{ap, sym, ◌∙◌, subst, arith}
use Rattle.std.proofs.Math.Decide.{dec_le}
use Rattle.geometry.specs.declared.aabb.AABB.{AABB}
use Rattle.geometry.specs.declared.settings.Settings.{Settings}
use Rattle.geometry.specs.declared.node_data.NodeData.{NodeData}
use Rattle.model.specs.Sums.{sum_over}
use Rattle.model.proofs.Laws.Sums.{indicator_other, sum_over-le, changed_other, changed-all, sum_below-some, sum_below-changed, by_dec}
use Rattle.model.specs.Lists.{All}
use Rattle.arithmetic.proofs.Laws.Tests.{by_bool, true_false}
use Rattle.model.specs.Trees.{Placed, Tree, leaf, branch, sum_dots, sum_groups, AllDots}
use Rattle.model.specs.Insert.{route_dot}
use Rattle.model.specs.declared.Dot.{Dot}
use Rattle.model.specs.Dots.{acceptable_dot, matches}
use Rattle.model.proofs.Laws.Dots.{match_id, id_match, on_dot, id_is, dot_is, same_rect_true}
use Rattle.geometry.specs.Cells.{child_data, route}
use Rattle.geometry.specs.Rectangles.{same_rect}
use Rattle.geometry.proofs.Laws.Geometry.{route-child}
use Rattle.model.specs.Remove.{first_has, first_out, first_place, remove_says, remove_at, remove_place}
use Rattle.model.proofs.Laws.Query.{Routed}
use Rattle.model.specs.Shapes.{WellFormed}

-- a dot of id k went, and p was its place
abbrev pub Gone : ℕ → ℕ → ((Placed → ℕ) → ℕ) → ((Placed → ℕ) → ℕ) → Type 0
Gone k p was is = (d : Placed) × (d.dot.id ≡ k) × ((h : Placed → ℕ) → was h ≡ h d + is h) × (d.place ≡ p)

pub out-gone : (k : ℕ) (ds : List Placed) → first_has k ds ≡ true → Gone k (first_place k ds) (λ h. sum_over h ds) (λ h. sum_over h (first_out k ds))
out-gone k [] e = true_false (sym e)
out-gone k (d ∷ ds) e =
    by_bool (matches k d.dot)
    (λ t. (d, match_id k d.dot t, (λ h. rw t refl), rw t refl))
    (λ t. let r = out-gone k ds (rw t at e) in (r.0, r.1, (λ h. rw t (omega (arith, r.2 h))), rw t r.3))

pub has_first : (k : ℕ) (ds : List Placed) → 1 ≤ sum_over (on_dot (id_is k)) ds → first_has k ds ≡ true
has_first k [] h = absurd (omega arith)
has_first k (d ∷ ds) h =
    by_bool (matches k d.dot)
    (λ t. rw t refl)
    (λ t. rw t (has_first k ds (omega (arith, indicator_other k d.dot.id (λ e. true_false (sym (id_match k d.dot (sym e)) ∙ t))))))

pub all-out : (P : Placed → Type 0) (k : ℕ) (ds : List Placed) → All P ds → All P (first_out k ds)
all-out P k [] a = tt
all-out P k (d ∷ ds) a = by_bool (matches k d.dot) (λ t. rw t a.1) (λ t. rw t (a.0, all-out P k ds a.1))

all-some : (P : Placed → Type 0) (h : Placed → ℕ) (ds : List Placed) → All P ds → 1 ≤ sum_over h ds → (d : Placed) × P d × (1 ≤ h d)
all-some P h [] a b = absurd (omega arith)
all-some P h (d ∷ ds) a b =
    by_dec (dec_le 1 (h d)) (λ c. (d, a.0, c)) (λ c. all-some P h ds a.1 (omega arith))

-- a dot that h counts is there, with what holds of all
pub all_dots-some : (P : Placed → Type 0) (h : Placed → ℕ) (t : Tree) → AllDots P t → 1 ≤ sum_dots h t → (d : Placed) × P d × (1 ≤ h d)
all_dots-some P h (leaf c) a b = all-some P h c a b
all_dots-some P h (branch g f) a b =
    let s = sum_below-some 5 (λ i. sum_dots h (f i)) b in all_dots-some P h (f s.0) (a s.0 s.1) s.2

dot-id : (k : ℕ) (r : AABB) (d : Dot) → dot_is k r d ≤ id_is k d
dot-id k r d = by_bool (same_rect r d.rect) (λ e. rw e (omega arith)) (λ e. rw e (omega arith))

dot-rect : (k : ℕ) (r : AABB) (d : Dot) → 1 ≤ dot_is k r d → r ≡ d.rect
dot-rect k r d h = by_bool (same_rect r d.rect) (λ e. same_rect_true r d.rect e) (λ e. absurd (omega (arith, rw e at h)))

module _ (k : ℕ) (r : AABB) where
  pub found-gone : (c : NodeData) (t : Tree) → remove_says k r c t ≡ true
      → Gone k (remove_place k r c t) (λ h. sum_dots h t) (λ h. sum_dots h (remove_at k r c t))
  found-gone c (leaf ds) e = out-gone k ds e
  found-gone c (branch g f) e =
      let i = route c r in
      let x = found-gone (child_data c i) (f i) e in
      (x.0, x.1, (λ h. omega (arith, x.2 h, sum_below-changed 5 (λ j y. sum_dots h y) f i (remove_at k r (child_data c i) (f i)) (route-child c r))), x.3)

  pub found-live : (c : NodeData) (t : Tree) → Routed c t → 1 ≤ sum_dots (on_dot (dot_is k r)) t → remove_says k r c t ≡ true
  found-live c (leaf ds) ro h = has_first k ds (omega (arith, sum_over-le (on_dot (dot_is k r)) (on_dot (id_is k)) ds (λ d. dot-id k r d.dot)))
  found-live c (branch g f) ro h =
      let s = sum_below-some 5 (λ i. sum_dots (on_dot (dot_is k r)) (f i)) h in
      let j = s.0 in
      let i = route c r in
      let d = all_dots-some (λ d. route_dot c d ≡ j) (on_dot (dot_is k r)) (f j) (ro j s.1).0 s.2 in
      let e : j ≡ i = sym (ap (route c) (dot-rect k r d.0.dot d.2) ∙ d.1) in
      let p : 1 ≤ sum_dots (on_dot (dot_is k r)) (f i) = subst (λ (y : ℕ). 1 ≤ sum_dots (on_dot (dot_is k r)) (f y)) e s.2 in
      found-live (child_data c i) (f i) (ro i (route-child c r)).1 p

  pub remove-all : (P : Placed → Type 0) (c : NodeData) (t : Tree) → AllDots P t → AllDots P (remove_at k r c t)
  remove-all P c (leaf ds) a = all-out P k ds a
  remove-all P c (branch g f) a =
      let i = route c r in
      λ j b. changed-all (λ (j : ℕ) (x : Tree). AllDots P x) f i (remove_at k r (child_data c i) (f i)) j
      (λ e. remove-all P (child_data c i) (f i) (a i (route-child c r))) (λ ne. a j b)

  pub remove-groups : (h : ℕ → ℕ) (c : NodeData) (t : Tree) → sum_groups h (remove_at k r c t) ≡ sum_groups h t
  remove-groups h c (leaf ds) = refl
  remove-groups h c (branch g f) =
      let i = route c r in
      omega (
        arith,
        remove-groups h (child_data c i) (f i),
        sum_below-changed 5 (λ j y. sum_groups h y) f i (remove_at k r (child_data c i) (f i)) (route-child c r),
      )

module _ (S : Settings) where
  out-length : (k : ℕ) (ds : List Placed) → length (first_out k ds) ≤ length ds
  out-length k [] = omega arith
  out-length k (d ∷ ds) = by_bool (matches k d.dot) (λ e. rw e (omega arith)) (λ e. rw e (omega (arith, out-length k ds)))

  pub remove-valid : (k : ℕ) (r : AABB) (c : NodeData) (t : Tree) → WellFormed S c t → WellFormed S c (remove_at k r c t)
  remove-valid k r c (leaf ds) v = (all-out (λ d. acceptable_dot S d.dot ≡ true) k ds v.0, λ m. omega (arith, out-length k ds, v.1 m))
  remove-valid k r c (branch g f) v =
      let i = route c r in
      let ib = route-child c r in
      let u = remove_at k r (child_data c i) (f i) in (
        v.0,
        λ j b.
            changed-all (λ (j : ℕ) (x : Tree). AllDots (λ d. route_dot c d ≡ j) x × WellFormed S (child_data c j) x) f i u j
            (λ x. subst (λ (y : ℕ). AllDots (λ d. route_dot c d ≡ y) u × WellFormed S (child_data c y) u) (sym x)
            (remove-all k r (λ d. route_dot c d ≡ i) (child_data c i) (f i) (v.1 i ib).0, remove-valid k r (child_data c i) (f i) (v.1 i ib).1))
            (λ x. v.1 j b),
        λ j b. changed_other f i u j (λ x. omega arith) ∙ v.2 j b,
      )
