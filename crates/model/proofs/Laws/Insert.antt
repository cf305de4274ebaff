-- Laws of the insert.
--     deal-sum     the deal keeps every weight
--     insert-sum, insert-groups    it adds just its dot; groups move from the free list into the tree
--     insert_all, insert-valid     what it keeps
--     levels_suffice, valid-shallow        the levels never run out; a well-formed tree is no higher than its node may be split
--     insert-splits    each split takes a group
--     split_count-le       they are no more than the levels
use Rattle.std.specs.Prelude.{◌≡◌, refl, List, [], ◌∷◌, ℕ, zero, suc, ◌+◌, ◌≤◌, ◌<◌, length, leb, T}
use Rattle.std.proofs.Common.{ap, sym, ◌∙◌, subst, arith}
use mathlib.Core.Bool.{Bool, true, false, not, cond}
use Rattle.std.proofs.Math.Dec.{nleb→lt}
use Rattle.geometry.specs.declared.aabb.AABB.{AABB}
use Rattle.geometry.specs.declared.settings.Settings.{Settings}
use Rattle.geometry.specs.declared.node_data.NodeData.{NodeData}
use Rattle.model.specs.Sums.{changed, sum_over, sum_below}
use Rattle.model.proofs.Laws.Sums.{changed_other, changed-all, sum_over-one, sum_below_term, sum_below-changed}
use Rattle.model.specs.Lists.{All}
use Rattle.model.proofs.Laws.Lists.{all_map}
use Rattle.arithmetic.proofs.Laws.Tests.{by_bool, true_false}
use Rattle.model.specs.Trees.{Placed, Tree, leaf, branch, sum_dots, sum_groups, AllDots, Shallow}
use Rattle.model.specs.Dots.{acceptable_dot}
use Rattle.geometry.specs.Cells.{child_data, route, may_split}
use Rattle.geometry.proofs.Laws.Geometry.{route-child, levels_fall}
use Rattle.geometry.specs.Levels.{levels_left}
use Rattle.model.specs.Insert.{route_dot, deal, dealt, must_split, insert_at, split_count}
use Rattle.model.specs.Shapes.{WellFormed}

pub deal-sum : (c : NodeData) (h : Placed → ℕ) (acc : ℕ → List Placed) (ds : List Placed)
    → sum_below 5 (λ i. sum_over h (deal c acc ds i)) ≡ sum_over h ds + sum_below 5 (λ i. sum_over h (acc i))
deal-sum c h acc [] = omega arith
deal-sum c h acc (d ∷ ds) =
    let i = route_dot c d in
    omega (arith, deal-sum c h (changed acc i (d ∷ acc i)) ds, sum_below-changed 5 (λ j x. sum_over h x) acc i (d ∷ acc i) (route-child c d.dot.rect))

deal-beyond : (c : NodeData) (acc : ℕ → List Placed) (ds : List Placed) (j : ℕ) → 5 ≤ j → deal c acc ds j ≡ acc j
deal-beyond c acc [] j b = refl
deal-beyond c acc (d ∷ ds) j b =
    let i = route_dot c d in
    let ib = route-child c d.dot.rect in
    deal-beyond c (changed acc i (d ∷ acc i)) ds j b ∙ changed_other acc i (d ∷ acc i) j (λ x. omega arith)

-- no dot is dealt to a child beyond 4
dealt-beyond : (c : NodeData) (ds : List Placed) (j : ℕ) → 5 ≤ j → dealt c ds j ≡ leaf []
dealt-beyond c ds j b = ap leaf (deal-beyond c (λ i. []) ds j b)

module _ (S : Settings) where
  pub insert-sum : (h : Placed → ℕ) (n : ℕ) (c : NodeData) (d : Placed) (t : Tree) (free : List ℕ) → Shallow n t
      → sum_dots h (insert_at S n c d t free).tree ≡ h d + sum_dots h t
  insert-sum h zero c d (leaf ds) free s = refl
  insert-sum h zero c d (branch g f) free s = absurd s
  insert-sum h (suc n) c d (leaf ds) [] s = refl
  insert-sum h (suc n) c d (leaf ds) (g ∷ free) s =
      let i = route_dot c d in
      by_bool (must_split S c ds)
      (λ e. rw e
      (omega (
        arith,
        sum_below-changed 5 (λ j x. sum_dots h x) (dealt c ds) i (insert_at S n (child_data c i) d (dealt c ds i) free).tree (route-child c d.dot.rect),
        insert-sum h n (child_data c i) d (dealt c ds i) free tt,
        deal-sum c h (λ j. []) ds,
      )))
      (λ e. rw e refl)
  insert-sum h (suc n) c d (branch g f) free s =
      let i = route_dot c d in
      omega (
        arith,
        sum_below-changed 5 (λ j x. sum_dots h x) f i (insert_at S n (child_data c i) d (f i) free).tree (route-child c d.dot.rect),
        insert-sum h n (child_data c i) d (f i) free (s i (route-child c d.dot.rect)),
      )

  pub insert-groups : (h : ℕ → ℕ) (n : ℕ) (c : NodeData) (d : Placed) (t : Tree) (free : List ℕ)
      → sum_groups h (insert_at S n c d t free).tree + sum_over h (insert_at S n c d t free).free ≡ sum_groups h t + sum_over h free
  insert-groups h zero c d (leaf ds) free = refl
  insert-groups h zero c d (branch g f) free = refl
  insert-groups h (suc n) c d (leaf ds) [] = refl
  insert-groups h (suc n) c d (leaf ds) (g ∷ free) =
      let i = route_dot c d in
      by_bool (must_split S c ds)
      (λ e. rw e
      (omega (
        arith,
        sum_below-changed 5 (λ j x. sum_groups h x) (dealt c ds) i (insert_at S n (child_data c i) d (dealt c ds i) free).tree (route-child c d.dot.rect),
        insert-groups h n (child_data c i) d (dealt c ds i) free,
      )))
      (λ e. rw e refl)
  insert-groups h (suc n) c d (branch g f) free =
      let i = route_dot c d in
      omega (
        arith,
        sum_below-changed 5 (λ j x. sum_groups h x) f i (insert_at S n (child_data c i) d (f i) free).tree (route-child c d.dot.rect),
        insert-groups h n (child_data c i) d (f i) free,
      )

  -- the deal sends each dot to its child, and keeps what holds of every dot
  deal-all : (P : Placed → Type 0) (c : NodeData) (acc : ℕ → List Placed) (ds : List Placed) → All P ds
      → ((j : ℕ) → All (λ d. P d × (route_dot c d ≡ j)) (acc j)) → (j : ℕ) → All (λ d. P d × (route_dot c d ≡ j)) (deal c acc ds j)
  deal-all P c acc [] a r = r
  deal-all P c acc (d ∷ ds) a r =
      let i = route_dot c d in
      deal-all P c (changed acc i (d ∷ acc i)) ds a.1
      (λ j. changed-all (λ (j : ℕ) (x : List Placed). All (λ d. P d × (route_dot c d ≡ j)) x) acc i (d ∷ acc i) j
      (λ e. subst (λ (y : ℕ). All (λ d. P d × (route_dot c d ≡ y)) (d ∷ acc i)) (sym e) ((a.0, refl), r i))
      (λ ne. r j))

  all_unit : (ds : List Placed) → All (λ d. Unit {0}) ds
  all_unit [] = tt
  all_unit (d ∷ ds) = (tt, all_unit ds)

  pub dealt-all : (P : Placed → Type 0) (c : NodeData) (ds : List Placed) → All P ds → (j : ℕ) → All P (deal c (λ j. []) ds j)
  dealt-all P c ds a j = all_map (λ d. P d × (route_dot c d ≡ j)) P (λ d p. p.0) (deal c (λ j. []) ds j) (deal-all P c (λ j. []) ds a (λ i. tt) j)

  pub dealt-routed : (c : NodeData) (ds : List Placed) (j : ℕ) → All (λ d. route_dot c d ≡ j) (deal c (λ j. []) ds j)
  dealt-routed c ds j =
      all_map (λ d. Unit {0} × (route_dot c d ≡ j)) (λ d. route_dot c d ≡ j) (λ d p. p.1) (deal c (λ j. []) ds j)
      (deal-all (λ d. Unit {0}) c (λ j. []) ds (all_unit ds) (λ i. tt) j)

  pub insert_all : (P : Placed → Type 0) (n : ℕ) (c : NodeData) (d : Placed) (t : Tree) (free : List ℕ) → P d → AllDots P t
      → AllDots P (insert_at S n c d t free).tree
  insert_all P zero c d (leaf ds) free p a = (p, a)
  insert_all P zero c d (branch g f) free p a = a
  insert_all P (suc n) c d (leaf ds) [] p a = (p, a)
  insert_all P (suc n) c d (leaf ds) (g ∷ free) p a =
      let i = route_dot c d in
      by_bool (must_split S c ds)
      (λ e. rw e (λ j b.
      changed-all (λ (j : ℕ) (x : Tree). AllDots P x) (dealt c ds) i (insert_at S n (child_data c i) d (dealt c ds i) free).tree j
      (λ x. insert_all P n (child_data c i) d (dealt c ds i) free p (dealt-all P c ds a i)) (λ x. dealt-all P c ds a j)))
      (λ e. rw e (p, a))
  insert_all P (suc n) c d (branch g f) free p a =
      let i = route_dot c d in
      λ j b. changed-all (λ (j : ℕ) (x : Tree). AllDots P x) f i (insert_at S n (child_data c i) d (f i) free).tree j
      (λ x. insert_all P n (child_data c i) d (f i) free p (a i (route-child c d.dot.rect))) (λ x. a j b)

  module _ (one : 1 ≤ S.smallest_cell) where
    -- a valid tree is no higher than its cell may be split
    pub valid-shallow : (n : ℕ) (c : NodeData) (t : Tree) → levels_left S c ≤ n → WellFormed S c t → Shallow n t
    valid-shallow n c (leaf ds) l v = tt
    valid-shallow zero c (branch g f) l v = absurd (omega (arith, levels_fall S one c v.0 0))
    valid-shallow (suc n) c (branch g f) l v = λ i b. valid-shallow n (child_data c i) (f i) (omega (arith, levels_fall S one c v.0 i)) (v.1 i b).1

    full_splits : (c : NodeData) (ds : List Placed) → must_split S c ds ≡ true → may_split S c ≡ true
    full_splits c ds e = by_bool (may_split S c) (λ m. m) (λ m. true_false (sym (rw m at e)))

    not_full : (c : NodeData) (ds : List Placed) → must_split S c ds ≡ false → may_split S c ≡ true → length ds < S.leaf_limit
    not_full c ds e m =
        let x : leb S.leaf_limit (length ds) ≡ false = rw m at e in
        nleb→lt S.leaf_limit (length ds) (subst (λ (b : Bool). T (mathlib.Core.Bool.not b)) (sym x) tt)

    -- the levels never run out: where none is left, no leaf must split, and no branch stands
    pub levels_suffice : (c : NodeData) (ds : List Placed) → levels_left S c ≡ 0 → must_split S c ds ≡ false
    levels_suffice c ds z = by_bool (must_split S c ds) (λ e. absurd (omega (arith, levels_fall S one c (full_splits c ds e) 0))) (λ e. e)

    child-length : (c : NodeData) (ds : List Placed) (j : ℕ) → j < 5 → length (deal c (λ j. []) ds j) ≤ length ds
    child-length c ds j b =
        omega (
          arith,
          sum_over-one (deal c (λ j. []) ds j),
          sum_over-one ds,
          deal-sum c (λ d. 1) (λ j. []) ds,
          sum_below_term 5 (λ i. sum_over (λ d. 1) (deal c (λ j. []) ds i)) j b,
        )

    child-valid : (c e : NodeData) (ds : List Placed) → may_split S c ≡ true → WellFormed S c (leaf ds) → (j : ℕ) → j < 5 → WellFormed S e (dealt c ds j)
    child-valid c e ds m v j b = (dealt-all (λ d. acceptable_dot S d.dot ≡ true) c ds v.0 j, λ z. omega (arith, child-length c ds j b, v.1 m))

    pub insert-valid : (n : ℕ) (c : NodeData) (d : Placed) (t : Tree) (free : List ℕ) → levels_left S c ≤ n → acceptable_dot S d.dot ≡ true
        → split_count S n c d.dot.rect t ≤ length free → 1 ≤ S.leaf_limit
        → WellFormed S c t → WellFormed S c (insert_at S n c d t free).tree
    insert-valid zero c d (leaf ds) free l f k lim v =
        ((f, v.0), λ m. absurd (omega (arith, levels_fall S one c m 0)))
    insert-valid zero c d (branch g h) free l f k lim v = v
    insert-valid (suc n) c d (leaf ds) [] l f k lim v =
        by_bool (must_split S c ds)
        (λ e. absurd (omega (arith, rw e at k)))
        (λ e. ((f, v.0), λ m. omega (arith, not_full c ds e m)))
    insert-valid (suc n) c d (leaf ds) (g ∷ free) l f k lim v =
        let i = route_dot c d in
        let ib = route-child c d.dot.rect in
        let u = dealt c ds i in
        let r = (insert_at S n (child_data c i) d u free).tree in
        by_bool (must_split S c ds)
        (λ e.
        let m = full_splits c ds e in
        let k' : split_count S n (child_data c i) d.dot.rect u ≤ length free = omega (arith, rw e at k) in
        rw e (
          m,
          λ j b.
              changed-all (λ (j : ℕ) (x : Tree). AllDots (λ d. route_dot c d ≡ j) x × WellFormed S (child_data c j) x) (dealt c ds) i r j
              (λ x. subst (λ (y : ℕ). AllDots (λ d. route_dot c d ≡ y) r × WellFormed S (child_data c y) r) (sym x) (
                insert_all (λ d. route_dot c d ≡ i) n (child_data c i) d u free refl (dealt-routed c ds i),
                insert-valid n (child_data c i) d u free (omega (arith, levels_fall S one c m i)) f k' lim (child-valid c (child_data c i) ds m v i ib),
              ))
              (λ x. (dealt-routed c ds j, child-valid c (child_data c j) ds m v j b)),
          λ j b. changed_other (dealt c ds) i r j (λ x. omega arith) ∙ dealt-beyond c ds j b,
        ))
        (λ e. rw e ((f, v.0), λ m. omega (arith, not_full c ds e m)))
    insert-valid (suc n) c d (branch g h) free l f k lim v =
        let i = route_dot c d in
        let ib = route-child c d.dot.rect in
        let r = (insert_at S n (child_data c i) d (h i) free).tree in (
          v.0,
          λ j b.
              changed-all (λ (j : ℕ) (x : Tree). AllDots (λ d. route_dot c d ≡ j) x × WellFormed S (child_data c j) x) h i r j
              (λ x. subst (λ (y : ℕ). AllDots (λ d. route_dot c d ≡ y) r × WellFormed S (child_data c y) r) (sym x) (
                insert_all (λ d. route_dot c d ≡ i) n (child_data c i) d (h i) free refl (v.1 i ib).0,
                insert-valid n (child_data c i) d (h i) free (omega (arith, levels_fall S one c v.0 i)) f k lim (v.1 i ib).1,
              ))
              (λ x. v.1 j b),
          λ j b. changed_other h i r j (λ x. omega arith) ∙ v.2 j b,
        )

  -- with that many groups the insert makes just those splits, each on a group that it takes
  pub insert-splits : (n : ℕ) (c : NodeData) (d : Placed) (t : Tree) (free : List ℕ) → split_count S n c d.dot.rect t ≤ length free
      → ((insert_at S n c d t free).splits ≡ split_count S n c d.dot.rect t)
      × (length (insert_at S n c d t free).free + split_count S n c d.dot.rect t ≡ length free)
  insert-splits zero c d (leaf ds) free k = (refl, omega arith)
  insert-splits zero c d (branch g f) free k = (refl, omega arith)
  insert-splits (suc n) c d (leaf ds) [] k = (omega arith, omega arith)
  insert-splits (suc n) c d (leaf ds) (g ∷ free) k =
      let i = route_dot c d in
      by_bool (must_split S c ds)
      (λ e.
      let below = insert-splits n (child_data c i) d (dealt c ds i) free (omega (arith, rw e at k)) in
      rw e (omega (arith, below.0), omega (arith, below.1)))
      (λ e. rw e (refl, omega arith))
  insert-splits (suc n) c d (branch g f) free k = let i = route_dot c d in insert-splits n (child_data c i) d (f i) free k

  -- no insert splits more often than there are levels
  pub split_count-le : (n : ℕ) (c : NodeData) (r : AABB) (t : Tree) → split_count S n c r t ≤ n
  split_count-le zero c r t = omega arith
  split_count-le (suc n) c r (leaf ds) =
      let i = route c r in
      by_bool (must_split S c ds) (λ e. rw e (omega (arith, split_count-le n (child_data c i) r (dealt c ds i)))) (λ e. rw e (omega arith))
  split_count-le (suc n) c r (branch g f) = let i = route c r in omega (arith, split_count-le n (child_data c i) r (f i))
