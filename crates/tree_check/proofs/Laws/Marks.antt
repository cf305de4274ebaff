-- Laws of marks.
--     mark-one, mark-bits       one mark more
--     place-added, group-added     the same, as what is added
--     once-rest, once-whole, added-whole   what is counted, in two parts of which the first has been marked
--     marks-ready      the marks are as a walk needs them after one more
--     unmarked, was_marked     what was there, by the answer
--     zero-at          marks that are 0
--     marks-told       whether every mark is 1
use Rattle.std.specs.Prelude.{◌≡◌, refl, List, Bool, true, false, MatchBool, ℕ, zero, suc, ◌+◌, ◌≤◌, ◌<◌, length, get_or, set, replicate}
use Rattle.std.proofs.Common.{ap, sym, ◌∙◌, arith, length-set, get_or-set_same, get_or-set_other}
use Rattle.std.proofs.Math.Decide.{ℕ_discrete}
use borrow.Author.Tests.{eqb-true, eqb-false}
use Rattle.std.specs.List.{AllWithin, HoldsAt}
use Rattle.model.specs.Sums.{indicator}
use Rattle.model.proofs.Laws.Sums.{indicator-same, indicator_other, by_dec}
use Rattle.memory.specs.Lent.{Held, places_held, groups_held}
use Rattle.tree_check.specs.Marks.{place_mark, group_mark, Marked, Once, Added, MarksReady, AllMarked}

pub zero-at : (n j : ℕ) → get_or (replicate {A = ℕ} n 0) j 0 ≡ 0
zero-at zero j = refl
zero-at (suc n) zero = refl
zero-at (suc n) (suc j) = zero-at n j

module _ {marks marks' : List ℕ} {k : ℕ} {first : Bool} (one : Marked marks k marks' first) where
  pub unmarked : first ≡ true → get_or marks k 0 ≡ 0
  unmarked e = eqb-true _ _ (sym one.told ∙ e)

  pub was_marked : first ≡ false → get_or marks k 0 ≡ 0 → ⊥
  was_marked e = eqb-false _ _ (sym one.told ∙ e)

module _ (marks : List ℕ) (k : ℕ) (room : k < length marks) (unmarked : get_or marks k 0 ≡ 0) where
  pub mark-one : (j : ℕ) → get_or (set marks k 1) j 0 ≡ get_or marks j 0 + indicator j k
  mark-one j =
      by_dec (ℕ_discrete j k)
      (λ e.
      let new : get_or (set marks k 1) j 0 ≡ get_or (set marks k 1) k 0 = ap (λ (y : ℕ). get_or (set marks k 1) y 0) e in
      let old : get_or marks j 0 ≡ get_or marks k 0 = ap (λ (y : ℕ). get_or marks y 0) e in
      let one : indicator j k ≡ 1 = ap (λ (y : ℕ). indicator y k) e ∙ indicator-same k in
      omega (arith, get_or-set_same marks k 1 0 room))
      (λ ne. omega (arith, get_or-set_other marks k j 1 0 ne, indicator_other j k ne))

  pub mark-bits : ((j : ℕ) → get_or marks j 0 ≤ 1) → (j : ℕ) → get_or (set marks k 1) j 0 ≤ 1
  mark-bits bits j =
      by_dec (ℕ_discrete j k)
      (λ e. omega (arith, ap (λ (y : ℕ). get_or (set marks k 1) y 0) e, get_or-set_same marks k 1 0 room))
      (λ ne. omega (arith, get_or-set_other marks k j 1 0 ne, bits j))

  pub place-added : (limit : ℕ) → Added (place_mark marks) (place_mark (set marks k 1)) limit (λ j. indicator j k)
  place-added limit = record { added = λ j b. mark-one j }

module _ {h : Held} (marks : List ℕ) (k : ℕ) (ready : MarksReady h marks) (room : k < groups_held h) (unmarked : group_mark h marks k ≡ 0) where
  abbrev places : ℕ
  places = places_held h

  in_marks : places + k < length marks
  in_marks = omega (arith, ready.room)

  pub group-added : Added (group_mark h marks) (group_mark h (set marks (places + k) 1)) (groups_held h) (λ j. indicator j k)
  group-added =
      let shift : (j : ℕ) → indicator (places + j) (places + k) ≡ indicator j k = λ j.
      by_dec (ℕ_discrete j k)
      (λ e.
      let one : indicator j k ≡ 1 = ap (λ (y : ℕ). indicator y k) e ∙ indicator-same k in
      ap (λ (y : ℕ). indicator (places + y) (places + k)) e ∙ indicator-same (places + k) ∙ sym one)
      (λ ne. omega (arith, indicator_other j k ne, indicator_other (places + j) (places + k) (λ e. ne (omega arith)))) in
      record { added = λ j b. omega (arith, mark-one marks (places + k) in_marks unmarked (places + j), shift j) }

  pub marks-ready : MarksReady h (set marks (places + k) 1)
  marks-ready =
      record { room = length-set marks (places + k) 1 ∙ ready.room; bits = mark-bits marks (places + k) in_marks unmarked ready.bits }

  pub places-kept : (j : ℕ) → j < places → get_or (set marks (places + k) 1) j 0 ≡ get_or marks j 0
  places-kept j b = get_or-set_other marks (places + k) j 1 0 (λ e. omega arith)

-- what is counted is `part` and `rest`, and `part` has been marked
module _ {mark mark' part : ℕ → ℕ} {limit : ℕ} (marked : Added mark mark' limit part) (rest whole : ℕ → ℕ) (sum : (j : ℕ) → whole j ≡ part j + rest j) where
  pub once-rest : Once mark limit whole → Once mark' limit rest
  once-rest o = record { once = λ j b. omega (arith, o.once j b, marked.added j b, sum j); within = λ j b. omega (arith, o.within j b, sum j) }

  pub once-whole : Once mark limit part → Once mark' limit rest → Once mark limit whole
  once-whole p o =
      record { once = λ j b. omega (arith, o.once j b, marked.added j b, sum j); within = λ j b. omega (arith, p.within j b, o.within j b, sum j) }

  pub added-whole : {mark'' : ℕ → ℕ} → Added mark' mark'' limit rest → Added mark mark'' limit whole
  added-whole a = record { added = λ j b. omega (arith, a.added j b, marked.added j b, sum j) }

-- one number below the limit, unmarked
pub once-one : (mark : ℕ → ℕ) (limit k : ℕ) → ((j : ℕ) → mark j ≤ 1) → k < limit → mark k ≡ 0 → Once mark limit (λ j. indicator j k)
once-one mark limit k bits b z =
    record {
      once = λ j c. by_dec (ℕ_discrete j k)
          (λ e. omega (arith, ap mark e, ap (λ (y : ℕ). indicator y k) e, indicator-same k)) (λ ne. omega (arith, indicator_other j k ne, bits j));
      within = λ j c. indicator_other j k (λ e. omega arith);
    }

-- ---- every mark is 1

pub marks-told : (marks : List ℕ) (r : Bool)
    → MatchBool r (AllWithin (λ x. x ≡ 1) marks 0 (length marks)) ((k : ℕ) × (k < length marks) × HoldsAt (λ x. x ≡ 1 → ⊥) marks k) → AllMarked marks r
unfolding AllMarked
marks-told marks true all = λ j b. all j 0 (omega arith) b
marks-told marks false some = (some.0, some.1, some.2 0)
