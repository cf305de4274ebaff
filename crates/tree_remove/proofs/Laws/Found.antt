-- Where a dot with an id stands in its chain.
--     Found, found-split   at the head, or behind another
--     hit_absent, hit_there        there is none, or one
use Rattle.std.specs.Prelude.{◌≡◌, refl, List, ◌∷◌, ◌++◌, [], Option, Some, None, true, false, ℕ}
use Rattle.std.proofs.Common.{ap, sym, ◌∙◌}
use Rattle.arithmetic.proofs.Laws.Tests.{by_bool, true_false}
use Rattle.model.specs.Trees.{Placed}
use Rattle.model.specs.Remove.{first_out, first_place, first_has}
use Rattle.model.specs.Dots.{matches}
use Rattle.tree_remove.specs.declared.Hit.{Hit}
use Rattle.tree_remove.specs.Search.{hit_in}

pub data Found (id : ℕ) (chain : List Placed) (hit : Hit) : Type 0 where
  at_head : (d : Placed) (ys : List Placed) → chain ≡ d ∷ ys → first_out id chain ≡ ys → first_place id chain ≡ d.place
      → hit ≡ record { place = d.place; previous = None } → Found id chain hit
  behind : (xs : List Placed) (q d : Placed) (ys : List Placed) → chain ≡ xs ++ q ∷ d ∷ ys → first_out id chain ≡ xs ++ q ∷ ys → first_place id chain ≡ d.place
      → hit ≡ record { place = d.place; previous = Some q.place } → Found id chain hit

some_same : {x y : Hit} → Some x ≡ Some y → x ≡ y
some_same e = cc

pub some_none : {x : Hit} → Some x ≡ None → ⊥
some_none e = cc

-- behind q, which is not the dot
module _ (id : ℕ) where
  pub record Behind (q : Placed) (ds : List Placed) : Type 0 where
    pub xs : List Placed
    pub before : Placed
    pub dot : Placed
    pub ys : List Placed
    pub chain : q ∷ ds ≡ xs ++ before ∷ dot ∷ ys
    pub out : q ∷ first_out id ds ≡ xs ++ before ∷ ys
    pub place : first_place id ds ≡ dot.place
    pub hit : hit_in id (Some q.place) ds ≡ Some (record { place = dot.place; previous = Some before.place })

  behind-split : (q : Placed) (ds : List Placed) → first_has id ds ≡ true → Behind q ds
  behind-split q [] e = true_false (sym e)
  behind-split q (d ∷ ds) e =
      by_bool (matches id d.dot)
      (λ m. record { xs = []; before = q; dot = d; ys = ds; chain = refl; out = rw m refl; place = rw m refl; hit = rw m refl })
      (λ m.
      let b = behind-split d ds (rw m at e) in
      record {
        xs = q ∷ b.xs;
        before = b.before;
        dot = b.dot;
        ys = b.ys;
        chain = ap (λ (l : List Placed). q ∷ l) b.chain;
        out = rw m (ap (λ (l : List Placed). q ∷ l) b.out);
        place = rw m b.place;
        hit = rw m b.hit;
      })

  pub found-split : (ds : List Placed) → first_has id ds ≡ true → {hit : Hit} → hit_in id None ds ≡ Some hit → Found id ds hit
  found-split [] e t = true_false (sym e)
  found-split (d ∷ ds) e t =
      by_bool (matches id d.dot)
      (λ m. at_head d ds refl (rw m refl) (rw m refl) (some_same (sym (rw m at t))))
      (λ m.
      let b = behind-split d ds (rw m at e) in
      behind b.xs b.before b.dot b.ys b.chain (rw m b.out) (rw m b.place) (some_same (sym (rw m at t) ∙ b.hit)))

  pub hit_absent : (previous : Option ℕ) (ds : List Placed) → first_has id ds ≡ false → hit_in id previous ds ≡ None
  hit_absent previous [] e = refl
  hit_absent previous (d ∷ ds) e =
      by_bool (matches id d.dot) (λ m. true_false (rw m at e)) (λ m. rw m (hit_absent (Some d.place) ds (rw m at e)))

  pub hit_there : (previous : Option ℕ) (ds : List Placed) → first_has id ds ≡ true → hit_in id previous ds ≡ None → ⊥
  hit_there previous [] e t = true_false (sym e)
  hit_there previous (d ∷ ds) e t =
      by_bool (matches id d.dot) (λ m. some_none (rw m at t)) (λ m. hit_there (Some d.place) ds (rw m at e) (rw m at t))
