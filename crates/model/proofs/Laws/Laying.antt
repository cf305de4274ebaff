-- Dots laid one after another: lay_all accepts exactly if CanLay holds.
--     can_lay-first        what can be laid: its first dot is inserted, and the others can be laid after it
--     can_lay-one  an insert that goes is a list of one
--     lay_can, lay_cases   a list that can be laid is laid; any other is refused
--     laid-settings, laid-changes, laid-sum        what is kept, and what comes to it
--     laid-append, can_lay-append  a list laid in two parts
use Rattle.std.specs.Prelude.{◌≡◌, refl, ◌⊎◌, List, [], ◌∷◌, ◌++◌, true, false, not, ◌||◌, ◌&&◌, ℕ, ◌+◌, ◌≤◌, ◌<◌, length, replicate, eqb}
use Rattle.std.proofs.Common.{ap, sym, ◌∙◌, subst, inl, inr, ⊎_elim, arith, ne_eqb, le-ltb}
use Rattle.std.proofs.lemmas.List.{length-replicate}
use Rattle.arithmetic.proofs.Laws.Linear.{and_t}
use Rattle.arithmetic.proofs.Laws.Tests.{by_bool, true_false}
use Rattle.geometry.specs.declared.settings.Settings.{Settings}
use Rattle.geometry.specs.Rectangles.{inverted, far_out}
use Rattle.geometry.specs.Settings.{D, root_of, contains, acceptable}
use Rattle.model.specs.declared.Dot.{Dot}
use Rattle.model.specs.Sums.{sum_over}
use Rattle.model.specs.Lists.{All}
use Rattle.model.specs.Dots.{good_ink, acceptable_dot}
use Rattle.model.specs.Trees.{size, sum_dots}
use Rattle.model.specs.Shapes.{Shape, Valid, root, placed_in, inserted, splits_made, splits_needed}
use Rattle.model.specs.Calls.{refuse, accept, insert_verdict}
use Rattle.model.specs.Laying.{laid, lay_all, dot_rects, splits_of_all, CanLay}
use Rattle.model.proofs.Laws.Dots.{on_dot}
use Rattle.model.proofs.Laws.Insert.{insert-sum, split_count-le}
use Rattle.model.proofs.Laws.Shapes.{live-and_free, valid-height, inserted-valid}
use Rattle.model.proofs.Laws.Splitting.{needed-count, made-needed}
use Rattle.model.proofs.Laws.Calls.{Goes, verdict_cases}
use Rattle.model.proofs.Laws.LayingSplits.{insert-splits_for, splits_for-none}

-- ---- one dot of a list

insert-goes : (dot : Dot) (x : Shape) → acceptable_dot x.settings dot ≡ true → size x.tree < x.places
    → splits_needed dot x ≤ length x.free_groups → insert_verdict dot x ≡ accept (inserted dot x) [] (splits_made dot x)
unfolding insert_verdict acceptable acceptable_dot
insert-goes dot x ok room enough =
    let r = dot.rect in
    let both = and_t (not (inverted r || far_out r) && contains (root_of x.settings) r) (good_ink dot) ok in
    let p = and_t (not (inverted r || far_out r)) (contains (root_of x.settings) r) both.0 in
    let four : inverted r || far_out r ≡ false = by_bool (inverted r || far_out r) (λ e. true_false (sym (rw e at p.0))) (λ e. e) in
    let six : eqb (size x.tree) x.places ≡ false = ne_eqb (size x.tree) x.places (λ e. omega arith) in
    rw (four, both.1, p.1, six, le-ltb (length x.free_groups) (splits_needed dot x) enough) refl

-- what an accepted insert does to the three needs of a list
record Stepped (d : Dot) (ds : List Dot) (x : Shape) : Type 0 where
  settings : (inserted d x).settings ≡ x.settings
  places : (inserted d x).places ≡ x.places
  size : size (inserted d x).tree ≡ 1 + size x.tree
  free : length (inserted d x).free_groups + splits_needed d x ≡ length x.free_groups
  splits : splits_of_all (d ∷ ds) x ≡ splits_needed d x + splits_of_all ds (inserted d x)

insert_steps : (d : Dot) (ds : List Dot) (x : Shape) → Valid x → splits_needed d x ≤ length x.free_groups → Stepped d ds x
unfolding inserted splits_of_all
insert_steps d ds x v enough =
    let s = x.settings in
    record {
      settings = refl;
      places = refl;
      size = insert-sum s (λ e. 1) (D s) (root x) (placed_in d x) x.tree x.free_groups (valid-height x v);
      free = (made-needed d x enough).1;
      splits =
          insert-splits_for s (D s) (root x) (placed_in d x) x.tree x.free_groups (dot_rects ds) (omega (arith, needed-count d x))
          ∙ ap (λ (k : ℕ). k + splits_of_all ds (inserted d x)) (sym (needed-count d x));
    }

splits_of_none : (x : Shape) → Valid x → splits_of_all [] x ≡ 0
unfolding splits_of_all
splits_of_none x v = splits_for-none x.settings (D x.settings) (root x) x.tree v.well_formed

-- the splits of the first dot are some of the splits of all, whether there are groups for them or not
splits-first : (d : Dot) (ds : List Dot) (x : Shape) → splits_needed d x ≤ splits_of_all (d ∷ ds) x
unfolding splits_of_all
splits-first d ds x =
    let s = x.settings in
    let many : List ℕ = replicate (D s) 0 in
    omega (
      arith,
      needed-count d x,
      insert-splits_for s (D s) (root x) (placed_in d x) x.tree many (dot_rects ds)
          (omega (arith, split_count-le s (D s) (root x) d.rect x.tree, length-replicate {A = ℕ} (D s) 0)),
    )

-- ---- the fold

-- what can be laid: its first dot is inserted, and the others can be laid after it
pub record FirstLaid (d : Dot) (ds : List Dot) (x : Shape) : Type 0 where
  pub goes : insert_verdict d x ≡ accept (inserted d x) [] (splits_made d x)
  pub valid : Valid (inserted d x)
  pub others : CanLay ds (inserted d x)

pub can_lay-first : (d : Dot) (ds : List Dot) (x : Shape) → Valid x → CanLay (d ∷ ds) x → FirstLaid d ds x
can_lay-first d ds x v can =
    let enough : splits_needed d x ≤ length x.free_groups = omega (arith, can.groups_enough, splits-first d ds x) in
    let ok = can.acceptable_dots.0 in
    let step = insert_steps d ds x v enough in
    record {
      goes = insert-goes d x ok (omega (arith, can.places_enough)) enough;
      valid = inserted-valid d x v ok (omega (arith, can.places_enough, live-and_free x v)) enough;
      others = record {
        acceptable_dots = subst (λ (s : Settings). All (λ e. acceptable_dot s e ≡ true) ds) (sym step.settings) can.acceptable_dots.1;
        places_enough = omega (arith, can.places_enough, step.size, step.places);
        groups_enough = omega (arith, can.groups_enough, step.free, step.splits);
      };
    }

pub lay_can : (ds : List Dot) (x : Shape) → Valid x → CanLay ds x → (lay_all ds x ≡ accept (laid ds x) [] (length ds)) × Valid (laid ds x)
lay_can [] x v can = (refl, v)
lay_can (d ∷ ds) x v can =
    let first = can_lay-first d ds x v can in
    let others = lay_can ds (inserted d x) first.valid first.others in
    (rw (first.goes, others.0) refl, others.1)

can_lay-none : (x : Shape) → Valid x → CanLay [] x
can_lay-none x v = record { acceptable_dots = tt; places_enough = omega (arith, live-and_free x v); groups_enough = omega (arith, splits_of_none x v) }

-- an insert that goes, and others that can be laid after it
can_lay-more : (d : Dot) (ds : List Dot) (x : Shape) → Valid x → Goes d x → CanLay ds (inserted d x) → CanLay (d ∷ ds) x
can_lay-more d ds x v g can =
    let step = insert_steps d ds x v g.2 in
    record {
      acceptable_dots = (g.0, subst (λ (s : Settings). All (λ e. acceptable_dot s e ≡ true) ds) step.settings can.acceptable_dots);
      places_enough = omega (arith, can.places_enough, step.size, step.places);
      groups_enough = omega (arith, can.groups_enough, step.free, step.splits);
    }

-- an insert that goes is a list of one
pub can_lay-one : (d : Dot) (x : Shape) → Valid x → Goes d x → CanLay (d ∷ []) x
can_lay-one d x v g = can_lay-more d [] x v g (can_lay-none (inserted d x) (inserted-valid d x v g.0 g.1 g.2))

-- a list is refused, or can be laid
pub lay_cases : (ds : List Dot) (x : Shape) → Valid x → ((k : ℕ) × (lay_all ds x ≡ refuse k)) ⊎ CanLay ds x
lay_cases [] x v = inr (can_lay-none x v)
lay_cases (d ∷ ds) x v =
    ⊎_elim
    (λ k. inl (k.0, rw k.1 refl))
    (λ g.
    ⊎_elim
    (λ k. inl (k.0, rw (g.3, k.1) refl))
    (λ can. inr (can_lay-more d ds x v g can))
    (lay_cases ds (inserted d x) (inserted-valid d x v g.0 g.1 g.2)))
    (verdict_cases d x v)

-- ---- what is laid

pub laid-settings : (ds : List Dot) (x : Shape) → (laid ds x).settings ≡ x.settings
unfolding inserted
laid-settings [] x = refl
laid-settings (d ∷ ds) x = laid-settings ds (inserted d x)

-- each is a change
pub laid-changes : (ds : List Dot) (x : Shape) → (laid ds x).changes ≡ x.changes + length ds
unfolding inserted
laid-changes [] x = omega arith
laid-changes (d ∷ ds) x = omega (arith, laid-changes ds (inserted d x))

-- the tree's dots are those that it had and those laid, for every weight
pub laid-sum : (ds : List Dot) (x : Shape) → Valid x → CanLay ds x → (h : Dot → ℕ)
    → sum_dots (on_dot h) (laid ds x).tree ≡ sum_over h ds + sum_dots (on_dot h) x.tree
unfolding inserted
laid-sum [] x v can h = omega arith
laid-sum (d ∷ ds) x v can h =
    let first = can_lay-first d ds x v can in
    let s = x.settings in
    omega (
      arith,
      laid-sum ds (inserted d x) first.valid first.others h,
      insert-sum s (on_dot h) (D s) (root x) (placed_in d x) x.tree x.free_groups (valid-height x v),
    )

-- ---- a list laid in two parts

pub laid-append : (ds es : List Dot) (x : Shape) → laid (ds ++ es) x ≡ laid es (laid ds x)
laid-append [] es x = refl
laid-append (d ∷ ds) es x = laid-append ds es (inserted d x)

-- while a list that can be laid is laid, the rest of it can be laid
pub can_lay-append : (ds es : List Dot) (x : Shape) → Valid x → CanLay (ds ++ es) x → Valid (laid ds x) × CanLay es (laid ds x)
can_lay-append [] es x v can = (v, can)
can_lay-append (d ∷ ds) es x v can = let first = can_lay-first d (ds ++ es) x v can in can_lay-append ds es (inserted d x) first.valid first.others
