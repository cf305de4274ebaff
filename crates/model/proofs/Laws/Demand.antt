-- THE PROOF OF Demand3 (§12). Idea: along a run the memory stays a tree (`run-trace`), and every weight sums to the same over its dots and over the book
-- (`Stands.same`); so what the query, the remove and the size of the tree say, the book says. After the list, quiet calls change the tree by cleanups alone,
-- and the count of changes is at most the number of calls, so that none of them is refused 16.
--     Stands, step-stands, trace-stands    the invariant, kept by a call and by a list of calls
--     stands-promise, demand_3
--     run-book     after a list the tree's dots are the book's, for every weight
--     book_inks    the book's dots have inks from 0 to 15
use Rattle.std.specs.Prelude.{◌≡◌, refl, Bool, true, false, cond, ℕ, suc, ◌*◌, ◌+◌, ◌≤◌, length, take, ltb}
use Rattle.std.proofs.Math.Path.{ap, ap₂}
use Rattle.std.proofs.Common.{sym, ◌∙◌, subst, ⊎_elim, leb-true, eq-eqb}
use mathlib.Core.List.{List, [], ◌∷◌, ◌++◌}
use Rattle.std.proofs.Math.Nat.{mul_assoc}
use Rattle.std.proofs.Math.Decide.{dec_le}
use native.Mathlib.Omega.{arith}
use Rattle.geometry.specs.declared.aabb.AABB.{AABB}
use Rattle.geometry.specs.declared.settings.Settings.{Settings}
use Rattle.model.specs.Sums.{indicator, sum_over}
use Rattle.model.proofs.Laws.Sums.{indicator-same, indicator-le, sum_over-append, sum_over-one, by_dec}
use Rattle.model.specs.Lists.{count, filter}
use Rattle.arithmetic.proofs.Laws.Tests.{by_bool, true_false}
use Rattle.model.specs.declared.Dot.{Dot}
use Rattle.model.specs.declared.Window.{Window}
use Rattle.model.specs.Dots.{good_ink, is_hit, any_dot}
use Rattle.geometry.specs.Settings.{D}
use Rattle.model.specs.Trees.{sum_dots, dots, Shallow}
use Rattle.model.proofs.Laws.Trees.{all_dots-dots, sum_dots-dots, shallow-le}
use Rattle.model.specs.Remove.{remove_says, remove_at}
use Rattle.model.specs.Shapes.{Shape, Valid, fresh, removed, found_by, cleaned, listed, opens_for, all_ids, root}
use Rattle.model.specs.Layout.{World, groups_of, places_of, Holds}
use Rattle.model.specs.declared.answers.Found.{Found}
use Rattle.model.specs.Calls.{Reply, answered, exit, carried_out, largest_count, listing, found_in}
use Rattle.model.specs.Calls.{Make, Remove, Cleanup, Query, All}
use Rattle.model.specs.Laying.{laid, CanLay}
use Rattle.model.specs.Patch.{patch_dots}
use Rattle.model.specs.Book.{Event, insert, remove, cleanup, query, all, patch, ask, place, Run, calls, Few, accepted, said_yes, without, entered, book_after}
use Rattle.model.specs.Book.{book, Has, Live, Fine, DistinctFrom, Distinct, Quiet, cleanups, meeting, Exactly, Promise, Demand3}
use Rattle.model.proofs.Laws.Query.{opened-le, branches_le}
use Rattle.model.proofs.Laws.Cleanup.{clean-sum, Tidy, tidy-suc, shallow-tidy, tidy-clean, tidy-zero, clean-tidy}
use Rattle.model.proofs.Laws.Remove.{found-gone, found-live}
use Rattle.model.proofs.Laws.Shapes.{good_inks, valid-height, shape-routed}
use Rattle.model.proofs.Laws.Book.{but, without-sum, without-le, but-tree, count-live, dead_count, has-sum, has-dot, has-passing, passing-has}
use Rattle.model.proofs.Laws.Dots.{on_dot, id_is, dot_is}
use Rattle.model.proofs.Laws.Lists.{all_map, sum_over-zero, filter-le, sum-filter, filter_any}
use Rattle.model.proofs.Laws.Calls.{says-just, says-no, says_no-only, remove-says, cleanup-says}
use Rattle.model.proofs.Laws.Calls.{answered-same, listing-short, listing_done, listing-front, query-left, all_left}
use Rattle.model.proofs.Laws.Listing.{shown, listed-shown, every_shown, shown-sum}
use Rattle.model.proofs.Laws.Laying.{laid-settings, laid-sum}
use Rattle.model.proofs.Laws.Patch.{patch-once}
use Rattle.model.proofs.Laws.Effects.{Lays, Change, Trace, run-trace}
use Rattle.model.proofs.Laws.Runs.{made_holds}
use Rattle.model.proofs.Laws.Counts.{few-exactly, trace-counts, trace-no_sixteen}
use Rattle.model.proofs.Laws.Quiet.{cleans-no, no-cleans, quiet_keeps, quiet-tidy}

-- ---- the invariant of a run

-- the shape has the settings s, and the dots of the book b
record Stands (s : Settings) (b : List Dot) (x : Shape) : Type 0 where
  settings : x.settings ≡ s
  same : (h : Dot → ℕ) → sum_dots (on_dot h) x.tree ≡ sum_over h b
  once : (k : ℕ) → sum_over (id_is k) b ≤ 1

-- ---- a call keeps the invariant

-- dots of different ids, of which none is live
laid-stands : (s : Settings) (ds b : List Dot) (x : Shape) → Valid x → CanLay ds x
    → ((k : ℕ) → sum_over (id_is k) ds ≤ 1) → ((d : Dot) → Has d ds → ¬ Live d.id b)
    → Stands s b x → Stands s (ds ++ b) (laid ds x)
laid-stands s ds b x v can once unused I =
    record {
      settings = laid-settings ds x ∙ I.settings;
      same = λ h. omega (arith, laid-sum ds x v can h, I.same h, sum_over-append h ds b);
      once = λ k.
          by_dec (dec_le 1 (sum_over (id_is k) ds))
          (λ some.
          let l = count-live k ds some in
          let dead = dead_count k b (λ live. unused l.0 l.1 (subst (λ (n : ℕ). Live n b) (sym l.2) live)) in
          omega (arith, sum_over-append (id_is k) ds b, once k, dead))
          (λ none. omega (arith, sum_over-append (id_is k) ds b, I.once k));
    }

laying_stands : (s : Settings) (ds b : List Dot) (number : ℕ) (reply : Reply ℕ) (x y : Shape) → Valid x → Lays x ds number reply y
    → ((k : ℕ) → sum_over (id_is k) ds ≤ 1) → (accepted reply ≡ true → (d : Dot) → Has d ds → ¬ Live d.id b)
    → Stands s b x → Stands s (cond (accepted reply) (ds ++ b) b) y
laying_stands s ds b number reply x y v l once unused I =
    ⊎_elim
    (λ no. rw (no.0, no.1) I)
    (λ yes. let a = ap accepted yes.2 in rw (yes.0, a) (laid-stands s ds b x v yes.1 once (unused a) I))
    l

one-stands : (s : Settings) (b : List Dot) (dot : Dot) (number : ℕ) (reply : Reply ℕ) (x y : Shape) → Valid x → Lays x (dot ∷ []) number reply y
    → (accepted reply ≡ true → ¬ Live dot.id b) → Stands s b x → Stands s (cond (accepted reply) (dot ∷ b) b) y
one-stands s b dot number reply x y v l unused I =
    laying_stands s (dot ∷ []) b number reply x y v l (λ k. omega (arith, indicator-le k dot.id))
    (λ a d has. ⊎_elim (λ p. subst (λ (e : Dot). ¬ Live e.id b) p (unused a)) (λ none. absurd none) has) I

removed-stands : (s : Settings) (b : List Dot) (x : Shape) (id : ℕ) (r : AABB) → Stands s b x → found_by id r x ≡ true
    → Stands s (without id b) (removed id r x)
unfolding removed found_by
removed-stands s b x id r I e =
    let gone = found-gone id r (root x) x.tree e in
    let d = gone.0 in
    let t = remove_at id r (root x) x.tree in
    let none_left : sum_dots (on_dot (id_is id)) t ≡ 0 =
    omega (arith, gone.2 (on_dot (id_is id)), I.same (id_is id), I.once id, ap (λ (y : ℕ). indicator id y) gone.1, indicator-same id) in
    record {
      settings = I.settings;
      same = λ h.
          let at-d : on_dot (but id h) d ≡ 0 = rw (eq-eqb id d.dot.id (sym gone.1)) refl in
          omega (arith, without-sum h id b, I.same (but id h), gone.2 (on_dot (but id h)), at-d, but-tree h id t none_left);
      once = λ k. omega (arith, I.once k, without-le (id_is k) id b);
    }

cleaned-stands : (s : Settings) (b : List Dot) (x : Shape) → Stands s b x → Stands s b (cleaned x)
unfolding cleaned
cleaned-stands s b x I = record { settings = I.settings; same = λ h. clean-sum (on_dot h) x.tree ∙ I.same h; once = I.once }

step-stands : (s : Settings) (b : List Dot) (x : Shape) (e : Event) (y : Shape) → Valid x → Change x e y → Fine b e → Stands s b x → Stands s (entered b e) y
step-stands s b x (insert dot reply) y v c fine I = one-stands s b dot _ reply x y v c fine I
step-stands s b x (remove id r reply) y v c fine I =
    ⊎_elim
    (λ no. rw (no.0, ap said_yes no.1) I)
    (⊎_elim (λ top. rw (top.0, ap said_yes top.1) I) (λ yes. rw (yes.0, ap said_yes yes.1) (removed-stands s b x id r I yes.2)))
    c
step-stands s b x (cleanup reply) y v c fine I =
    ⊎_elim (λ no. rw no.0 I) (⊎_elim (λ top. rw top.0 I) (λ yes. rw yes.0 (cleaned-stands s b x I))) c
step-stands s b x (query q row row' reply) y v c fine I = rw c I
step-stands s b x (all row row' reply) y v c fine I = rw c I
step-stands s b x (patch p reply) y v c fine I = laying_stands s (patch_dots p) b _ reply x y v c (patch-once p) fine I
step-stands s b x (ask dot reply) y v c fine I = rw c I
step-stands s b x (place t reply) y v c fine I = one-stands s b t.dot _ reply x y v c fine I

trace-stands : (s : Settings) (b : List Dot) (x : Shape) (es : List Event) (y : Shape) → Valid x → Trace x es y → DistinctFrom b es
    → Stands s b x → Stands s (book_after b es) y
trace-stands s b x [] y v t d I = subst (Stands s b) t I
trace-stands s b x (e ∷ es) y v t d I =
    trace-stands s (entered b e) t.0 es y t.1.valid t.2 d.1 (step-stands s b x e t.0 v t.1.change d.0 I)

-- ---- what a shape says of its book

module _ (s : Settings) (b : List Dot) (x : Shape) (v : Valid x) (I : Stands s b x) where
  -- every weight on ids sums to the same over the ids that a test shows and over the live dots that pass it
  shown-book : (test : Dot → Bool) (g : ℕ → ℕ) → sum_over g (shown test x) ≡ sum_over (λ d. g d.id) (filter test b)
  shown-book test g = shown-sum g test x ∙ I.same (λ d. cond (test d) (g d.id) 0) ∙ sym (sum-filter (λ d. g d.id) test b)

  stands-exactly : (test : Dot → Bool) → Exactly test b (shown test x)
  stands-exactly test =
      let sum : (id : ℕ) → count id (shown test x) ≡ sum_over (id_is id) (filter test b) = λ id. shown-book test (indicator id) in
      record {
        once = λ id. omega (arith, sum id, filter-le (id_is id) test b, I.once id);
        only_those = λ id c. passing-has test id b (omega (arith, sum id));
        all_those = λ d h i. omega (arith, sum d.id, has-passing test d b h i);
      }

  has-found : (d : Dot) → Has d b → found_by d.id d.rect x ≡ true
  unfolding found_by
  has-found d has =
      found-live d.id d.rect (root x) x.tree (shape-routed x v) (omega (arith, has-dot d b has, I.same (dot_is d.id d.rect)))

  dead_not_found : (id : ℕ) (r : AABB) → ¬ Live id b → found_by id r x ≡ false
  unfolding found_by
  dead_not_found id r dead =
      by_bool (remove_says id r (root x) x.tree)
      (λ e.
      let gone = found-gone id r (root x) x.tree e in
      absurd (omega (arith, dead_count id b dead, gone.2 (on_dot (id_is id)), I.same (id_is id), ap (λ (y : ℕ). indicator id y) gone.1, indicator-same id)))
      (λ e. e)

  -- a tidy tree opens few
  few : (q : AABB) → Tidy 0 x.tree → opens_for q x ≤ 1 + 5 * D s * length b
  unfolding opens_for
  few q t =
      omega (
        arith,
        opened-le q (root x) x.tree,
        branches_le (D x.settings) x.tree (valid-height x v) (tidy-zero x.tree t),
        ap₂ (λ (a b : ℕ). a * b) (ap D I.settings) (I.same (λ d. 1) ∙ sum_over-one b),
        mul_assoc 5 (D s) (length b),
      )

-- ---- the promise

trace-append : (x : Shape) (es fs : List Event) (y : Shape) → Trace x (es ++ fs) y → (z : Shape) × Trace x es z × Trace z fs y
trace-append x [] fs y t = (x, refl, t)
trace-append x (e ∷ es) fs y t = let r = trace-append t.0 es fs y t.2 in (r.0, (t.0, t.1, r.1), r.2)

module _ (s : Settings) (w : World) (b : List Dot) (x : Shape) (h : Holds w x) (I : Stands s b x) where
  -- a call that lists the ids which a test shows, where its row has a word for each live dot that passes it
  stands-shown : {A : Type 0} (test : Dot → Bool) (row row' : List ℕ) (w' : World) (reply : Reply A) (ids : List ℕ) (a : A) → ids ≡ shown test x
      → exit w' row' reply ≡ carried_out w row (listing (length row) x ids a) → length (filter test b) ≤ length row
      → (reply ≡ answered a) × (length ids ≡ length (filter test b)) × Exactly test b (take (length ids) row')
  stands-shown test row row' w' reply ids a are given long =
      let sum = shown-book s b x h.valid I test (λ k. 1) in
      let many : length ids ≡ length (filter test b) = omega (arith, ap length are, sum, sum_over-one (shown test x), sum_over-one (filter test b)) in
      by_bool (ltb (length row) (length ids))
      (λ e. absurd (omega (arith, leb-true (suc (length row)) (length ids) e)))
      (λ e.
      let d = listing_done w row w' row' reply x h ids a given e in
      let front : take (length ids) row' ≡ shown test x = listing-front w row w' row' reply x h ids a given e ∙ are in
      (d.1, many, subst (Exactly test b) (sym front) (stands-exactly s b x h.valid I test)))

  stands-lists : (q : Window) (row row' : List ℕ) (w' : World) (reply : Reply Found) → Query w q row w' row' reply
      → length (meeting q b) ≤ length row → (a : Found) × (reply ≡ answered a) × Exactly (is_hit q) b (take a.hits row')
  stands-lists q row row' w' reply call long =
      let given = query-left w q row w' row' reply call x h in
      let l = stands-shown (is_hit q) row row' w' reply (listed q x) (found_in q x) (listed-shown q x h.valid) given long in
      (found_in q x, l.0, l.2)

  stands-all : (row row' : List ℕ) (w' : World) (reply : Reply ℕ) → All w row w' row' reply → length b ≤ length row
      → (reply ≡ answered (length b)) × Exactly any_dot b (take (length b) row')
  stands-all row row' w' reply call long =
      let every : length (filter any_dot b) ≡ length b = ap length (filter_any b) in
      let l = stands-shown any_dot row row' w' reply (all_ids x) (length (all_ids x)) (every_shown x) (all_left w row w' row' reply call x h)
      (omega (arith, every)) in
      let many = l.1 ∙ every in
      (l.0 ∙ ap answered many, subst (λ (n : ℕ). Exactly any_dot b (take n row')) many l.2)

  -- after D cleanups, of which none is refused, no branch is left that holds no dot
  stands-cleanups : (es : List Event) (v w' : World) (reply : Reply Bool) → Run w es v → Quiet es → D s ≤ cleanups es → Cleanup v w' reply
      → Few (x.changes + calls es) → reply ≡ answered false
  stands-cleanups es v w' reply run quiet enough call few =
      let high : Shallow (D s) x.tree = subst (λ (y : Settings). Shallow (D y) x.tree) I.settings (valid-height x h.valid) in
      let r = run-trace w es v x h run in
      let y = r.0 in
      let tidy = quiet-tidy x es y r.2 quiet (trace-no_sixteen x es y r.2 few)
      (shallow-tidy (cleanups es) x.tree (shallow-le (D s) (cleanups es) x.tree enough high)) in
      says_no-only (no-cleans y (tidy-zero y.tree tidy)) (cleanup-says v w' reply call y r.1).2

  stands-opens : (es fs : List Event) (v w' : World) → Run w (es ++ cleanup (answered false) ∷ fs) v → Quiet es → Quiet fs
      → (q : Window) (row row' : List ℕ) (a : Found) → Query v q row w' row' (answered a) → a.opened ≤ 1 + 5 * D s * length b
  unfolding cleaned
  stands-opens es fs v w' run qe qf q row row' a call =
      let said = cleanup (answered false) ∷ fs in
      let r = run-trace w (es ++ said) v x h run in
      let z = r.0 in
      let parts = trace-append x es said z r.2 in
      let y = parts.0 in
      let before = quiet_keeps (Stands s b) (cleaned-stands s b) x es y parts.1 qe I in
      let clean = cleans-no y (says-no parts.2.1.change) in
      let after = quiet_keeps (λ u. Stands s b u × Tidy 0 u.tree)
      (λ u p. (cleaned-stands s b u p.0, tidy-clean 0 u.tree (tidy-suc 0 u.tree p.1)))
      y said z parts.2 (tt, qf) (before, clean-tidy y.tree clean) in
      let small = few s b z r.1.valid after.0 q.rect after.1 in
      let given = query-left v q row w' row' (answered a) call z r.1 in
      by_bool (ltb (length row) (length (listed q z)))
      (λ e. true_false (ap accepted (listing-short v row w' row' (answered a) z r.1 (listed q z) (found_in q z) given e).1))
      (λ e.
      let d = listing_done v row w' row' (answered a) z r.1 (listed q z) (found_in q z) given e in
      omega (arith, small, ap (λ (f : Found). f.opened) (answered-same d.1)))

  stands-removes : (d : Dot) (w' : World) (reply : Reply Bool) → Remove w d.id d.rect w' reply → Has d b → x.changes + 1 ≤ largest_count
      → reply ≡ answered true
  unfolding removed
  stands-removes d w' reply call has few =
      says-just few (remove-says w d.id d.rect w' reply call x h).2 ∙ ap answered (has-found s b x h.valid I d has)

  -- the count of changes is at most the number of calls
  stands-promise : (made : ℕ) → x.changes ≤ made → Promise s made w b
  stands-promise made slowly =
      record {
        lists = stands-lists;
        lists_all = λ row row' w' reply call long. stands-all row row' w' reply call (omega (arith, long));
        removes_live = λ d w' reply call has few. stands-removes d w' reply call has ((few-exactly (x.changes + 1)).0 (omega (arith, slowly)));
        keeps_others = λ id r w' reply call dead.
            says_no-only (dead_not_found s b x h.valid I id r dead) (remove-says w id r w' reply call x h).2;
        cleanups_end = λ es v w' reply run quiet enough call few. stands-cleanups es v w' reply run quiet enough call (omega (arith, slowly));
        opens_few = stands-opens;
      }

-- ---- after a list

module _ (lent : World) (s : Settings) (start : World) (m : Make lent s start (answered tt)) (es : List Event) (w : World) (run : Run start es w)
    (distinct : Distinct es) where
  run-stands : (x : Shape) × Holds w x × Stands s (book es) x × (x.changes ≤ calls es)
  unfolding fresh
  run-stands =
      let h = made_holds lent s start m in
      let x = fresh s (groups_of lent) (places_of lent) in
      let I : Stands s [] x = record { settings = refl; same = λ h. refl; once = λ k. omega arith } in
      let r = run-trace start es w x h run in
      (r.0, r.1, trace-stands s [] x es r.0 h.valid r.2 distinct I, omega (arith, (trace-counts x es r.0 r.2).slowly))

  -- after a list the tree's dots are the book's, for every weight
  pub run-book : (x : Shape) × Holds w x × ((h : Dot → ℕ) → sum_dots (on_dot h) x.tree ≡ sum_over h (book es))
  run-book = (run-stands.0, run-stands.1, run-stands.2.same)

-- THE THEOREM
pub demand_3 : Demand3
unfolding Demand3
demand_3 lent s start m es w run d = let r = run-stands lent s start m es w run d in stands-promise s w (book es) r.0 r.1 r.2 (calls es) r.3

-- ---- the book's inks

-- 1 at a dot whose ink is none of the sixteen
abbrev bad_ink : Dot → ℕ
bad_ink d = cond (good_ink d) 0 1

pub book_inks : (lent : World) (s : Settings) (start : World) → Make lent s start (answered tt)
    → (es : List Event) (w : World) → Run start es w → Distinct es → (d : Dot) → Has d (book es) → good_ink d ≡ true
book_inks lent s start m es w run distinct d has =
    let kept = run-book lent s start m es w run distinct in
    let x = kept.0 in
    let good = all_map (λ e. good_ink e.dot ≡ true) (λ e. on_dot bad_ink e ≡ 0) (λ e g. rw g refl) (dots x.tree)
    (all_dots-dots (λ e. good_ink e.dot ≡ true) x.tree (good_inks x kept.1.valid)) in
    let none : sum_over bad_ink (book es) ≡ 0 =
    sym (kept.2 bad_ink) ∙ sym (sum_dots-dots (on_dot bad_ink) x.tree) ∙ sum_over-zero (on_dot bad_ink) (dots x.tree) good in
    by_bool (good_ink d) (λ e. e) (λ e. absurd (omega (arith, none, has-sum bad_ink d (book es) (rw e refl) has)))
