-- A worked run: one list of calls of every kind, in a lent memory of two groups and three places, and what Demand3 says of it.
--     made         the fresh tree that it starts from
--     events       THE LIST, with the replies
--     happens      it happens: the rules, computed from the fresh tree, give these replies
--     distinct     it meets §12.6
--     promised     by Demand3: it has 15 calls, and its book is the one dot that is live
--     refused-kept     its refused insert left all as it was (§11.7)
--     never_sixteen    no call of it is refused 16 (§12.12)
-- From `promised` alone, of whatever is called next and whatever it leaves:
--     lists-three      a query lists the live id (§12.7)
--     all_three        all lists it too (§12.13)
--     removes-three    its remove by its rectangle says yes (§12.8)
--     one-is_gone      a remove of an id that was removed says no (§12.9)
--     third_says_no    D is 2: a cleanup that two came before says no (§12.10)
--     opens-few        where a cleanup has said no, a query opens at most 11 nodes (§12.11)
use Rattle.std.specs.Prelude.{◌≡◌, ◌≢◌, Bool, true, false, ℕ, ◌≤◌, pos, length, take, replicate}
use Rattle.std.proofs.Math.Path.{refl}
use Rattle.std.proofs.Common.{ap, sym, ◌∙◌, subst, inl, ⊎_elim, arith}
use mathlib.Core.List.{List, [], ◌∷◌, map}
use Rattle.arithmetic.specs.Ints.{max_z, min_z}
use Rattle.arithmetic.specs.Bits.{bit_at}
use Rattle.arithmetic.proofs.Laws.Tests.{true_false}
use Rattle.geometry.specs.declared.aabb.AABB.{AABB}
use Rattle.geometry.specs.Rectangles.{flat, intersects, middle, within, inverted, near, far_out}
use Rattle.geometry.specs.Settings.{axis_fits, root_fits, in_range, W, bits_within, bit_length, halvings, D, contains}
use Rattle.geometry.specs.Cells.{route_cell, may_divide, root_cell, root_data, child_centre, quarter_cell, child_cell, child_data, quadrant, both_tests, opens}
use Rattle.model.specs.Sums.{indicator, changed, sum_over}
use Rattle.model.specs.Lists.{count, All as Every}
use Rattle.model.specs.declared.Dot.{Dot}
use Rattle.model.specs.declared.Window.{Window}
use Rattle.model.specs.declared.Ticket.{Ticket}
use Rattle.model.specs.declared.patch.Patch.{Patch}
use Rattle.model.specs.declared.answers.Found.{Found}
use Rattle.model.specs.Dots.{good_ink, shows, is_hit, any_dot, matches}
use Rattle.model.specs.Shapes.{fresh, inserted, splits_made, splits_needed, removed, found_by, cleaned, cleans, listed, opens_for, all_ids}
use Rattle.model.specs.Layout.{World, lengths_right, layout}
use Rattle.model.specs.Calls.{Reply, refused, answered, exit, largest_count, insert_verdict, insert_rule, remove_rule}
use Rattle.model.specs.Calls.{cleanup_rule, query_rule, all_rule, Make, Remove, Cleanup, Query, All}
use Rattle.model.specs.Thresholds.{thresholds, threshold_at}
use Rattle.model.specs.Patch.{patch_fits, patch_rects, patch_dots, patch_verdict, patch_rule}
use Rattle.model.specs.Tickets.{ask_rule, place_rule}
use Rattle.model.specs.Book.{Event, insert, remove, cleanup, query, all, patch, ask, place, Run, Has, Live, Distinct, Exactly, Promise, Demand3}
use Rattle.model.specs.Trials.{settings, rect}
use Rattle.model.proofs.Laws.Sums.{indicator-same}
use Rattle.model.proofs.Laws.Book.{live-count}
use Rattle.model.proofs.Laws.Dots.{id_is}
use Rattle.model.proofs.Laws.Runs.{made_holds, call_of, events_on, runs}
use Rattle.model.proofs.Laws.Pattern.{Untouched}
use Rattle.model.proofs.Laws.Kept.{run-kept}
use Rattle.model.proofs.Laws.Effects.{refusal_of}
use Rattle.model.proofs.Laws.Counts.{no-sixteen}
use Rattle.model.proofs.Laws.Demand.{demand_3}

-- ---- the list

-- rows of the right lengths; what stands in them doesn't matter
abbrev lent : World
lent =
    record {
      state = record { settings = settings 1; free_group = 7; free_place = 7; live = 7; changes = 7 };
      nodes = replicate 22 7;
      dots = replicate 9 7;
      rects = replicate 12 (pos 7);
      marks = replicate 5 7;
    }

abbrev start : World
start = layout (fresh (settings 1) 2 3)

made : Make lent (settings 1) start (answered tt)
unfolding lengths_right axis_fits root_fits in_range
made = record { bad_length = λ l. true_false l; bad_settings = λ l e. true_false e; made = λ l e. (refl, refl) }

abbrev dot : ℕ → AABB → ℕ → Dot
dot id r ink = record { id = id; rect = r; ink = ink }

abbrev one : Dot
one = dot 1 (rect 1 1 2 2) 0

abbrev two : Dot
two = dot 2 (rect 3 3 3 3) 1

abbrev three : Dot
three = dot 3 (rect 9 9 10 10) 2

-- ink 2 alone
abbrev window : Window
window = record { rect = rect 9 9 12 12; inks = 4 }

-- one tile of tint 1: one dot, at its corner
abbrev tile : Patch
tile = record { x = pos 3; y = pos 3; columns = 1; rows = 1; tint = 1; first_id = 7 }

-- handed back by an ask about the second dot, when the first had been put in
abbrev ticket : Ticket
ticket = record { dot = two; changes = 1 }

-- the second is off the film; the placing splits twice, as was told, and the ticket is then stale; the first patch finds no place; the first remove looks
-- in another leaf; the cleanup frees the lower group
abbrev events : List Event
events =
    insert one (answered 0)
    ∷ insert (dot 4 (rect 16 16 18 18) 15) (refused 5)
    ∷ ask two (answered (record { splits = 2; ticket = ticket }))
    ∷ place ticket (answered 2)
    ∷ place ticket (refused 15)
    ∷ insert three (answered 0)
    ∷ patch tile (refused 14)
    ∷ remove 1 (rect 9 1 10 2) (answered false)
    ∷ remove 1 one.rect (answered true)
    ∷ remove 2 two.rect (answered true)
    ∷ patch tile (answered 1)
    ∷ remove 7 (rect 3 3 4 4) (answered true)
    ∷ cleanup (answered true)
    ∷ query window (0 ∷ []) (3 ∷ []) (answered (record { hits = 1; opened = 3 }))
    ∷ all (0 ∷ 0 ∷ []) (3 ∷ 0 ∷ []) (answered 1)
    ∷ []

computed : events_on (fresh (settings 1) 2 3) (map call_of events) ≡ events
unfolding flat intersects middle within inverted near far_out W bits_within bit_length halvings D contains
    root_cell root_data child_centre quarter_cell child_cell child_data quadrant route_cell both_tests opens may_divide
    fresh inserted splits_made splits_needed removed found_by cleaned cleans listed opens_for all_ids
    largest_count insert_verdict insert_rule remove_rule cleanup_rule query_rule all_rule good_ink shows bit_at is_hit matches indicator changed max_z min_z
    patch_fits patch_rects patch_dots patch_verdict patch_rule thresholds threshold_at ask_rule place_rule
computed = refl

pub happens : (w : World) × Run start events w
happens =
    let r = runs start (fresh (settings 1) 2 3) (made_holds lent (settings 1) start made) (map call_of events) in
    (r.0, subst (λ (es : List Event). Run start es r.0) computed r.1)

-- an id that the book doesn't count is not live
not_live : (id : ℕ) (b : List Dot) → sum_over (id_is id) b ≡ 0 → ¬ Live id b
not_live id b none live = omega (arith, none, live-count id b live)

tile_new : (d : Dot) → Has d (patch_dots tile) → ¬ Live d.id (three ∷ [])
unfolding patch_rects patch_dots thresholds threshold_at indicator
tile_new d has = ⊎_elim (λ p. subst (λ (e : Dot). ¬ Live e.id (three ∷ [])) p (not_live 7 (three ∷ []) refl)) (λ none. absurd none) has

distinct : Distinct events
unfolding indicator
distinct = (
  (λ e. not_live 1 [] refl),
  (
    (λ e. true_false (sym e)),
    (
      tt,
      (
        (λ e. not_live 2 (one ∷ []) refl),
        (
          (λ e. true_false (sym e)),
          (
            (λ e. not_live 3 (two ∷ one ∷ []) refl),
            ((λ e. true_false (sym e)), (tt, (tt, (tt, ((λ e. tile_new), (tt, (tt, (tt, (tt, tt))))))))),
          ),
        ),
      ),
    ),
  ),
)

-- ---- what is promised after it

-- of a book with one dot, which passes the test, just its id is listed
module _ (test : Dot → Bool) (d : Dot) where
  listed-is : (ids : List ℕ) → Exactly test (d ∷ []) ids → (k : ℕ) → 1 ≤ count k ids → k ≡ d.id
  listed-is ids e k c = let t = e.only_those k c in ⊎_elim (λ p. sym t.2 ∙ sym (ap (λ (x : Dot). x.id) p)) (λ n. absurd n) t.1

  just-one : test d ≡ true → (ids : List ℕ) → Exactly test (d ∷ []) ids → ids ≡ d.id ∷ []
  just-one hit [] e = absurd (omega (arith, e.all_those d (inl refl) hit))
  just-one hit (k ∷ []) e = ap (λ (i : ℕ). i ∷ []) (listed-is (k ∷ []) e k (omega (arith, indicator-same k)))
  just-one hit (k ∷ m ∷ ids) e =
      let first = listed-is (k ∷ m ∷ ids) e k (omega (arith, indicator-same k)) in
      let second = listed-is (k ∷ m ∷ ids) e m (omega (arith, indicator-same m)) in
      absurd (omega (arith, e.once k, indicator-same k, ap (indicator k) (second ∙ sym first)))

module _ (w : World) (run : Run start events w) where
  pub promised : Promise (settings 1) 15 w (three ∷ [])
  unfolding Demand3 patch_rects patch_dots thresholds threshold_at
  promised = demand_3 lent (settings 1) start made events w run distinct

  pub refused-kept : Untouched {B = ℕ} {A = ℕ} run.0 [] (exit run.2.0 [] (refused 5))
  refused-kept = (run-kept start (fresh (settings 1) 2 3) (made_holds lent (settings 1) start made) events w run).1.0.untouched (omega arith)

  pub never_sixteen : Every (λ e. refusal_of e ≢ 16) events
  unfolding patch_rects patch_dots thresholds threshold_at
  never_sixteen = no-sixteen lent (settings 1) start made events w run (omega arith)

  pub lists-three : (row row' : List ℕ) (w' : World) (reply : Reply Found) → length row ≡ 1 → Query w window row w' row' reply
      → (a : Found) × (reply ≡ answered a) × (take a.hits row' ≡ 3 ∷ [])
  unfolding is_hit shows bit_at intersects flat max_z min_z
  lists-three row row' w' reply e call =
      let l = promised.lists window row row' w' reply call (omega (arith, e)) in
      (l.0, l.1, just-one (is_hit window) three refl (take l.0.hits row') l.2)

  pub all_three : (row row' : List ℕ) (w' : World) (reply : Reply ℕ) → length row ≡ 1 → All w row w' row' reply
      → (reply ≡ answered 1) × (take 1 row' ≡ 3 ∷ [])
  all_three row row' w' reply e call =
      let l = promised.lists_all row row' w' reply call (omega (arith, e)) in
      (l.0, just-one any_dot three refl (take 1 row') l.1)

  pub removes-three : (w' : World) (reply : Reply Bool) → Remove w 3 three.rect w' reply → reply ≡ answered true
  removes-three w' reply call = promised.removes_live three w' reply call (inl refl) (omega arith)

  pub one-is_gone : (r : AABB) (w' : World) (reply : Reply Bool) → Remove w 1 r w' reply → reply ≡ answered false
  unfolding indicator
  one-is_gone r w' reply call = promised.keeps_others 1 r w' reply call (not_live 1 (three ∷ []) refl)

  pub third_says_no : (w₁ w₂ w₃ : World) (a₁ a₂ a₃ : Reply Bool) → Cleanup w w₁ a₁ → Cleanup w₁ w₂ a₂ → Cleanup w₂ w₃ a₃ → a₃ ≡ answered false
  unfolding W bits_within bit_length halvings D
  third_says_no w₁ w₂ w₃ a₁ a₂ a₃ c₁ c₂ c₃ =
      promised.cleanups_end (cleanup a₁ ∷ cleanup a₂ ∷ []) w₂ w₃ a₃ (w₁, c₁, (w₂, c₂, refl)) (tt, (tt, tt)) (omega arith) c₃ (omega arith)

  pub opens-few : (v w' : World) → Cleanup w v (answered false)
      → (q : Window) (row row' : List ℕ) (a : Found) → Query v q row w' row' (answered a) → a.opened ≤ 11
  unfolding W bits_within bit_length halvings D
  opens-few v w' said q row row' a call = promised.opens_few [] [] v w' (v, said, refl) tt tt q row row' a call
