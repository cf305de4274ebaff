-- Runs: from a world that is a tree each call has an outcome and leaves a tree.
--     made_holds   an accepted make leaves a tree, the fresh one
--     Call, call_of         a call's arguments; those of an event
--     event_on, shape_on, events_on   what a call, a list of calls, makes of a shape by the calls' rules
--     runs         every list of calls has a run, whatever the arguments: so Demand3 speaks of every list
use Rattle.std.specs.Prelude.{◌≡◌, List, [], ◌∷◌, map, Bool, true, false, cond, ℕ, length, ltb}
use Rattle.std.proofs.Math.Path.{refl}
use Rattle.std.proofs.Common.{ap, ap₂, sym, ◌∙◌, subst, ⊎_elim}
use Rattle.geometry.specs.declared.aabb.AABB.{AABB}
use Rattle.geometry.specs.declared.settings.Settings.{Settings}
use Rattle.arithmetic.proofs.Laws.Tests.{by_bool, true_false}
use Rattle.geometry.specs.Settings.{in_range}
use Rattle.model.specs.declared.Dot.{Dot}
use Rattle.model.specs.declared.Window.{Window}
use Rattle.model.specs.declared.Ticket.{Ticket}
use Rattle.model.specs.declared.patch.Patch.{Patch}
use Rattle.model.specs.Shapes.{Shape, Valid, fresh, removed, found_by, cleaned, cleans, listed, all_ids}
use Rattle.model.specs.Layout.{World, groups_of, places_of, lengths_right, layout, cleared, Holds}
use Rattle.model.specs.Calls.{refused, answered, Verdict, refuse, overflow, accept, exit, carried_out, Obeys, yes_or_no}
use Rattle.model.specs.Calls.{insert_rule, remove_rule, cleanup_rule, listing, found_in, query_rule, all_rule}
use Rattle.model.specs.Calls.{Make, Insert, Remove, Cleanup, Query, All}
use Rattle.model.specs.Patch.{patch_fits, patch_dots, patch_rule}
use Rattle.model.specs.Tickets.{ask_rule, place_rule, Ask, Place}
use Rattle.model.specs.Book.{Event, insert, remove, cleanup, query, all, patch, ask, place, Happens, Run, accepted}
use Rattle.model.proofs.Laws.Shapes.{fresh-valid, removed-valid, cleaned-valid}
use Rattle.model.proofs.Laws.Layout.{right-fits, layout-holds, cleared-holds, holds-lengths, holds-settings}
use Rattle.model.proofs.Laws.Pattern.{by-tree, by-good_patch, by-bad_patch}
use Rattle.model.proofs.Laws.Calls.{counted_cases}
use Rattle.model.proofs.Laws.Laying.{lay_can}
use Rattle.model.proofs.Laws.Effects.{Outcome, insert-outcome, place-outcome, patch-outcome, ask_cases}

pub made_holds : (lent : World) (s : Settings) (start : World) → Make lent s start (answered tt) → Holds start (fresh s (groups_of lent) (places_of lent))
made_holds lent s start m =
    by_bool (lengths_right lent)
    (λ l.
    by_bool (in_range s)
    (λ e.
    let x = fresh s (groups_of lent) (places_of lent) in
    let fits = right-fits lent l in
    subst (λ (u : World). Holds u x) (sym (m.made l e).0) (layout-holds x (fresh-valid s (groups_of lent) (places_of lent) e fits.0 fits.1)))
    (λ e. true_false (ap accepted (m.bad_settings l e).1)))
    (λ l. true_false (ap accepted (m.bad_length l).1))

pub data Call : Type 0 where
  to_insert : Dot → Call
  to_remove : ℕ → AABB → Call
  to_clean_up : Call
  to_query : Window → List ℕ → Call
  to_all : List ℕ → Call
  to_patch : Patch → Call
  to_ask : Dot → Call
  to_place : Ticket → Call

abbrev pub call_of : Event → Call
call_of (insert dot reply) = to_insert dot
call_of (remove id r reply) = to_remove id r
call_of (cleanup reply) = to_clean_up
call_of (query q row row' reply) = to_query q row
call_of (all row row' reply) = to_all row
call_of (patch p reply) = to_patch p
call_of (ask dot reply) = to_ask dot
call_of (place t reply) = to_place t

-- the shape after a verdict
abbrev after : {B A : Type 0} → Shape → Verdict B A → Shape
after x (refuse k) = x
after x (overflow n) = x
after x (accept y words a) = y

-- the event of a call on a tree, and the shape after it, by the call's rule. Reply and row are the same from any world: `layout x` stands for it.
abbrev pub event_on : Shape → Call → Event
event_on x (to_insert dot) = insert dot (carried_out (layout x) [] (insert_rule dot x)).reply
event_on x (to_remove id r) = remove id r (carried_out (layout x) [] (remove_rule id r x)).reply
event_on x to_clean_up = cleanup (carried_out (layout x) [] (cleanup_rule x)).reply
event_on x (to_query q row) = let e = carried_out (layout x) row (query_rule q (length row) x) in query q row e.row e.reply
event_on x (to_all row) = let e = carried_out (layout x) row (all_rule (length row) x) in all row e.row e.reply
event_on x (to_patch p) = patch p (cond (patch_fits p) (carried_out (layout x) [] (patch_rule p x)).reply (refused 13))
event_on x (to_ask dot) = ask dot (carried_out (layout x) [] (ask_rule dot x)).reply
event_on x (to_place t) = place t (carried_out (layout x) [] (place_rule t x)).reply

abbrev pub shape_on : Shape → Call → Shape
shape_on x (to_insert dot) = after x (insert_rule dot x)
shape_on x (to_remove id r) = after x (remove_rule id r x)
shape_on x to_clean_up = after x (cleanup_rule x)
shape_on x (to_query q row) = after x (query_rule q (length row) x)
shape_on x (to_all row) = after x (all_rule (length row) x)
shape_on x (to_patch p) = cond (patch_fits p) (after x (patch_rule p x)) x
shape_on x (to_ask dot) = after x (ask_rule dot x)
shape_on x (to_place t) = after x (place_rule t x)

abbrev pub events_on : Shape → List Call → List Event
events_on x [] = []
events_on x (c ∷ cs) = event_on x c ∷ events_on (shape_on x c) cs

module _ (w : World) (x : Shape) (h : Holds w x) where
  module _ {B A : Type 0} (rule : Shape → Verdict B A) (row : List B) where
    obeys : (verdict : Verdict B A) → rule x ≡ verdict → Obeys true rule w row (carried_out w row verdict)
    obeys verdict e =
        by-tree true rule w row (carried_out w row verdict) (rw (holds-lengths w x h) refl)
        (ap in_range (holds-settings w x h) ∙ h.valid.settings_fit) x h (ap (carried_out w row) (sym e))

    -- a call whose rule comes to the verdict
    on-tree : (verdict : Verdict B A) → rule x ≡ verdict → Valid (after x verdict)
        → (v : World) × Obeys true rule w row (exit v (carried_out (layout x) row verdict).row (carried_out (layout x) row verdict).reply)
        × Holds v (after x verdict)
    on-tree (refuse k) e valid = (cleared w, obeys (refuse k) e, cleared-holds w x h)
    on-tree (overflow n) e valid = (cleared w, obeys (overflow n) e, cleared-holds w x h)
    on-tree (accept y words a) e valid = (layout y, obeys (accept y words a) e, layout-holds y valid)

  -- one that has no row: its verdict writes none
  rowless : {A : Type 0} (rule : Shape → Verdict ℕ A) → Valid (after x (rule x)) × ((carried_out (layout x) [] (rule x)).row ≡ [])
      → (v : World) × Obeys true rule w [] (exit v [] (carried_out (layout x) [] (rule x)).reply) × Holds v (after x (rule x))
  rowless rule good =
      let t = on-tree rule [] (rule x) refl good.0 in
      (t.0, subst (λ row. Obeys true rule w [] (exit t.0 row (carried_out (layout x) [] (rule x)).reply)) good.1 t.1, t.2)

  -- its verdict leaves a valid shape, and writes no row
  abbrev Tame : {A : Type 0} → Verdict ℕ A → Type 0
  Tame verdict = Valid (after x verdict) × ((carried_out (layout x) [] verdict).row ≡ [])

  lays-tame : (ds : List Dot) {number : ℕ} (verdict : Verdict ℕ ℕ) → Outcome x ds number verdict → Tame verdict
  lays-tame ds verdict o = ⊎_elim (λ k. rw k.1 (h.valid, refl)) (λ g. rw g.1 ((lay_can ds x h.valid g.0).1, refl)) o

  says-tame : (yes? : Bool) (other : Shape) → (yes? ≡ true → Valid other) → Tame (yes_or_no yes? other x)
  says-tame true other valid = ⊎_elim (λ c. rw c.0 (h.valid, refl)) (λ c. rw c.0 (valid refl, refl)) (counted_cases {B = ℕ} other [] true)
  says-tame false other valid = (h.valid, refl)

  lists-valid : {A : Type 0} (room : ℕ) (ids : List ℕ) (a : A) → Valid (after x (listing room x ids a))
  lists-valid room ids a = by_bool (ltb room (length ids)) (λ e. rw e h.valid) (λ e. rw e h.valid)

  -- the event happens, and leaves the shape
  next : (c : Call) → (v : World) × Happens w (event_on x c) v × Holds v (shape_on x c)
  unfolding Insert Remove remove_rule Cleanup cleanup_rule Query query_rule All all_rule Ask Place
  next (to_insert dot) = rowless (insert_rule dot) (lays-tame (dot ∷ []) (insert_rule dot x) (insert-outcome x h.valid dot))
  next (to_remove id r) = rowless (remove_rule id r) (says-tame (found_by id r x) (removed id r x) (removed-valid id r x h.valid))
  next to_clean_up = rowless cleanup_rule (says-tame (cleans x) (cleaned x) (λ e. cleaned-valid x h.valid))
  next (to_query q row) = on-tree (query_rule q (length row)) row (query_rule q (length row) x) refl (lists-valid (length row) (listed q x) (found_in q x))
  next (to_all row) = on-tree (all_rule (length row)) row (all_rule (length row) x) refl (lists-valid (length row) (all_ids x) (length (all_ids x)))
  next (to_patch p) =
      by_bool (patch_fits p)
      (λ e.
      let t = rowless (patch_rule p) (lays-tame (patch_dots p) (patch_rule p x) (patch-outcome x h.valid p)) in
      rw e (t.0, by-good_patch w p t.0 _ e t.1, t.2))
      (λ e. rw e (w, by-bad_patch w p e, h))
  next (to_ask dot) =
      rowless (ask_rule dot) (⊎_elim (λ k. rw k.1 (h.valid, refl)) (λ g. rw g.2 (h.valid, refl)) (ask_cases x h.valid dot))
  next (to_place t) = rowless (place_rule t) (lays-tame (t.dot ∷ []) (place_rule t x) (place-outcome x h.valid t))

-- the events are of those calls, in order
event-call : (x : Shape) (c : Call) → call_of (event_on x c) ≡ c
event-call x (to_insert dot) = refl
event-call x (to_remove id r) = refl
event-call x to_clean_up = refl
event-call x (to_query q row) = refl
event-call x (to_all row) = refl
event-call x (to_patch p) = refl
event-call x (to_ask dot) = refl
event-call x (to_place t) = refl

events-calls : (x : Shape) (cs : List Call) → map call_of (events_on x cs) ≡ cs
events-calls x [] = refl
events-calls x (c ∷ cs) = ap₂ (λ (d : Call) (ds : List Call). d ∷ ds) (event-call x c) (events-calls (shape_on x c) cs)

-- the run by the rules
by_rules : (w : World) (x : Shape) → Holds w x → (cs : List Call) → (v : World) × Run w (events_on x cs) v
by_rules w x h [] = (w, refl)
by_rules w x h (c ∷ cs) =
    let n = next w x h c in
    let r = by_rules n.0 (shape_on x c) n.2 cs in
    (r.0, (n.0, n.1, r.1))

pub runs : (w : World) (x : Shape) → Holds w x → (cs : List Call) → (v : World) × Run w (events_on x cs) v × (map call_of (events_on x cs) ≡ cs)
runs w x h cs = let r = by_rules w x h cs in (r.0, r.1, events-calls x cs)
