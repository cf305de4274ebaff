-- What a call of a list does to a tree, by its event: one statement for all calls, from which the laws of runs are read off.
--     Late         not refused, or refused with a number that comes after 3
--     Lays, Outcome        of a call that lays dots: it is refused, or lays them; by its verdict
--     insert-outcome, place-outcome, patch-outcome, ask_cases      the verdicts of the calls
--     Change       the shape before, the event, the shape after
--     Effect       with it, that the shape after is valid, the refusal late, and 16 only where the count would pass the largest
--     step         THE LAW: a call on a tree leaves a tree, and its effect
--     Trace        a run, as effects on the shape
--     run-trace    a run from a tree leaves a tree, and has a trace
use Rattle.std.specs.Prelude.{◌≡◌, ◌⊎◌, Bool, false, ℕ, ◌+◌, ◌≤◌, ◌<◌, eqb, ltb}
use Rattle.std.proofs.Math.Path.{refl, ap}
use Rattle.std.proofs.Common.{sym, ◌∙◌, subst, arith}
use Rattle.std.proofs.Math.Logic.{inl, inr, ⊎_elim}
use mathlib.Core.List.{List, [], ◌∷◌}
use Rattle.std.proofs.Math.ListN.{length}
use Rattle.arithmetic.proofs.Laws.Tests.{by_bool}
use Rattle.model.specs.declared.Dot.{Dot}
use Rattle.model.specs.declared.Ticket.{Ticket}
use Rattle.model.specs.declared.patch.Patch.{Patch}
use Rattle.model.specs.Shapes.{Shape, Valid, inserted, splits_made, removed, found_by, cleaned, cleans, listed, all_ids}
use Rattle.model.specs.Layout.{World, Holds}
use Rattle.model.specs.Calls.{Reply, answered, refusal, Verdict, refuse, accept, exit, carried_out}
use Rattle.model.specs.Calls.{largest_count, counted, listing, found_in, insert_rule, Insert}
use Rattle.model.specs.Laying.{laid, CanLay}
use Rattle.model.specs.Patch.{patch_fits, patch_dots, patch_rule}
use Rattle.model.specs.Tickets.{asked_of, told, ask_rule, place_rule, Ask, Place}
use Rattle.model.specs.Book.{Event, insert, remove, cleanup, query, all, patch, ask, place, Happens, Run, calls_in, accepted}
use Rattle.model.proofs.Laws.Layout.{obeys-tree}
use Rattle.model.proofs.Laws.Calls.{counted_cases, Refusing, other_refusal, sixteen-refusal, Goes, insert_cases, left-refused, left-accepted}
use Rattle.model.proofs.Laws.Calls.{Says, remove-says, cleanup-says, listing-short, listing_done, query-left, all_left}
use Rattle.model.proofs.Laws.Laying.{can_lay-one, lay_can, laid-changes}
use Rattle.model.proofs.Laws.Patch.{patch-goes, patch_cases}

-- ---- a verdict

-- it refuses, or lays the dots and answers a number
abbrev pub Outcome : Shape → List Dot → ℕ → Verdict ℕ ℕ → Type 0
Outcome x ds number verdict =
    ((k : ℕ) × (verdict ≡ refuse k) × Refusing k (x.changes + length ds)) ⊎ (CanLay ds x × (verdict ≡ accept (laid ds x) [] number))

module _ (x : Shape) (v : Valid x) where
  pub insert-outcome : (dot : Dot) → Outcome x (dot ∷ []) (splits_made dot x) (insert_rule dot x)
  insert-outcome dot = ⊎_elim (λ k. inl (k.0, k.1, k.2)) (λ g. inr (can_lay-one dot x v g.0, g.1)) (insert_cases dot x v)

  pub place-outcome : (t : Ticket) → Outcome x (t.dot ∷ []) (splits_made t.dot x) (place_rule t x)
  unfolding place_rule
  place-outcome t =
      by_bool (eqb t.changes x.changes)
      (λ e. rw e (insert-outcome t.dot))
      (λ e. inl (15, rw e refl, other_refusal 15 (x.changes + 1) (omega arith) (omega arith)))

  pub patch-outcome : (p : Patch) → Outcome x (patch_dots p) (length (patch_dots p)) (patch_rule p x)
  unfolding patch_rule
  patch-outcome p =
      let ds = patch_dots p in
      ⊎_elim
      (λ k. inl (14, ap counted k, other_refusal 14 (x.changes + length ds) (omega arith) (omega arith)))
      (λ g.
      let goes = (patch-goes p x v g).0 in
      ⊎_elim
      (λ c. inl (16, ap counted goes ∙ c.0, sixteen-refusal (x.changes + length ds) (omega (arith, c.1, laid-changes ds x))))
      (λ c. inr (g.can, ap counted goes ∙ c.0))
      (counted_cases (laid ds x) [] (length ds)))
      (patch_cases p x v)

  -- an ask is refused as the insert would be, or tells
  pub ask_cases : (dot : Dot) → ((k : ℕ) × (ask_rule dot x ≡ refuse k) × Refusing k (x.changes + 1))
      ⊎ (Goes dot x × (insert_rule dot x ≡ accept (inserted dot x) [] (splits_made dot x)) × (ask_rule dot x ≡ accept x [] (asked_of dot x)))
  unfolding ask_rule
  ask_cases dot =
      ⊎_elim (λ k. inl (k.0, ap (told dot x) k.1, k.2)) (λ g. inr (g.0, g.1, ap (told dot x) g.1)) (insert_cases dot x v)

-- ---- one call

abbrev pub refusal_of : Event → ℕ
refusal_of (insert dot reply) = refusal reply
refusal_of (remove id r reply) = refusal reply
refusal_of (cleanup reply) = refusal reply
refusal_of (query q row row' reply) = refusal reply
refusal_of (all row row' reply) = refusal reply
refusal_of (patch p reply) = refusal reply
refusal_of (ask dot reply) = refusal reply
refusal_of (place t reply) = refusal reply

-- not refused, or with one of the numbers that come after 3
abbrev pub Late : ℕ → Type 0
Late k = (k ≡ 0) ⊎ (4 ≤ k)

-- it is refused, or lays the dots and answers a number
abbrev pub Lays : Shape → List Dot → ℕ → Reply ℕ → Shape → Type 0
Lays x ds number reply y = ((y ≡ x) × (accepted reply ≡ false)) ⊎ ((y ≡ laid ds x) × CanLay ds x × (reply ≡ answered number))

abbrev pub Change : Shape → Event → Shape → Type 0
Change x (insert dot reply) y = Lays x (dot ∷ []) (splits_made dot x) reply y
Change x (remove id r reply) y = Says x (found_by id r x) (removed id r x) reply y
Change x (cleanup reply) y = Says x (cleans x) (cleaned x) reply y
Change x (query q row row' reply) y = y ≡ x
Change x (all row row' reply) y = y ≡ x
Change x (patch p reply) y = Lays x (patch_dots p) (length (patch_dots p)) reply y
Change x (ask dot reply) y = y ≡ x
Change x (place t reply) y = Lays x (t.dot ∷ []) (splits_made t.dot x) reply y

-- of a refusal, or none: it comes after 3, and is 16 only if the count would come to `top`, past the largest
pub record Reason (k top : ℕ) : Type 0 where
  pub late : Late k
  pub sixteen : k ≡ 16 → largest_count < top

pub record Effect (x : Shape) (e : Event) (y : Shape) : Type 0 where
  pub valid : Valid y
  pub change : Change x e y
  pub reason : Reason (refusal_of e) (x.changes + calls_in e)

-- ---- the law

accepts : {n top : ℕ} → n ≡ 0 → Reason n top
accepts z = record { late = inl z; sixteen = λ s. absurd (omega (arith, z, s)) }

refuses : {n k top : ℕ} → n ≡ k → Refusing k top → Reason n top
refuses e r = record { late = inr (omega (arith, e, r.late)); sixteen = λ s. r.sixteen (sym e ∙ s) }

module _ (w v : World) (x : Shape) (h : Holds w x) where
  abbrev Left : Event → Type 0
  Left e = (y : Shape) × Holds v y × Effect x e y

  left : (e : Event) (y : Shape) → Holds v y → Change x e y → Reason (refusal_of e) (x.changes + calls_in e) → Left e
  left e y held change reason = (y, held, record { valid = held.valid; change = change; reason = reason })

  -- by a verdict that refuses or lays the dots
  lays : (ds : List Dot) (number : ℕ) (reply : Reply ℕ) (verdict : Verdict ℕ ℕ) → exit v [] reply ≡ carried_out w [] verdict → Outcome x ds number verdict
      → (y : Shape) × Holds v y × Lays x ds number reply y × Reason (refusal reply) (x.changes + length ds)
  lays ds number reply verdict given cases =
      ⊎_elim
      (λ k.
      let a = left-refused w [] v [] reply x h verdict given k.0 k.1 in
      (x, a.0, inl (refl, ap accepted a.1), refuses (ap refusal a.1) k.2))
      (λ g.
      let a = left-accepted w [] v [] reply x h verdict given (laid ds x) [] number g.1 (lay_can ds x h.valid g.0).1 in
      (laid ds x, a.0, inr (refl, g.0, a.1), accepts (ap refusal a.1)))
      cases

  -- a yes is a change
  says : {yes? : Bool} {other y : Shape} (reply : Reply Bool) → other.changes ≡ x.changes + 1 → Says x yes? other reply y
      → Reason (refusal reply) (x.changes + 1)
  says reply one s =
      ⊎_elim
      (λ no. accepts (ap refusal no.1))
      (⊎_elim
      (λ top. refuses (ap refusal top.1) (sixteen-refusal (x.changes + 1) (omega (arith, top.2))))
      (λ yes. accepts (ap refusal yes.1)))
      s

  -- a call that lists ids leaves the shape
  lists : {A : Type 0} (row row' : List ℕ) (reply : Reply A) (ids : List ℕ) (a : A)
      → exit v row' reply ≡ carried_out w row (listing (length row) x ids a) → Holds v x × Reason (refusal reply) (x.changes + 1)
  lists row row' reply ids a given =
      by_bool (ltb (length row) (length ids))
      (λ e.
      let s = listing-short w row v row' reply x h ids a given e in
      (s.0, refuses (ap refusal s.1) (other_refusal 8 (x.changes + 1) (omega arith) (omega arith))))
      (λ e. let d = listing_done w row v row' reply x h ids a given e in (d.0, accepts (ap refusal d.1)))

  pub step : (e : Event) → Happens w e v → Left e
  unfolding Insert Ask Place removed cleaned
  step (insert dot reply) call =
      let l = lays (dot ∷ []) (splits_made dot x) reply (insert_rule dot x) (obeys-tree (insert_rule dot) w [] (exit v [] reply) call x h)
      (insert-outcome x h.valid dot) in
      left (insert dot reply) l.0 l.1 l.2 l.3
  step (remove id r reply) call =
      let s = remove-says w id r v reply call x h in left (remove id r reply) s.0 s.1 s.2 (says reply refl s.2)
  step (cleanup reply) call = let s = cleanup-says w v reply call x h in left (cleanup reply) s.0 s.1 s.2 (says reply refl s.2)
  step (query q row row' reply) call =
      let l = lists row row' reply (listed q x) (found_in q x) (query-left w q row v row' reply call x h) in
      left (query q row row' reply) x l.0 refl l.1
  step (all row row' reply) call =
      let l = lists row row' reply (all_ids x) (length (all_ids x)) (all_left w row v row' reply call x h) in
      left (all row row' reply) x l.0 refl l.1
  step (patch p reply) call =
      by_bool (patch_fits p)
      (λ e.
      let ds = patch_dots p in
      let l = lays ds (length ds) reply (patch_rule p x) (obeys-tree (patch_rule p) w [] (exit v [] reply) (call.good_patch e) x h)
      (patch-outcome x h.valid p) in
      left (patch p reply) l.0 l.1 l.2 l.3)
      (λ e.
      let a = call.bad_patch e in
      left (patch p reply) x (subst (λ (u : World). Holds u x) (sym a.0) h) (inl (refl, ap accepted a.1))
      (refuses (ap refusal a.1) (other_refusal 13 (x.changes + length (patch_dots p)) (omega arith) (omega arith))))
  step (ask dot reply) call =
      let given = obeys-tree (ask_rule dot) w [] (exit v [] reply) call x h in
      ⊎_elim
      (λ k.
      let a = left-refused w [] v [] reply x h (ask_rule dot x) given k.0 k.1 in
      left (ask dot reply) x a.0 refl (refuses (ap refusal a.1) k.2))
      (λ g.
      let a = left-accepted w [] v [] reply x h (ask_rule dot x) given x [] (asked_of dot x) g.2 h.valid in
      left (ask dot reply) x a.0 refl (accepts (ap refusal a.1)))
      (ask_cases x h.valid dot)
  step (place t reply) call =
      let l = lays (t.dot ∷ []) (splits_made t.dot x) reply (place_rule t x) (obeys-tree (place_rule t) w [] (exit v [] reply) call x h)
      (place-outcome x h.valid t) in
      left (place t reply) l.0 l.1 l.2 l.3

-- ---- a run

abbrev pub Trace : Shape → List Event → Shape → Type 0
Trace x [] y = x ≡ y
Trace x (e ∷ es) y = (z : Shape) × Effect x e z × Trace z es y

pub run-trace : (w : World) (es : List Event) (v : World) (x : Shape) → Holds w x → Run w es v → (y : Shape) × Holds v y × Trace x es y
run-trace w [] v x h run = (x, subst (λ (u : World). Holds u x) run h, refl)
run-trace w (e ∷ es) v x h run =
    let s = step w run.0 x h e run.1 in
    let r = run-trace run.0 es v s.0 s.1 run.2 in
    (r.0, r.1, (s.0, s.2, r.2))
