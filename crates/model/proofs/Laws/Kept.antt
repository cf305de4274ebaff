-- Demand 1 along a run: what each of its calls keeps.
--     Kept         a call is not refused 1, 2 or 3; if refused it leaves state, nodes, dots, rects and its row as they were; the marks are 0 after it
--                  (a patch refused 13 leaves the whole world as it was, §20.5)
--     run-kept     every call of a run from a tree
use Rattle.std.specs.Prelude.{◌≡◌, List, [], ◌∷◌, true, false, ℕ, ◌≤◌, length, replicate}
use Rattle.std.proofs.Common.{inl, ⊎_elim, arith}
use Rattle.model.specs.Shapes.{Shape}
use Rattle.model.specs.Layout.{World, Holds}
use Rattle.model.specs.Calls.{refused, refusal, Verdict, Exit, exit, Obeys}
use Rattle.model.specs.Calls.{insert_rule, remove_rule, cleanup_rule, query_rule, all_rule, Insert, Remove, Cleanup, Query, All}
use Rattle.model.specs.Patch.{patch_fits, patch_rule}
use Rattle.model.specs.Tickets.{ask_rule, place_rule, Ask, Place}
use Rattle.model.specs.Book.{Event, insert, remove, cleanup, query, all, patch, ask, place, Happens, Run}
use Rattle.model.proofs.Laws.Pattern.{Untouched, refused-untouched, marks-cleared}
use Rattle.model.proofs.Laws.Effects.{refusal_of, Late, step}

pub record KeptBy {B A : Type 0} (w : World) (row : List B) (e : Exit B A) : Type 0 where
  pub late : Late (refusal e.reply)
  pub untouched : 1 ≤ refusal e.reply → Untouched w row e
  pub marks : (n : ℕ) × (e.world.marks ≡ replicate n 0)

abbrev pub Kept : World → Event → World → Type 0
Kept w (insert dot reply) v = KeptBy {B = ℕ} w [] (exit v [] reply)
Kept w (remove id r reply) v = KeptBy {B = ℕ} w [] (exit v [] reply)
Kept w (cleanup reply) v = KeptBy {B = ℕ} w [] (exit v [] reply)
Kept w (query q row row' reply) v = KeptBy w row (exit v row' reply)
Kept w (all row row' reply) v = KeptBy w row (exit v row' reply)
Kept w (ask dot reply) v = KeptBy {B = ℕ} w [] (exit v [] reply)
Kept w (place t reply) v = KeptBy {B = ℕ} w [] (exit v [] reply)
Kept w (patch p reply) v = (patch_fits p ≡ false → (v ≡ w) × (reply ≡ refused 13)) × (patch_fits p ≡ true → KeptBy {B = ℕ} w [] (exit v [] reply))

-- a call on a tree: it is refused neither 1 nor 2
kept_by : {B A : Type 0} (rule : Shape → Verdict B A) (w : World) (row : List B) (e : Exit B A) (x : Shape) → Holds w x
    → Late (refusal e.reply) → Obeys true rule w row e → KeptBy w row e
kept_by rule w row e x h late o =
    record {
      late = late;
      untouched = refused-untouched true rule w row e (inl (x, h)) o;
      marks =
          marks-cleared true rule w row e (inl (x, h)) o
          (λ one. ⊎_elim (λ z. omega (arith, z, one)) (λ m. omega (arith, m, one)) late)
          (λ two. ⊎_elim (λ z. omega (arith, z, two)) (λ m. omega (arith, m, two)) late);
    }

step_kept : (w : World) (e : Event) (v : World) (x : Shape) → Holds w x → Happens w e v → Late (refusal_of e) → Kept w e v
unfolding Insert Remove Cleanup Query All Ask Place
step_kept w (insert dot reply) v x h call late = kept_by (insert_rule dot) w [] (exit v [] reply) x h late call
step_kept w (remove id r reply) v x h call late = kept_by (remove_rule id r) w [] (exit v [] reply) x h late call
step_kept w (cleanup reply) v x h call late = kept_by cleanup_rule w [] (exit v [] reply) x h late call
step_kept w (query q row row' reply) v x h call late = kept_by (query_rule q (length row)) w row (exit v row' reply) x h late call
step_kept w (all row row' reply) v x h call late = kept_by (all_rule (length row)) w row (exit v row' reply) x h late call
step_kept w (ask dot reply) v x h call late = kept_by (ask_rule dot) w [] (exit v [] reply) x h late call
step_kept w (place t reply) v x h call late = kept_by (place_rule t) w [] (exit v [] reply) x h late call
step_kept w (patch p reply) v x h call late = (call.bad_patch, λ e. kept_by (patch_rule p) w [] (exit v [] reply) x h late (call.good_patch e))

-- P of each call of a run, with the worlds before and after it
abbrev pub EachCall : (World → Event → World → Type 0) → (w : World) (es : List Event) (w' : World) → Run w es w' → Type 0
EachCall P w [] w' run = Unit {0}
EachCall P w (e ∷ es) w' run = P w e run.0 × EachCall P run.0 es w' run.2

pub run-kept : (w : World) (x : Shape) → Holds w x → (es : List Event) (w' : World) (run : Run w es w') → EachCall Kept w es w' run
run-kept w x h [] w' run = tt
run-kept w x h (e ∷ es) w' run =
    let next = step w run.0 x h e run.1 in
    (step_kept w e run.0 x h run.1 next.2.reason.late, run-kept run.0 next.0 next.1 es w' run.2)
