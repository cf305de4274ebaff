-- A call's answer is known by its case, the call left what it left, and these bytes were written: the line of the call's reply.
--     refused-line         a refusal as a line
--     make-refused, made           make
--     insert-refused, inserted     insert
--     remove-refused, removed, not-removed     remove
--     cleanup-refused, cleaned, not-cleaned    cleanup
--     query-refused, listed        query
use Rattle.std.specs.Prelude.{◌≡◌, refl, List, [], ◌∷◌, true, false, ℕ, ℤ, Option, Some, None, Result, Ok, Err}
use Rattle.std.proofs.Common.{sym, ◌∙◌, subst}
use Rattle.geometry.specs.declared.aabb.AABB.{AABB}
use Rattle.geometry.specs.declared.settings.Settings.{Settings}
use Rattle.geometry.specs.Settings.{D}
use Rattle.model.specs.declared.Dot.{Dot}
use Rattle.model.specs.declared.Window.{Window}
use Rattle.model.specs.declared.State.{State}
use Rattle.model.specs.Layout.{World, world}
use Rattle.model.specs.declared.refusal.Refusal.{Refusal}
use Rattle.model.specs.declared.answers.Changed.{Changed}
use Rattle.model.specs.Refusals.{number_of, refusal_reply}
use Rattle.model.proofs.Laws.Refusals.{by_number-map, by_number-same}
use Rattle.model.specs.Calls.{Reply, refused, too_many, answered, Make, Insert, Remove, Cleanup, Query}
use Rattle.model.specs.declared.answers.Found.{Found}
use Rattle.model.specs.Answers.{make_state, make_reply, change_reply, change_state, yes_no_reply, yes_no_state, query_reply}
use Rattle.lines.specs.Text.{answer}
use Rattle.lines.specs.Reading.{Output, output, Written}
use Rattle.ticket.specs.Ticket.{refusal_line, reply_line, listing, InsertLine, RemoveLine, CleanupLine, QueryLine}
use Rattle.ticket.specs.First.{going, ended, start_of, MakeLine}

-- a refusal's line is that of its number
pub refused-line : {A : Type 0} (f : A → List ℕ) (e : Refusal) {out : Output} → Written out (refusal_line (number_of e))
    → Written out (reply_line f (refusal_reply e))
refused-line f e {out} l =
    let by : refusal_line (number_of e) ≡ reply_line f (refusal_reply e) =
    by_number-map refusal_line (λ n. n) (λ n. 8) e ∙ sym (by_number-map (reply_line f) refused too_many e) in
    subst (Written out) by l

-- ---- make, whatever the state before it

module _ {x : Settings} {a : Result State Refusal} {nodes dots : List ℕ} {rects : List ℤ} {marks : List ℕ}
    {nodes' dots' : List ℕ} {rects' : List ℤ} {marks' : List ℕ} {out₀ out : List ℕ} {next : ℕ} where
  pub make-refused : {e : Refusal} → a ≡ Err e
      → ((before : State) → Make (world before nodes dots rects marks) x (world (make_state before a) nodes' dots' rects' marks') (make_reply a))
      → Written (output out₀ out next) (refusal_line (number_of e))
      → (before : State) → MakeLine (world before nodes dots rects marks) x (ended next) (world before nodes' dots' rects' marks')
      (output out₀ out next)
  make-refused {e} is h l before = record {
    reply = refusal_reply e;
    call = rw is at (h before);
    goes = sym (by_number-map (λ (r : Reply (Unit {0})). start_of r before next) refused too_many e ∙ by_number-same (ended next) e);
    line = refused-line (λ u. answer 83 (D x ∷ [])) e l;
  }

  pub made : {s : State} {depth : ℕ} → a ≡ Ok s
      → ((before : State) → Make (world before nodes dots rects marks) x (world (make_state before a) nodes' dots' rects' marks') (make_reply a))
      → depth ≡ D x → Written (output out₀ out next) (answer 83 (depth ∷ []))
      → (before : State) → MakeLine (world before nodes dots rects marks) x (going s next) (world s nodes' dots' rects' marks')
      (output out₀ out next)
  made e h d l before =
      let line : Written (output out₀ out next) (answer 83 (D x ∷ [])) = subst (λ (n : ℕ). Written (output out₀ out next) (answer 83 (n ∷ []))) d l in
      record { reply = answered tt; call = rw e at (h before); goes = refl; line = line }

-- ---- the calls that change the tree: w before the call, s its state

module _ {w : World} {nodes dots : List ℕ} {rects : List ℤ} {marks : List ℕ} (s : State) {out : Output} where
  module _ {dot : Dot} {a : Result Changed Refusal} where
    pub insert-refused : {e : Refusal} → a ≡ Err e → Insert w dot (world (change_state s a) nodes dots rects marks) (change_reply a)
        → Written out (refusal_line (number_of e)) → InsertLine w dot (world s nodes dots rects marks) out
    insert-refused {e} is h l = record { reply = refusal_reply e; call = rw is at h; line = refused-line _ e l }

    pub inserted : {c : Changed} → a ≡ Ok c → Insert w dot (world (change_state s a) nodes dots rects marks) (change_reply a)
        → Written out (answer 73 (dot.id ∷ c.number ∷ [])) → InsertLine w dot (world c.state nodes dots rects marks) out
    inserted {c} e h l = record { reply = answered c.number; call = rw e at h; line = l }

  module _ {id : ℕ} {r : AABB} {a : Result (Option State) Refusal} where
    pub remove-refused : {e : Refusal} → a ≡ Err e → Remove w id r (world (yes_no_state s a) nodes dots rects marks) (yes_no_reply a)
        → Written out (refusal_line (number_of e)) → RemoveLine w id r (world s nodes dots rects marks) out
    remove-refused {e} is h l = record { reply = refusal_reply e; call = rw is at h; line = refused-line _ e l }

    pub removed : {s' : State} → a ≡ Ok (Some s') → Remove w id r (world (yes_no_state s a) nodes dots rects marks) (yes_no_reply a)
        → Written out (answer 68 (id ∷ 1 ∷ [])) → RemoveLine w id r (world s' nodes dots rects marks) out
    removed e h l = record { reply = answered true; call = rw e at h; line = l }

    pub not-removed : a ≡ Ok None → Remove w id r (world (yes_no_state s a) nodes dots rects marks) (yes_no_reply a)
        → Written out (answer 68 (id ∷ 0 ∷ [])) → RemoveLine w id r (world s nodes dots rects marks) out
    not-removed e h l = record { reply = answered false; call = rw e at h; line = l }

  module _ {a : Result (Option State) Refusal} where
    pub cleanup-refused : {e : Refusal} → a ≡ Err e → Cleanup w (world (yes_no_state s a) nodes dots rects marks) (yes_no_reply a)
        → Written out (refusal_line (number_of e)) → CleanupLine w (world s nodes dots rects marks) out
    cleanup-refused {e} is h l = record { reply = refusal_reply e; call = rw is at h; line = refused-line _ e l }

    pub cleaned : {s' : State} → a ≡ Ok (Some s') → Cleanup w (world (yes_no_state s a) nodes dots rects marks) (yes_no_reply a)
        → Written out (answer 67 (1 ∷ [])) → CleanupLine w (world s' nodes dots rects marks) out
    cleaned e h l = record { reply = answered true; call = rw e at h; line = l }

    pub not-cleaned : a ≡ Ok None → Cleanup w (world (yes_no_state s a) nodes dots rects marks) (yes_no_reply a)
        → Written out (answer 67 (0 ∷ [])) → CleanupLine w (world s nodes dots rects marks) out
    not-cleaned e h l = record { reply = answered false; call = rw e at h; line = l }

-- ---- query

module _ {w w' : World} {q : Window} {row row' : List ℕ} {out : Output} {a : Result Found Refusal} where
  pub query-refused : {e : Refusal} → a ≡ Err e → Query w q row w' row' (query_reply a) → Written out (refusal_line (number_of e))
      → QueryLine w q row w' row' out
  query-refused {e} is h l = record { reply = refusal_reply e; call = rw is at h; line = refused-line (listing row') e l }

  pub listed : {found : Found} → a ≡ Ok found → Query w q row w' row' (query_reply a)
      → Written out (listing row' found) → QueryLine w q row w' row' out
  listed {found} e h l = record { reply = answered found; call = rw e at h; line = l }
