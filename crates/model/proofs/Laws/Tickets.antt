-- Ask and place in a list of calls (§21).
--     place-inserts        a placing whose ticket has the state's count is the insert of its dot, on any lent words
--     tickets_hold         THE THEOREM of §21.6
use Rattle.std.specs.Prelude.{◌≡◌, refl, List, [], ◌∷◌, ℕ, eqb}
use Rattle.std.proofs.Common.{ap, sym, ◌∙◌, subst, inl, inr, ⊎_elim, eqb-true, eq-eqb}
use Rattle.arithmetic.proofs.Laws.Tests.{by_bool, true_false}
use Rattle.model.specs.declared.Dot.{Dot}
use Rattle.model.specs.declared.Ticket.{Ticket}
use Rattle.model.specs.declared.answers.Asked.{Asked}
use Rattle.model.specs.Shapes.{Shape, fresh, inserted, splits_made}
use Rattle.model.specs.Layout.{World, groups_of, places_of, Holds}
use Rattle.model.specs.Calls.{Reply, accept, exit, carried_out, insert_rule, Insert}
use Rattle.model.specs.Tickets.{asked_of, ask_rule, place_rule, Ask, Place}
use Rattle.model.specs.Book.{Event, insert, remove, cleanup, query, all, patch, ask, place, Happens, Run, accepted, Tells, Gave, TicketsHold}
use Rattle.model.proofs.Laws.Layout.{holds-changes, obeys-tree}
use Rattle.model.proofs.Laws.Splitting.{made-needed}
use Rattle.model.proofs.Laws.Shapes.{inserted-valid}
use Rattle.model.proofs.Laws.Calls.{left-refused, left-accepted, Goes}
use Rattle.model.proofs.Laws.Effects.{ask_cases, step}
use Rattle.model.proofs.Laws.Counts.{same_count}
use Rattle.model.proofs.Laws.Runs.{made_holds}

-- §21.4
pub place-inserts : (w : World) (t : Ticket) (w' : World) (reply : Reply ℕ) → t.changes ≡ w.state.changes → Place w t w' reply → Insert w t.dot w' reply
unfolding Place place_rule Insert
place-inserts w t w' reply same call =
    record {
      bad_length = call.bad_length;
      bad_settings = call.bad_settings;
      no_tree = call.no_tree;
      tree = λ l s x h.
          let count = eq-eqb t.changes x.changes (same ∙ holds-changes w x h) in
          let rule : place_rule t x ≡ insert_rule t.dot x = rw count refl in
          call.tree l s x h ∙ ap (carried_out w []) rule;
    }

-- an insert of the dot goes, with n splits
abbrev GoesWith : Dot → ℕ → Shape → Type 0
GoesWith dot n x = Goes dot x × (insert_rule dot x ≡ accept (inserted dot x) [] n)

-- what an accepted ask knows
ask_knows : (w : World) (dot : Dot) (v : World) (t : Ticket) (n : ℕ) (reply : Reply Asked) → Ask w dot v reply → Tells t n (ask dot reply)
    → (x : Shape) → Holds w x → Holds v x × (t.dot ≡ dot) × (t.changes ≡ x.changes) × GoesWith dot n x
unfolding Ask
ask_knows w dot v t n reply call tells x h =
    let given = obeys-tree (ask_rule dot) w [] (exit v [] reply) call x h in
    ⊎_elim
    (λ k. true_false (sym (ap accepted tells) ∙ ap accepted (left-refused w [] v [] reply x h (ask_rule dot x) given k.0 k.1).1))
    (λ g.
    let a = left-accepted w [] v [] reply x h (ask_rule dot x) given x [] (asked_of dot x) g.2 h.valid in
    let same : ◌≡◌ {A = Asked} (record { splits = n; ticket = t }) (asked_of dot x) = cc a.1 in
    let splits : splits_made dot x ≡ n = (made-needed dot x g.0.2).0 ∙ sym (ap (λ b. b.splits) same) in
    (a.0, ap (λ b. b.ticket.dot) same, ap (λ b. b.ticket.changes) same, (g.0, g.1 ∙ ap (accept (inserted dot x) []) splits)))
    (ask_cases x h.valid dot)

-- as long as the count is the ticket's, the insert of its dot goes as was told
abbrev Stays : Ticket → ℕ → World → Type 0
Stays t n v = (y : Shape) × Holds v y × (t.changes ≡ y.changes → GoesWith t.dot n y)

-- an ask, and the calls after it
tells-stays : (w : World) (x : Shape) → Holds w x → (e : Event) (u : World) → Happens w e u → (es : List Event) (v : World) → Run u es v
    → (t : Ticket) (n : ℕ) → Tells t n e → Stays t n v
tells-stays w x h (insert dot reply) u call es v run t n tells = absurd tells
tells-stays w x h (remove id r reply) u call es v run t n tells = absurd tells
tells-stays w x h (cleanup reply) u call es v run t n tells = absurd tells
tells-stays w x h (query q row row' reply) u call es v run t n tells = absurd tells
tells-stays w x h (all row row' reply) u call es v run t n tells = absurd tells
tells-stays w x h (patch p reply) u call es v run t n tells = absurd tells
tells-stays w x h (place s reply) u call es v run t n tells = absurd tells
tells-stays w x h (ask dot reply) u call es v run t n tells =
    let k = ask_knows w dot u t n reply call tells x h in
    let r = same_count u x k.0 es v run in
    (r.0, r.1, λ e. subst (GoesWith t.dot n) (r.2 (sym k.2 ∙ e)) (subst (λ (d : Dot). GoesWith d n x) (sym k.1) k.3))

gave-stays : (w : World) (x : Shape) → Holds w x → (es : List Event) (v : World) → Run w es v → (t : Ticket) (n : ℕ) → Gave t n es → Stays t n v
gave-stays w x h [] v run t n gave = absurd gave
gave-stays w x h (e ∷ es) v run t n gave =
    ⊎_elim
    (λ tells. tells-stays w x h e run.0 run.1 es v run.2 t n tells)
    (λ later. let s = step w run.0 x h e run.1 in gave-stays run.0 s.0 s.1 es v run.2 t n later)
    gave

-- THE THEOREM
pub tickets_hold : TicketsHold
unfolding TicketsHold Place place_rule
tickets_hold lent s start m es w run t n gave w' reply call =
    let stays = gave-stays start (fresh s (groups_of lent) (places_of lent)) (made_holds lent s start m) es w run t n gave in
    let y = stays.0 in
    let h = stays.1 in
    let given = obeys-tree (place_rule t) w [] (exit w' [] reply) call y h in
    by_bool (eqb t.changes y.changes)
    (λ e.
    let count = eqb-true t.changes y.changes e in
    let goes = stays.2 count in
    let valid = inserted-valid t.dot y h.valid goes.0.0 goes.0.1 goes.0.2 in
    let said = (left-accepted w [] w' [] reply y h (place_rule t y) given (inserted t.dot y) [] n (rw e goes.1) valid).1 in
    inr (said, subst (Insert w t.dot w') said (place-inserts w t w' reply (count ∙ sym (holds-changes w y h)) call)))
    (λ e. inl (left-refused w [] w' [] reply y h (place_rule t y) given 15 (rw e refl)).1)
