-- What insert, ask and place leave, by where the insert lands.
--     insert-refused, insert_done  the insert's exits
--     ask-refused, ask-told        the ask's
--     place-stale, place-fresh     the placing's
use Rattle.std.specs.Prelude.{◌≡◌, List, [], ◌≢◌, ℕ, length, replicate, Result, Ok, Err}
use Rattle.std.proofs.Math.Path.{refl, ap, sym}
use Rattle.std.proofs.Common.{◌∙◌, eq-eqb, ne_eqb}
use Rattle.model.specs.declared.Dot.{Dot}
use Rattle.model.specs.declared.State.{State}
use Rattle.model.specs.declared.Ticket.{Ticket}
use Rattle.model.specs.declared.answers.Asked.{Asked}
use Rattle.model.specs.declared.refusal.Refusal.{Refusal}
use Rattle.model.specs.declared.refusal.Refusal.TheVariants.{StaleTicket}
use Rattle.model.specs.Shapes.{Shape, inserted}
use Rattle.model.specs.Layout.{Holds}
use Rattle.model.specs.Calls.{Reply, answered, refuse, overflow, accept, carried_out, insert_rule}
use Rattle.model.specs.Refusals.{refusal_reply}
use Rattle.model.proofs.Laws.Refusals.{by_number-map}
use Rattle.model.specs.Tickets.{asked_of, told, ask_rule, place_rule}
use Rattle.model.proofs.Laws.Layout.{holds-changes}
use Rattle.memory.specs.Lent.{Held, world_of}
use Rattle.tree.specs.declared.find.Leaf.{Leaf}
use Rattle.tree.specs.Operations.{CarriedOut}
use Rattle.tree.proofs.Laws.Operations.{refusal-exit, shaped-exit, same-marks}
use Rattle.tree_insert.specs.declared.landing.Landing.{Landing}
use Rattle.tree_insert.specs.InsertAt.{Starts}
use Rattle.tree_insert.specs.Landing.{Landed, Lands}

module _ {s : State} (dot : Dot) {h : Held} (found : Result Landing Refusal) (lands : Lands s dot h found) where
  landed : (marks : List ℕ) (x : Shape) → Holds (world_of s h marks) x → {r : Result Landing Refusal} → found ≡ r → Landed s dot h marks x r
  landed marks x g e = rw e at (lands marks x g)

  pub insert-refused : {k : Refusal} → found ≡ Err k → CarriedOut (insert_rule dot) s h s h (refusal_reply k)
  insert-refused {k} e marks x g = refusal-exit s h.nodes h.dots h.rects marks (insert_rule dot x) k (landed marks x g e)

  pub ask-refused : {k : Refusal} → found ≡ Err k → CarriedOut (ask_rule dot) s h s h (refusal_reply k)
  unfolding ask_rule
  ask-refused {k} e marks x g =
      refusal-exit s h.nodes h.dots h.rects marks (ask_rule dot x) k (ap (told dot x) (landed marks x g e) ∙ by_number-map (told dot x) refuse overflow k)

  module _ {l : Leaf} {splits : ℕ} (e : found ≡ Ok (record { leaf = l; splits = splits })) where
    pub insert_done : {s' : State} {h' : Held}
        → ((marks : List ℕ) (x : Shape) → Starts s dot h l splits marks x → Holds (world_of s' h' (replicate (length marks) 0)) (inserted dot x))
        → CarriedOut (insert_rule dot) s h s' h' (answered splits)
    insert_done {s'} {h'} after marks x g =
        let at = landed marks x g e in
        shaped-exit s h.nodes h.dots h.rects marks (insert_rule dot x) s' h'.nodes h'.dots h'.rects (inserted dot x) splits (after marks x at.0) at.1

    pub ask-told : CarriedOut (ask_rule dot) s h s h (answered (record { splits = splits; ticket = record { dot = dot; changes = s.changes } }))
    unfolding ask_rule
    ask-told marks x g =
        let at = landed marks x g e in
        let count = holds-changes (world_of s h marks) x g in
        let asked : Asked = record { splits = splits; ticket = record { dot = dot; changes = s.changes } } in
        let same : asked_of dot x ≡ asked = λ i. record { splits = sym at.0.needed i; ticket = record { dot = dot; changes = sym count i } } in
        shaped-exit s h.nodes h.dots h.rects marks (ask_rule dot x) s h.nodes h.dots h.rects x asked (same-marks s h.nodes h.dots h.rects marks x g)
        (ap (told dot x) at.1 ∙ ap (accept x []) same)

-- ---- the placing

module _ {s : State} (t : Ticket) {h : Held} where
  pub place-stale : t.changes ≢ s.changes → CarriedOut (place_rule t) s h s h (refusal_reply StaleTicket)
  unfolding place_rule
  place-stale other marks x g =
      let count = holds-changes (world_of s h marks) x g in
      refusal-exit s h.nodes h.dots h.rects marks (place_rule t x) StaleTicket (rw (ne_eqb t.changes x.changes (λ e. other (e ∙ sym count))) refl)

  pub place-fresh : {s' : State} {h' : Held} {reply : Reply ℕ} → t.changes ≡ s.changes
      → CarriedOut (insert_rule t.dot) s h s' h' reply → CarriedOut (place_rule t) s h s' h' reply
  unfolding place_rule
  place-fresh same done marks x g =
      let count = holds-changes (world_of s h marks) x g in
      let rule : insert_rule t.dot x ≡ place_rule t x = rw (eq-eqb t.changes x.changes (same ∙ count)) refl in
      done marks x g ∙ ap (carried_out (world_of s h marks) []) rule
