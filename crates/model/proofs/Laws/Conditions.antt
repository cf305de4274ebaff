-- The conditions of §12.6 and §12.10, both ways round: what a list must be, and nothing else.
--     fine-exactly     an event is fine exactly if it is no accepted insert or placing of an id then live, and no accepted patch with a dot of such an id
--     still-exactly    an event is still exactly if it is no accepted insert or placing, no remove that said yes, and no patch that laid a dot
--     distinct-exactly, quiet-exactly      a list, by each of its events
use Rattle.std.specs.Prelude.{◌≡◌, refl, ◌↔◌, List, [], ◌∷◌, ◌++◌, true, false, ℕ, zero, suc}
use Rattle.std.proofs.Common.{ap, sym, subst, arith}
use Rattle.arithmetic.proofs.Laws.Tests.{true_false}
use Rattle.geometry.specs.declared.aabb.AABB.{AABB}
use Rattle.model.specs.declared.Dot.{Dot}
use Rattle.model.specs.declared.Ticket.{Ticket}
use Rattle.model.specs.declared.patch.Patch.{Patch}
use Rattle.model.specs.Patch.{patch_dots}
use Rattle.model.specs.Calls.{refused, too_many, answered}
use Rattle.model.specs.Book.{Event, insert, remove, cleanup, query, all, patch, ask, place, entered, book_after, book}
use Rattle.model.specs.Book.{Has, Live, Fine, DistinctFrom, Distinct, Still, Quiet}

-- two constructors are never equal
no : {A : Type 0} → ◌≡◌ {A = ℕ} 0 1 → A
no z = absurd (omega arith)

-- ---- one event

-- e is no accepted insert or placing of a live id, and no accepted patch with a dot of a live id
abbrev pub NoneLive : List Dot → Event → Type 0
NoneLive b e =
    ((dot : Dot) (n : ℕ) → e ≡ insert dot (answered n) → ¬ Live dot.id b)
    × ((t : Ticket) (n : ℕ) → e ≡ place t (answered n) → ¬ Live t.dot.id b)
    × ((p : Patch) (n : ℕ) → e ≡ patch p (answered n) → (d : Dot) → Has d (patch_dots p) → ¬ Live d.id b)

fine-if : (b : List Dot) (e : Event) → NoneLive b e → Fine b e
fine-if b (insert dot (answered n)) f = λ a. f.0 dot n refl
fine-if b (insert dot (refused k)) f = λ a. true_false (sym a)
fine-if b (insert dot (too_many k)) f = λ a. true_false (sym a)
fine-if b (remove id r reply) f = tt
fine-if b (cleanup reply) f = tt
fine-if b (query q row row' reply) f = tt
fine-if b (all row row' reply) f = tt
fine-if b (ask dot reply) f = tt
fine-if b (place t (answered n)) f = λ a. f.1 t n refl
fine-if b (place t (refused k)) f = λ a. true_false (sym a)
fine-if b (place t (too_many k)) f = λ a. true_false (sym a)
fine-if b (patch p (answered n)) f = λ a. f.2 p n refl
fine-if b (patch p (refused k)) f = λ a. true_false (sym a)
fine-if b (patch p (too_many k)) f = λ a. true_false (sym a)

pub fine-exactly : (b : List Dot) (e : Event) → Fine b e ↔ NoneLive b e
fine-exactly b e =
    ((λ f. ((λ dot n s. subst (Fine b) s f refl), (λ t n s. subst (Fine b) s f refl), λ p n s. subst (Fine b) s f refl)), fine-if b e)

-- e is no accepted insert or placing, no remove that said yes, and no patch that laid a dot
abbrev pub NoChange : Event → Type 0
NoChange e =
    ((dot : Dot) (n : ℕ) → e ≡ insert dot (answered n) → ⊥)
    × ((t : Ticket) (n : ℕ) → e ≡ place t (answered n) → ⊥)
    × ((id : ℕ) (r : AABB) → e ≡ remove id r (answered true) → ⊥)
    × ((p : Patch) (n : ℕ) → e ≡ patch p (answered (suc n)) → ⊥)

still-if : (e : Event) → NoChange e → Still e
still-if (insert dot (answered n)) f = absurd (f.0 dot n refl)
still-if (insert dot (refused k)) f = refl
still-if (insert dot (too_many k)) f = refl
still-if (remove id r (answered true)) f = absurd (f.2 id r refl)
still-if (remove id r (answered false)) f = refl
still-if (remove id r (refused k)) f = refl
still-if (remove id r (too_many k)) f = refl
still-if (cleanup reply) f = tt
still-if (query q row row' reply) f = tt
still-if (all row row' reply) f = tt
still-if (ask dot reply) f = tt
still-if (place t (answered n)) f = absurd (f.1 t n refl)
still-if (place t (refused k)) f = refl
still-if (place t (too_many k)) f = refl
still-if (patch p (answered zero)) f = refl
still-if (patch p (answered (suc n))) f = absurd (f.3 p n refl)
still-if (patch p (refused k)) f = refl
still-if (patch p (too_many k)) f = refl

pub still-exactly : (e : Event) → Still e ↔ NoChange e
still-exactly e = (
  (λ q. (
    (λ dot n s. true_false (subst Still s q)),
    (λ t n s. true_false (subst Still s q)),
    (λ id r s. true_false (subst Still s q)),
    λ p n s. absurd (omega (arith, subst Still s q)),
  )),
  still-if e,
)

-- ---- a list

-- P of each event of the list, with the events before it
abbrev pub Each : (List Event → Event → Type 0) → List Event → Type 0
Each P es = (before : List Event) (e : Event) (after : List Event) → es ≡ before ++ (e ∷ after) → P before e

distinct-each : (b : List Dot) (es : List Event) → DistinctFrom b es → Each (λ before e. Fine (book_after b before) e) es
distinct-each b [] d [] e after p = no (cc)
distinct-each b [] d (y ∷ ys) e after p = no (cc)
distinct-each b (x ∷ xs) d [] e after p = let same : x ≡ e = cc in subst (λ (y : Event). Fine b y) same d.0
distinct-each b (x ∷ xs) d (y ∷ ys) e after p =
    let same : x ≡ y = cc in
    let rest : xs ≡ ys ++ (e ∷ after) = cc in
    subst (λ (v : Event). Fine (book_after (entered b v) ys) e) same (distinct-each (entered b x) xs d.1 ys e after rest)

each-distinct : (b : List Dot) (es : List Event) → Each (λ before e. Fine (book_after b before) e) es → DistinctFrom b es
each-distinct b [] f = tt
each-distinct b (x ∷ xs) f =
    (f [] x xs refl, each-distinct (entered b x) xs (λ before e after p. f (x ∷ before) e after (ap (λ (l : List Event). x ∷ l) p)))

pub distinct-exactly : (es : List Event) → Distinct es ↔ Each (λ before e. Fine (book before) e) es
distinct-exactly es = (distinct-each [] es, each-distinct [] es)

quiet_each : (es : List Event) → Quiet es → Each (λ before e. Still e) es
quiet_each [] q [] e after p = no (cc)
quiet_each [] q (y ∷ ys) e after p = no (cc)
quiet_each (x ∷ xs) q [] e after p = let same : x ≡ e = cc in subst Still same q.0
quiet_each (x ∷ xs) q (y ∷ ys) e after p = let rest : xs ≡ ys ++ (e ∷ after) = cc in quiet_each xs q.1 ys e after rest

each-quiet : (es : List Event) → Each (λ before e. Still e) es → Quiet es
each-quiet [] f = tt
each-quiet (x ∷ xs) f = (f [] x xs refl, each-quiet xs (λ before e after p. f (x ∷ before) e after (ap (λ (l : List Event). x ∷ l) p)))

pub quiet-exactly : (es : List Event) → Quiet es ↔ Each (λ before e. Still e) es
quiet-exactly es = (quiet_each es, each-quiet es)
