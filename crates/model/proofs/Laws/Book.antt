-- Laws of the book: how often a dot stands in it, as sums of weights.
--     without-sum, but-tree        what a remove that says yes does to every weight
--     has_all, has-sum, count-live, live-count, dead_count, has-dot, has-passing, passing-has    from counts to `Live` and `Has`, and back
--     Told, book-told      the book is told arguments, accepted and yes alone (§12.4): nothing else of an event makes a difference
use Rattle.std.specs.Prelude.{◌≡◌, refl, List, [], ◌∷◌, ◌++◌, map, Bool, true, cond, ℕ, ◌≤◌, eqb}
use Rattle.std.proofs.Common.{ap, sym, ◌∙◌, inl, inr, ⊎_elim, arith, eqb-true}
use Rattle.std.proofs.Math.Decide.{ℕ_discrete, dec_le}
use Rattle.arithmetic.proofs.Laws.Tests.{by_bool}
use Rattle.model.specs.declared.Dot.{Dot}
use Rattle.model.specs.declared.patch.Patch.{Patch}
use Rattle.model.specs.Sums.{indicator, sum_over}
use Rattle.model.specs.Lists.{All, filter}
use Rattle.model.proofs.Laws.Sums.{indicator-same, indicator_other, by_dec}
use Rattle.model.proofs.Laws.Lists.{sum-filter}
use Rattle.model.specs.Trees.{Placed, Tree, sum_dots, dots}
use Rattle.model.proofs.Laws.Trees.{sum_dots-dots}
use Rattle.model.specs.Patch.{patch_dots}
use Rattle.model.specs.Book.{Event, insert, remove, cleanup, query, all, patch, ask, place, accepted, said_yes, without, entered, book_after, Has, Live}
use Rattle.model.proofs.Laws.Dots.{on_dot, id_is, dot_is, same_rect-same}

-- h, but 0 at the id k
abbrev pub but : ℕ → (Dot → ℕ) → Dot → ℕ
but k h d = cond (eqb k d.id) 0 (h d)

-- ---- what is taken out

pub without-sum : (h : Dot → ℕ) (k : ℕ) (b : List Dot) → sum_over h (without k b) ≡ sum_over (but k h) b
without-sum h k [] = refl
without-sum h k (d ∷ ds) =
    by_bool (eqb k d.id) (λ e. rw e (omega (arith, without-sum h k ds))) (λ e. rw e (omega (arith, without-sum h k ds)))

pub without-le : (h : Dot → ℕ) (k : ℕ) (b : List Dot) → sum_over h (without k b) ≤ sum_over h b
without-le h k [] = omega arith
without-le h k (d ∷ ds) =
    by_bool (eqb k d.id) (λ e. rw e (omega (arith, without-le h k ds))) (λ e. rw e (omega (arith, without-le h k ds)))

but_list : (h : Dot → ℕ) (k : ℕ) (ds : List Placed) → sum_over (on_dot (id_is k)) ds ≡ 0 → sum_over (on_dot (but k h)) ds ≡ sum_over (on_dot h) ds
but_list h k [] z = refl
but_list h k (d ∷ ds) z =
    by_bool (eqb k d.dot.id)
    (λ e. absurd (omega (arith, ap (λ (y : ℕ). indicator k y) (sym (eqb-true k d.dot.id e)), indicator-same k)))
    (λ e. rw e (omega (arith, but_list h k ds (omega arith))))

pub but-tree : (h : Dot → ℕ) (k : ℕ) (t : Tree) → sum_dots (on_dot (id_is k)) t ≡ 0 → sum_dots (on_dot (but k h)) t ≡ sum_dots (on_dot h) t
but-tree h k t z = sym (sum_dots-dots (on_dot (but k h)) t) ∙ but_list h k (dots t) (sum_dots-dots (on_dot (id_is k)) t ∙ z) ∙ sum_dots-dots (on_dot h) t

-- ---- counts

-- a dot of the book is counted by any weight that is 1 at it
pub has-sum : (h : Dot → ℕ) (d : Dot) (b : List Dot) → h d ≡ 1 → Has d b → 1 ≤ sum_over h b
has-sum h d [] one has = absurd has
has-sum h d (e ∷ es) one has = ⊎_elim (λ p. omega (arith, one, ap h p)) (λ m. omega (arith, has-sum h d es one m)) has

pub has_all : (P : Dot → Type 0) (b : List Dot) → ((d : Dot) → Has d b → P d) → All P b
has_all P [] f = tt
has_all P (d ∷ ds) f = (f d (inl refl), has_all P ds (λ e has. f e (inr has)))

pub has-dot : (d : Dot) (b : List Dot) → Has d b → 1 ≤ sum_over (dot_is d.id d.rect) b
has-dot d b = has-sum (dot_is d.id d.rect) d b (rw (same_rect-same d.rect) (indicator-same d.id))

pub has-passing : (test : Dot → Bool) (d : Dot) (b : List Dot) → Has d b → test d ≡ true → 1 ≤ sum_over (id_is d.id) (filter test b)
has-passing test d b has pass =
    omega (arith, sum-filter (id_is d.id) test b, has-sum (λ e. cond (test e) (id_is d.id e) 0) d b (rw pass (indicator-same d.id)) has)

pub count-live : (k : ℕ) (b : List Dot) → 1 ≤ sum_over (id_is k) b → Live k b
count-live k [] c = absurd (omega arith)
count-live k (d ∷ ds) c =
    by_dec (ℕ_discrete k d.id)
    (λ e. (d, inl refl, sym e))
    (λ ne. let l = count-live k ds (omega (arith, indicator_other k d.id ne)) in (l.0, inr l.1, l.2))

pub live-count : (k : ℕ) (b : List Dot) → Live k b → 1 ≤ sum_over (id_is k) b
live-count k b live = has-sum (id_is k) live.0 b (ap (indicator k) live.2 ∙ indicator-same k) live.1

pub dead_count : (k : ℕ) (b : List Dot) → ¬ Live k b → sum_over (id_is k) b ≡ 0
dead_count k b n = by_dec (dec_le 1 (sum_over (id_is k) b)) (λ h. absurd (n (count-live k b h))) (λ h. omega arith)

pub passing-has : (test : Dot → Bool) (k : ℕ) (b : List Dot) → 1 ≤ sum_over (id_is k) (filter test b)
    → (d : Dot) × Has d b × (d.id ≡ k) × (test d ≡ true)
passing-has test k [] c = absurd (omega arith)
passing-has test k (d ∷ ds) c =
    by_bool (test d)
    (λ t.
    by_dec (ℕ_discrete k d.id)
    (λ e. (d, inl refl, sym e, t))
    (λ ne. let l = passing-has test k ds (omega (arith, rw t at c, indicator_other k d.id ne)) in (l.0, inr l.1, l.2, l.3)))
    (λ t. let l = passing-has test k ds (rw t at c) in (l.0, inr l.1, l.2, l.3))

-- ---- what the book is told

pub data Told : Type 0 where
  put : Dot → Bool → Told
  tinted : Patch → Bool → Told
  taken : ℕ → Bool → Told
  nothing : Told

abbrev pub told_of : Event → Told
told_of (insert dot reply) = put dot (accepted reply)
told_of (remove id r reply) = taken id (said_yes reply)
told_of (cleanup reply) = nothing
told_of (query q row row' reply) = nothing
told_of (all row row' reply) = nothing
told_of (patch p reply) = tinted p (accepted reply)
told_of (ask dot reply) = nothing
told_of (place t reply) = put t.dot (accepted reply)

abbrev heard : List Dot → Told → List Dot
heard b (put dot yes?) = cond yes? (dot ∷ b) b
heard b (tinted p yes?) = cond yes? (patch_dots p ++ b) b
heard b (taken id yes?) = cond yes? (without id b) b
heard b nothing = b

entered-told : (b : List Dot) (e : Event) → entered b e ≡ heard b (told_of e)
entered-told b (insert dot reply) = refl
entered-told b (remove id r reply) = refl
entered-told b (cleanup reply) = refl
entered-told b (query q row row' reply) = refl
entered-told b (all row row' reply) = refl
entered-told b (patch p reply) = refl
entered-told b (ask dot reply) = refl
entered-told b (place t reply) = refl

-- two lists of events that tell the book the same give the same book
pub book-told : (es fs : List Event) (b : List Dot) → map told_of es ≡ map told_of fs → book_after b es ≡ book_after b fs
book-told es fs b same = all_told es b ∙ ap (fold b) same ∙ sym (all_told fs b)
  where
    fold : List Dot → List Told → List Dot
    fold b [] = b
    fold b (t ∷ ts) = fold (heard b t) ts

    all_told : (es : List Event) (b : List Dot) → book_after b es ≡ fold b (map told_of es)
    all_told [] b = refl
    all_told (e ∷ es) b = ap (λ c. book_after c es) (entered-told b e) ∙ all_told es (heard b (told_of e))
