-- Quiet calls change a tree by cleanups alone (§12.10).
--     cleans-no, no-cleans a cleanup says no exactly if no branch holds five empty leaves
--     still-change         a quiet call leaves the shape as it was, or is a cleanup
--     quiet_keeps          what a cleanup keeps, quiet calls keep
--     quiet-tidy           each cleanup among them that is not refused takes a level off the branches that hold no dot
use Rattle.std.specs.Prelude.{◌≡◌, refl, ◌≢◌, ◌⊎◌, List, [], ◌∷◌, Bool, false, not, ℕ, zero, suc, ◌+◌, length}
use Rattle.std.proofs.Common.{ap, sym, ◌∙◌, subst, inl, inr, ⊎_elim, arith}
use Rattle.arithmetic.proofs.Laws.Tests.{true_false}
use Rattle.model.specs.declared.Dot.{Dot}
use Rattle.model.specs.Lists.{All}
use Rattle.model.specs.Cleanup.{is_zero, turned}
use Rattle.model.specs.Shapes.{Shape, cleaned, cleans}
use Rattle.model.specs.Calls.{Reply, refusal, answered}
use Rattle.model.specs.Laying.{laid}
use Rattle.model.specs.Patch.{patch_dots}
use Rattle.model.specs.Book.{Event, insert, remove, cleanup, query, all, patch, ask, place, accepted, said_yes, laid_by, Still, Quiet, cleanups}
use Rattle.model.proofs.Laws.Query.{Clean}
use Rattle.model.proofs.Laws.Cleanup.{no-clean, clean-no, Tidy, tidy_any, tidy-clean, clean-tidy}
use Rattle.model.proofs.Laws.Calls.{Says}
use Rattle.model.proofs.Laws.Effects.{Lays, Change, refusal_of, Trace}

-- ---- the cleanup's answer

not-false : (n : ℕ) → not (is_zero n) ≡ false → n ≡ 0
not-false zero e = refl
not-false (suc n) e = true_false e

pub cleans-no : (x : Shape) → cleans x ≡ false → Clean x.tree
unfolding cleans
cleans-no x e = no-clean x.tree (not-false (turned x.tree) e)

pub no-cleans : (x : Shape) → Clean x.tree → cleans x ≡ false
unfolding cleans
no-cleans x c = ap (λ (n : ℕ). not (is_zero n)) (clean-no x.tree c)

-- ---- one call

-- a call that laid no dot
still-lays : (x : Shape) (ds : List Dot) (number : ℕ) (reply : Reply ℕ) (y : Shape) → Lays x ds number reply y → (reply ≡ answered number → ds ≡ []) → y ≡ x
still-lays x ds number reply y l none = ⊎_elim (λ no. no.0) (λ yes. yes.0 ∙ ap (λ es. laid es x) (none yes.2)) l

-- the shape is as it was; or the call is a cleanup
still-change : (x : Shape) (e : Event) (es : List Event) (y : Shape) → Change x e y → Still e
    → ((y ≡ x) × (cleanups (e ∷ es) ≡ cleanups es)) ⊎ ((reply : Reply Bool) × (e ≡ cleanup reply) × Says x (cleans x) (cleaned x) reply y)
still-change x (insert dot reply) es y c q = inl (still-lays x (dot ∷ []) _ reply y c (λ a. true_false (sym (ap accepted a) ∙ q)), refl)
still-change x (remove id r reply) es y c q =
    inl (⊎_elim (λ no. no.0) (⊎_elim (λ top. top.0) (λ yes. true_false (sym (ap said_yes yes.1) ∙ q))) c, refl)
still-change x (cleanup reply) es y c q = inr (reply, refl, c)
still-change x (query r row row' reply) es y c q = inl (c, refl)
still-change x (all row row' reply) es y c q = inl (c, refl)
still-change x (patch p reply) es y c q = inl (still-lays x (patch_dots p) _ reply y c (λ a. none (patch_dots p) (sym (ap laid_by a) ∙ q)), refl)
  where
    none : (ds : List Dot) → length ds ≡ 0 → ds ≡ []
    none [] z = refl
    none (d ∷ ds) z = absurd (omega arith)
still-change x (ask dot reply) es y c q = inl (c, refl)
still-change x (place t reply) es y c q = inl (still-lays x (t.dot ∷ []) _ reply y c (λ a. true_false (sym (ap accepted a) ∙ q)), refl)

-- ---- a list

pub quiet_keeps : (P : Shape → Type 0) → ((x : Shape) → P x → P (cleaned x))
    → (x : Shape) (es : List Event) (y : Shape) → Trace x es y → Quiet es → P x → P y
quiet_keeps P clean x [] y t q p = subst P t p
quiet_keeps P clean x (e ∷ es) y t q p =
    quiet_keeps P clean t.0 es y t.2 q.1
    (⊎_elim
    (λ s. rw s.0 p)
    (λ s. ⊎_elim (λ no. rw no.0 p) (⊎_elim (λ top. rw top.0 p) (λ yes. rw yes.0 (clean x p))) s.2)
    (still-change x e es t.0 t.1.change q.0))

-- a cleanup that is not refused
cleanup-tidy : (n : ℕ) (x : Shape) (reply : Reply Bool) (y : Shape) → Says x (cleans x) (cleaned x) reply y → refusal reply ≢ 16
    → Tidy (1 + n) x.tree → Tidy n y.tree
unfolding cleaned
cleanup-tidy n x reply y s few d =
    let one : 1 + n ≡ suc n = omega arith in
    ⊎_elim
    (λ no. rw no.0 (tidy_any n x.tree (clean-tidy x.tree (cleans-no x no.2))))
    (⊎_elim (λ top. absurd (few (ap refusal top.1))) (λ yes. rw yes.0 (tidy-clean n x.tree (subst (λ (k : ℕ). Tidy k x.tree) one d))))
    s

pub quiet-tidy : (x : Shape) (es : List Event) (y : Shape) → Trace x es y → Quiet es → All (λ e. refusal_of e ≢ 16) es
    → Tidy (cleanups es) x.tree → Tidy 0 y.tree
quiet-tidy x [] y t q few d = subst (λ (z : Shape). Tidy 0 z.tree) t d
quiet-tidy x (e ∷ es) y t q few d =
    quiet-tidy t.0 es y t.2 q.1 few.1
    (⊎_elim
    (λ s. rw s.0 (rw s.1 at d))
    (λ s.
    cleanup-tidy (cleanups es) x s.0 t.0 s.2 (subst (λ (f : Event). refusal_of f ≢ 16) s.1 few.0)
    (subst (λ (f : Event). Tidy (cleanups (f ∷ es)) x.tree) s.1 d))
    (still-change x e es t.0 t.1.change q.0))
