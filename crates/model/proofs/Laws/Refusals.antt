-- Laws of the refusals.
--     by_number-map    what is said of a refusal, passed through a function
--     by_number-same   what is said of every number alike
--     refusal-number   the number of what a refused call answers
--     number-positive  a number is at least 1
--     refused-accepted a refused call is not accepted
--     reply-plain      a refusal of another number than 8 is answered by its number alone
--     handed-on    what `?` hands on is the refusal that it was given
--     refused-keeps    a rule that refuses keeps the words
use Rattle.std.specs.Prelude.{◌≡◌, refl, List, false, ℕ, ◌≤◌, Result, Err}
use Rattle.std.proofs.Common.{ap, sym, ◌∙◌, lit≤}
use Rattle.arithmetic.proofs.Laws.Tests.{true_false}
use Rattle.std.specs.Result.{IsErrAnd}
use Rattle.std.proofs.lemmas.Result.{err_from_is_err_and}
use Rattle.model.specs.declared.refusal.Refusal.{Refusal}
use Rattle.model.specs.declared.refusal.Refusal.TheVariants.{BadLengths, BadSettings, NoTree, BadRectangle, OutsideRoot, NoFreePlace, NoFreeGroups, ShortRow}
use Rattle.model.specs.declared.refusal.Refusal.TheVariants.{UnknownKind, BadInk, BadGrid, FarCorner, BadPatch, PatchTooLarge, StaleTicket, TooManyChanges}
use Rattle.model.specs.Layout.{World, cleared}
use Rattle.model.specs.Calls.{Reply, refused, too_many, answered, refusal, refuse, overflow, exit, carried_out}
use Rattle.model.specs.Book.{accepted}
use Rattle.model.specs.Refusals.{by_number, number_of, refuses, refusal_reply}

pub by_number-map : {R S : Type 0} (f : R → S) (number answers : ℕ → R) (e : Refusal)
    → f (by_number number answers e) ≡ by_number (λ k. f (number k)) (λ n. f (answers n)) e
by_number-map f number answers BadLengths = refl
by_number-map f number answers BadSettings = refl
by_number-map f number answers NoTree = refl
by_number-map f number answers BadRectangle = refl
by_number-map f number answers OutsideRoot = refl
by_number-map f number answers NoFreePlace = refl
by_number-map f number answers NoFreeGroups = refl
by_number-map f number answers (ShortRow n) = refl
by_number-map f number answers UnknownKind = refl
by_number-map f number answers BadInk = refl
by_number-map f number answers BadGrid = refl
by_number-map f number answers FarCorner = refl
by_number-map f number answers BadPatch = refl
by_number-map f number answers PatchTooLarge = refl
by_number-map f number answers StaleTicket = refl
by_number-map f number answers TooManyChanges = refl

pub by_number-same : {R : Type 0} (r : R) (e : Refusal) → by_number (λ k. r) (λ n. r) e ≡ r
by_number-same r BadLengths = refl
by_number-same r BadSettings = refl
by_number-same r NoTree = refl
by_number-same r BadRectangle = refl
by_number-same r OutsideRoot = refl
by_number-same r NoFreePlace = refl
by_number-same r NoFreeGroups = refl
by_number-same r (ShortRow n) = refl
by_number-same r UnknownKind = refl
by_number-same r BadInk = refl
by_number-same r BadGrid = refl
by_number-same r FarCorner = refl
by_number-same r BadPatch = refl
by_number-same r PatchTooLarge = refl
by_number-same r StaleTicket = refl
by_number-same r TooManyChanges = refl

pub refusal-number : (A : Type 0) (e : Refusal) → refusal {A = A} (refusal_reply e) ≡ number_of e
refusal-number A = by_number-map (refusal {A = A}) refused too_many

pub refused-accepted : (A : Type 0) (e : Refusal) → accepted {A = A} (refusal_reply e) ≡ false
refused-accepted A e = by_number-map (accepted {A = A}) refused too_many e ∙ by_number-same false e

pub number-positive : (e : Refusal) → 1 ≤ number_of e
number-positive BadLengths = lit≤ tt
number-positive BadSettings = lit≤ tt
number-positive NoTree = lit≤ tt
number-positive BadRectangle = lit≤ tt
number-positive OutsideRoot = lit≤ tt
number-positive NoFreePlace = lit≤ tt
number-positive NoFreeGroups = lit≤ tt
number-positive (ShortRow n) = lit≤ tt
number-positive UnknownKind = lit≤ tt
number-positive BadInk = lit≤ tt
number-positive BadGrid = lit≤ tt
number-positive FarCorner = lit≤ tt
number-positive BadPatch = lit≤ tt
number-positive PatchTooLarge = lit≤ tt
number-positive StaleTicket = lit≤ tt
number-positive TooManyChanges = lit≤ tt

by_refusal : {A : Type 0} (r : Reply A) → accepted r ≡ false → ¬ (refusal r ≡ 8) → r ≡ refused (refusal r)
by_refusal (refused k) left other = refl
by_refusal (too_many n) left other = absurd (other refl)
by_refusal (answered a) left other = true_false left

pub reply-plain : (A : Type 0) (e : Refusal) → ¬ (number_of e ≡ 8) → refusal_reply {A = A} e ≡ refused (number_of e)
reply-plain A e other =
    let is = refusal-number A e in
    by_refusal (refusal_reply {A = A} e) (refused-accepted A e) (λ eight. other (sym is ∙ eight)) ∙ ap refused is

pub handed-on : {T : Type 0} {r : Result T Refusal} {e : Refusal} → IsErrAnd r (λ d. d ≡ e) → r ≡ Err e
handed-on {r = r} h = let is = err_from_is_err_and r h in is.1 ∙ ap Err is.2

-- §11.7
pub refused-keeps : {B A : Type 0} (w : World) (row : List B) (e : Refusal)
    → carried_out {A = A} w row (refuses e) ≡ exit (cleared w) row (refusal_reply e)
refused-keeps {A = A} w row e =
    by_number-map (carried_out {A = A} w row) refuse overflow e ∙ sym (by_number-map (exit {A = A} (cleared w) row) refused too_many e)
