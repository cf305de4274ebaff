-- The refusals, by their numbers (§11.1).
--     by_number    what is said of a refusal, by its number; of 8 by how many answers there are (§11.5)
--     number_of    its number
--     refuses      what a rule says that refuses
--     refusal_reply        what a refused call answers
--     reply        a call's answer, by what it tells where it is not refused
--     refusal_number       the number of an answer's refusal, 0 where it is none
use Rattle.std.specs.Prelude.{ℕ, Result, Ok, Err}
use Rattle.model.specs.declared.refusal.Refusal.{Refusal}
use Rattle.model.specs.declared.refusal.Refusal.TheVariants.{BadLengths, BadSettings, NoTree, BadRectangle, OutsideRoot, NoFreePlace, NoFreeGroups, ShortRow}
use Rattle.model.specs.declared.refusal.Refusal.TheVariants.{UnknownKind, BadInk, BadGrid, FarCorner, BadPatch, PatchTooLarge, StaleTicket, TooManyChanges}
use Rattle.model.specs.Calls.{Reply, refused, too_many, answered, Verdict, refuse, overflow}

abbrev pub by_number : {R : Type 0} → (ℕ → R) → (ℕ → R) → Refusal → R
by_number number answers BadLengths = number 1
by_number number answers BadSettings = number 2
by_number number answers NoTree = number 3
by_number number answers BadRectangle = number 4
by_number number answers OutsideRoot = number 5
by_number number answers NoFreePlace = number 6
by_number number answers NoFreeGroups = number 7
by_number number answers (ShortRow n) = answers n
by_number number answers UnknownKind = number 9
by_number number answers BadInk = number 10
by_number number answers BadGrid = number 11
by_number number answers FarCorner = number 12
by_number number answers BadPatch = number 13
by_number number answers PatchTooLarge = number 14
by_number number answers StaleTicket = number 15
by_number number answers TooManyChanges = number 16

abbrev pub number_of : Refusal → ℕ
number_of = by_number (λ k. k) (λ n. 8)

abbrev pub refuses : {B A : Type 0} → Refusal → Verdict B A
refuses = by_number refuse overflow

abbrev pub refusal_reply : {A : Type 0} → Refusal → Reply A
refusal_reply = by_number refused too_many

abbrev pub reply : {A B : Type 0} → (A → B) → Result A Refusal → Reply B
reply tells (Ok a) = answered (tells a)
reply tells (Err e) = refusal_reply e

abbrev pub refusal_number : {A : Type 0} → Result A Refusal → ℕ
refusal_number (Ok a) = 0
refusal_number (Err e) = number_of e
