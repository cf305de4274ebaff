-- Laws of the lines of calls.
--     call_of, call_back      the call of a letter and its numbers
--     call-some, call-last    a call whose fields were read, to the end of the bytes
--     call-none, call-more    with fields unread, or bytes after them, it is no call
--     insert-none, insert-last      the same of I, where an ink may follow
--     settings-last           the fields of S
--     call-nothing            the letter alone
use Rattle.std.specs.Prelude.{◌≡◌, refl, List, [], ◌∷◌, ◌++◌, Bool, Option, Some, None, cond, ℕ, ◌+◌, ℤ, pos, nat_abs, eqb}
use Rattle.std.specs.Prelude.{length, get_or}
use Rattle.std.specs.Bool.{then_some}
use Rattle.std.proofs.Common.{ap, sym, subst, ◌∙◌, eqb-true}
use Rattle.std.proofs.lemmas.Bool.{eqb-false}
use Rattle.arithmetic.proofs.Laws.Tests.{by_bool}
use Rattle.geometry.specs.declared.aabb.AABB.{AABB}
use Rattle.geometry.specs.declared.settings.Settings.{Settings as Made}
use Rattle.model.specs.declared.Dot.{Dot}
use Rattle.lines.specs.Text.{Kind, u32, WithinAll, fields}
use Rattle.lines.specs.Reading.{Ends, Reads}
use Rattle.lines.specs.Lines.{letter, kinds, values, four, three, CallOf}
use Rattle.lines.proofs.Laws.Fields.{reads_then, reads_less, all-read, unread, overlong}
use Rattle.lines.specs.declared.line.Call.{Call}
use Rattle.lines.specs.declared.line.Call.TheVariants.{Settings, Insert, InsertInk, Remove, Cleanup, Query}

-- ---- the call of a letter and its numbers

abbrev at : List ℤ → ℕ → ℤ
at zs i = get_or zs i (pos 0)

abbrev rect_at : List ℤ → ℕ → AABB
rect_at zs i = record { x1 = at zs i; y1 = at zs (1 + i); x2 = at zs (2 + i); y2 = at zs (3 + i) }

-- an insert of six numbers has an ink
abbrev insert_of : List ℤ → Call
insert_of zs =
    cond (eqb (length zs) 6)
    (InsertInk (record { id = nat_abs (at zs 0); rect = rect_at zs 1; ink = nat_abs (at zs 5) }))
    (Insert (nat_abs (at zs 0)) (rect_at zs 1))

abbrev pub call_of : ℕ → List ℤ → Call
call_of l zs =
    cond (eqb l 83)
    (Settings (record {
      left = at zs 0;
      top = at zs 1;
      width = at zs 2;
      height = at zs 3;
      depth_limit = nat_abs (at zs 4);
      leaf_limit = nat_abs (at zs 5);
      smallest_cell = nat_abs (at zs 6);
    }))
    (cond (eqb l 73) (insert_of zs)
    (cond (eqb l 68) (Remove (nat_abs (at zs 0)) (rect_at zs 1)) (cond (eqb l 67) Cleanup (Query (rect_at zs 0)))))

pub call_back : (c : Call) → call_of (letter c) (values c) ≡ c
call_back (Settings s) = refl
call_back (Insert id r) = refl
call_back (InsertInk d) = refl
call_back (Remove id r) = refl
call_back Cleanup = refl
call_back (Query r) = refl

-- ---- what follows the letter

-- no numbers of a call of the letter
no_call : {l : ℕ} {bytes : List ℕ} → ((zs : List ℤ) → WithinAll (kinds (call_of l zs)) zs → fields zs ≡ bytes → ⊥) → CallOf l bytes None
no_call {l} none = λ c same fits e.
    let is : c ≡ call_of l (values c) = sym (call_back c) ∙ ap (λ (k : ℕ). call_of k (values c)) same in
    none (values c) (subst (λ (d : Call). WithinAll (kinds d) (values c)) is fits) e

-- the numbers of each call of the letter begin with these types
abbrev pub Begun : ℕ → List Kind → Type 0
Begun l ks = (zs : List ℤ) → (ls : List Kind) × (kinds (call_of l zs) ≡ ks ++ ls)

pub call-none : {l : ℕ} {ks : List Kind} {bytes rest : List ℕ} → Begun l ks → Reads ks bytes None rest → CallOf l bytes None
call-none {l} {ks} {rest = rest} begun p = no_call (λ zs fits e.
    let (ls, same) = begun zs in
    unread {rest = rest} (reads_less ls p) zs (subst (λ (types : List Kind). WithinAll types zs) same fits) e)

-- the lines of the letter all have numbers of these types
abbrev pub OneForm : ℕ → List Kind → Type 0
OneForm l ks = (zs : List ℤ) → kinds (call_of l zs) ≡ ks

module _ (c : Call) {bytes rest : List ℕ} (p : Reads (kinds c) bytes (Some (values c)) rest) where
  pub call-some : length rest ≡ 0 → CallOf (letter c) bytes (Some c)
  call-some e = let s = all-read p e in (refl, s.0, s.1)

  pub call-more : OneForm (letter c) (kinds c) → (length rest ≡ 0 → ⊥) → CallOf (letter c) bytes None
  call-more one more =
      no_call (λ zs fits e. overlong p more zs (subst (λ (types : List Kind). WithinAll types zs) (one zs) fits) e)

  pub call-last : {last : Bool} {r : Option Call} → OneForm (letter c) (kinds c) → last ≡ eqb (length rest) 0 → r ≡ then_some last c
      → CallOf (letter c) bytes r
  call-last {last} {r} one e is =
      by_bool (eqb (length rest) 0)
      (λ t. rw (is, e, t) (call-some (eqb-true (length rest) 0 t)))
      (λ f. rw (is, e, f) (call-more one (eqb-false (length rest) 0 f)))

-- the fields of S: four integers, each as it is read back from its bits, and three numbers
pub settings-last : {s : Made} {bytes r₁ r₂ : List ℕ} {a b c d : ℤ} {last : Bool} {r : Option Call} → r ≡ then_some last (Settings s)
    → last ≡ eqb (length r₂) 0 → Reads four bytes (Some (a ∷ b ∷ c ∷ d ∷ [])) r₁
    → Reads three r₁ (Some (pos s.depth_limit ∷ pos s.leaf_limit ∷ pos s.smallest_cell ∷ [])) r₂
    → s.left ≡ a → s.top ≡ b → s.width ≡ c → s.height ≡ d → CallOf 83 bytes r
settings-last {s} {r₂ = r₂} is e root limits ea eb ec ed =
    call-last (Settings s) (rw (ea, eb, ec, ed) (reads_then root limits)) (λ zs. refl) e is

pub call-nothing : {bytes : List ℕ} → Reads [] bytes (Some []) bytes
unfolding fields
call-nothing {bytes} = record { sound = λ ys e. let none : [] ≡ ys = cc in rw (← none) (tt, refl); complete = whole }
  where
    whole : (ys : List ℤ) (tail : List ℕ) → WithinAll [] ys → Ends tail → bytes ≡ fields ys ++ tail → (Some [] ≡ Some ys) × (bytes ≡ tail)
    whole [] tail w h e = (refl, e)
    whole (y ∷ ys) tail w h e = absurd w

-- ---- an insert, with an ink or without

module _ {id : ℕ} {r : AABB} {bytes rest : List ℕ} (p : Reads (kinds (Insert id r)) bytes (Some (values (Insert id r))) rest)
    (more : length rest ≡ 0 → ⊥) where
  pub insert-none : {rest' : List ℕ} → Reads (u32 ∷ four ++ (u32 ∷ [])) bytes None rest' → CallOf 73 bytes None
  insert-none q = no_call (λ zs fits e.
      by_bool (eqb (length zs) 6) (λ six. unread q zs (rw six at fits) e) (λ other. overlong p more zs (rw other at fits) e))

  insert-more : (dot : Dot) {rest' : List ℕ} → Reads (kinds (InsertInk dot)) bytes (Some (values (InsertInk dot))) rest' → (length rest' ≡ 0 → ⊥)
      → CallOf 73 bytes None
  insert-more dot q after = no_call (λ zs fits e.
      by_bool (eqb (length zs) 6) (λ six. overlong q after zs (rw six at fits) e) (λ other. overlong p more zs (rw other at fits) e))

  pub insert-last : (dot : Dot) {rest' : List ℕ} {last : Bool} {r : Option Call}
      → Reads (kinds (InsertInk dot)) bytes (Some (values (InsertInk dot))) rest' → last ≡ eqb (length rest') 0
      → r ≡ then_some last (InsertInk dot) → CallOf 73 bytes r
  insert-last dot {rest'} q e is =
      by_bool (eqb (length rest') 0)
      (λ t. rw (is, e, t) (call-some (InsertInk dot) q (eqb-true (length rest') 0 t)))
      (λ f. rw (is, e, f) (insert-more dot q (eqb-false (length rest') 0 f)))
