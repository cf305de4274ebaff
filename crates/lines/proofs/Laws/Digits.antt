-- Laws of decimal text.
--     digits-few, digits_more                  the two cases of printing
--     decimal-std                              std's decimal text, which itoa prints, is the same
--     digits-length, decimal-two  how many there are; two at most of a number below 100
--     digits-plain                             each byte is a digit's code or above
--     digits_value                             added up, the digits give the number
--     natural-part                             a part is read exactly if it is a number's text
--     minus_none, minus-zero, minus_some       the same of an integer's with a minus sign
--     first-byte, same_head, same-tail         bytes by their first
use Rattle.std.specs.Prelude.{◌≡◌, refl, List, [], ◌∷◌, ◌++◌, Bool, true, false, Option, Some, None, ℕ, zero, suc, ◌+◌, ◌-◌, ◌/◌, ◌%◌, ◌^◌, ◌≤◌, ◌<◌}
use Rattle.std.specs.Prelude.{ℤ, pos, negsuc, neg_ℤ, ◌-ℤ◌}
use Rattle.std.specs.Prelude.{nat_abs, ltb, length, take, drop, get_or, option_map}
use Rattle.std.specs.Bool.{then_some}
use Rattle.std.proofs.Common.{ap, ap₂, sym, subst, ◌∙◌, pow-suc, div-add-mod', mod-eq_of_lt, arith, sub-one, length-append, take_all}
use Rattle.std.proofs.Common.{ltb-true, ltb-false, lt-ltb, le-ltb}
use Rattle.std.proofs.lemmas.Fmt.{AppendsLastDigit, decimal_from_appends, length-decimal-le}
use Rattle.std.proofs.Math.Nat.{suc_inj}
use Rattle.std.specs.Fmt as std_fmt
use Rattle.std.specs.Option.{SomeIff}
use Rattle.std.specs.Prelude.{FitsSigned}
use Rattle.std.proofs.Common.{w32}
use lib.IntN.{+ℤ_idl}
use Rattle.arithmetic.proofs.Laws.Tests.{by_bool}
use Rattle.lines.specs.Text.{digits, decimal, number, u32, i32, Within}
use Rattle.lines.specs.Reading.{Part, shifted, value_from}

pub digits-few : (places n : ℕ) → (places ≡ 0 → ⊥) → n < 10 → digits places n ≡ (48 + n) ∷ []
unfolding digits
digits-few zero n e h = absurd (e refl)
digits-few (suc k) n e h = rw (lt-ltb n 10 h)

pub digits_more : (places n : ℕ) → (places ≡ 0 → ⊥) → 10 ≤ n
    → digits places n ≡ digits (places - 1) (n / 10) ++ ((48 + n % 10) ∷ [])
unfolding digits
digits_more zero n e h = absurd (e refl)
digits_more (suc k) n e h = rw (le-ltb n 10 h, sub-one)

-- std's decimal text, which has no bound on the places
pub decimal-std : (n : ℕ) → n < 2 ^ 32 → std_fmt.decimal n ≡ decimal n
decimal-std n small = sym (decimal_from_appends digits last 10 n (omega arith) (length-decimal-le 10 n (omega arith) (omega arith) (omega arith)))
  where
    last : AppendsLastDigit digits
    last = record { one = λ k m h. digits-few (suc k) m (λ e. omega arith) h; more = λ k m h. digits_more (suc k) m (λ e. omega arith) h ∙ rw sub-one }

pub digits-length : (places n : ℕ) → length (digits places n) ≤ places
unfolding digits
digits-length zero n = omega arith
digits-length (suc k) n =
    by_bool (ltb n 10) (λ t. rw t (omega arith))
    (λ f. rw f (simp length-append (omega (arith, digits-length k (n / 10)))))

pub decimal-two : (n : ℕ) → n < 100 → length (decimal n) ≤ 2
decimal-two n h =
    by_bool (ltb n 10) (λ t. omega (arith, ap length (digits-few 10 n (λ e. omega arith) (ltb-true n 10 t))))
    (λ f. let all = ap length (digits_more 10 n (λ e. omega arith) (ltb-false n 10 f)) in
    let front = ap length (digits-few 9 (n / 10) (λ e. omega arith) (omega arith)) in
    omega (arith, all, length-append (digits 9 (n / 10)) ((48 + n % 10) ∷ []), front))

-- each byte is at least the code of 0
abbrev pub Plain : List ℕ → Type 0
Plain [] = Unit {0}
Plain (b ∷ bs) = (48 ≤ b) × Plain bs

plain_snoc : (bs : List ℕ) (b : ℕ) → Plain bs → 48 ≤ b → Plain (bs ++ (b ∷ []))
plain_snoc [] b p h = (h, tt)
plain_snoc (a ∷ bs) b p h = (p.0, plain_snoc bs b p.1 h)

pub digits-plain : (places n : ℕ) → Plain (digits places n)
unfolding digits
digits-plain zero n = tt
digits-plain (suc k) n =
    by_bool (ltb n 10) (λ t. rw t (omega arith, tt))
    (λ f. rw f (plain_snoc (digits k (n / 10)) (48 + n % 10) (digits-plain k (n / 10)) (omega arith)))

value_snoc : (bs : List ℕ) (v b : ℕ) → value_from v (bs ++ (b ∷ [])) ≡ shifted (value_from v bs) b
value_snoc [] v b = refl
value_snoc (a ∷ bs) v b = value_snoc bs (shifted v a) b

pub digits_value : (places n : ℕ) → n < 10 ^ places → n < 2 ^ 32 → value_from 0 (digits places n) ≡ n
unfolding digits
digits_value zero n few small = omega arith
digits_value (suc k) n few small =
    by_bool (ltb n 10) (λ t. rw t (omega (arith, ltb-true n 10 t)))
    (λ f. let less : n / 10 < 10 ^ k = omega (arith, pow-suc 10 k) in
    let rest : value_from 0 (digits k (n / 10)) ≡ n / 10 = digits_value k (n / 10) less (omega arith) in
    let last : (48 + n % 10) % 16 ≡ n % 10 = omega arith in
    rw f (value_snoc (digits k (n / 10)) 0 (48 + n % 10) ∙ rw (rest, last, div-add-mod') (mod-eq_of_lt small)))

-- ---- a part read as a number

-- the bytes are added up to v, and v's text is held against the bytes
pub natural-part : (bytes : List ℕ) (v : ℕ) (same? : Bool) → v < 2 ^ 32 → v ≡ value_from 0 bytes
    → (same? ≡ true → decimal v ≡ bytes) × (decimal v ≡ bytes → same? ≡ true) → Part u32 bytes (option_map pos (then_some same? v))
natural-part bytes v same? small e same = record { sound = whole-sound same? same.0; complete = whole }
  where
    whole-sound : (same? : Bool) → (same? ≡ true → decimal v ≡ bytes) → (y : ℤ) → option_map pos (then_some same? v) ≡ Some y
        → Within u32 y × (number y ≡ bytes)
    whole-sound true is y q = let pos-v : pos v ≡ y = cc in subst (λ (z : ℤ). Within u32 z × (number z ≡ bytes)) pos-v (small, is refl)
    whole-sound false is y q = absurd (cc)

    whole : (y : ℤ) → Within u32 y → number y ≡ bytes → option_map pos (then_some same? v) ≡ Some y
    whole (pos n) h q =
        let is-n : v ≡ n = e ∙ ap (value_from 0) (sym q) ∙ digits_value 10 n (omega arith) h in
        rw (same.1 (ap decimal is-n ∙ q)) (ap (λ (m : ℕ). Some (pos m)) is-n)
    whole (negsuc n) h q = absurd h

-- bytes by their first, as a pattern of the code has them
pub first-byte : (bytes : List ℕ) (b : ℕ) → 1 ≤ length bytes → get_or bytes 0 0 ≡ b → bytes ≡ b ∷ take (length bytes - 1) (drop 1 bytes)
first-byte [] b some e = absurd (omega arith)
first-byte (a ∷ bs) b some e =
    let same : a ≡ b = e in ap₂ (λ (c : ℕ) (cs : List ℕ). c ∷ cs) same (sym (take_all (length (a ∷ bs) - 1) bs (omega arith)))

pub same-tail : (a b : ℕ) (ps qs : List ℕ) → a ∷ ps ≡ b ∷ qs → ps ≡ qs
same-tail a b ps qs e = cc

pub same_head : (a b : ℕ) (ps qs : List ℕ) → a ∷ ps ≡ b ∷ qs → a ≡ b
same_head a b ps qs e = cc

-- ---- an integer's part: n is what its digits are, if they are a number's

-- the digits are m's
of_digits : {bytes : List ℕ} {n : Option ℕ} {m k : ℕ} → Part u32 bytes (option_map pos n) → n ≡ Some m → k < 2 ^ 32 → decimal k ≡ bytes → m ≡ k
of_digits {bytes} {n} {m} {k} p e few q =
    let same : Some (pos m) ≡ Some (pos k) = sym (ap (option_map pos) e) ∙ p.complete (pos k) few q in
    ap nat_abs (let inner : pos m ≡ pos k = cc in inner)

text-of : {bytes : List ℕ} {n : Option ℕ} {m : ℕ} → Part u32 bytes (option_map pos n) → n ≡ Some m → decimal m ≡ bytes
text-of {bytes} {n} {m} p e = (p.sound (pos m) (ap (option_map pos) e)).1

not-none : {bytes : List ℕ} {n : Option ℕ} {k : ℕ} → Part u32 bytes (option_map pos n) → n ≡ None → k < 2 ^ 32 → decimal k ≡ bytes → ⊥
not-none {bytes} {n} {k} p e few q =
    let none : None ≡ Some (pos k) = sym (ap (option_map pos) e) ∙ p.complete (pos k) few q in cc

module _ {bytes rest : List ℕ} (b : bytes ≡ 45 ∷ rest) where
  not-plus : (k : ℕ) → decimal k ≡ bytes → ⊥
  not-plus k q = omega (arith, (subst Plain (q ∙ b) (digits-plain 10 k)).0)

  digits-are : (k : ℕ) → 45 ∷ decimal (suc k) ≡ bytes → decimal (suc k) ≡ rest
  digits-are k q = same-tail 45 45 (decimal (suc k)) rest (q ∙ b)

module _ {bytes rest : List ℕ} {n : Option ℕ} (b : bytes ≡ 45 ∷ rest) (p : Part u32 rest (option_map pos n)) where
  -- no digits follow the minus sign, or they are 0
  pub minus_none : n ≡ None → Part i32 bytes None
  minus_none e = record { sound = λ y q. absurd (cc); complete = whole }
    where
      whole : (y : ℤ) → Within i32 y → number y ≡ bytes → None ≡ Some y
      whole (pos k) h q = absurd (not-plus b k q)
      whole (negsuc k) h q = absurd (not-none p e (omega arith) (digits-are b k q))

  pub minus-zero : {m : ℕ} → n ≡ Some m → m ≤ 0 → Part i32 bytes None
  minus-zero {m} e zero-m = record { sound = λ y q. absurd (cc); complete = whole }
    where
      whole : (y : ℤ) → Within i32 y → number y ≡ bytes → None ≡ Some y
      whole (pos k) h q = absurd (not-plus b k q)
      whole (negsuc k) h q = absurd (omega (arith, of_digits p e (omega arith) (digits-are b k q)))

  negative : (z : Option ℤ) (m : ℕ) → n ≡ Some m → 0 < m → SomeIff z (FitsSigned w32 (neg_ℤ (pos m))) (neg_ℤ (pos m)) → Part i32 bytes z
  negative z zero e some fits = absurd (omega arith)
  negative (Some x) (suc m) e some fits = record { sound = is; complete = whole }
    where
      is : (y : ℤ) → Some x ≡ Some y → Within i32 y × (number y ≡ bytes)
      is y q =
          let same : negsuc m ≡ y = sym fits.1 ∙ (let inner : x ≡ y = cc in inner) in
          let text : number (negsuc m) ≡ bytes = ap (λ (l : List ℕ). 45 ∷ l) (text-of p e) ∙ sym b in
          subst (λ (y : ℤ). Within i32 y × (number y ≡ bytes)) same (omega (arith, fits.0), text)

      whole : (y : ℤ) → Within i32 y → number y ≡ bytes → Some x ≡ Some y
      whole (pos k) h q = absurd (not-plus b k q)
      whole (negsuc k) h q = ap Some (fits.1 ∙ ap negsuc (suc_inj (of_digits p e (omega arith) (digits-are b k q))))
  negative None (suc m) e some fits = record { sound = λ y q. absurd (cc); complete = whole }
    where
      whole : (y : ℤ) → Within i32 y → number y ≡ bytes → None ≡ Some y
      whole (pos k) h q = absurd (not-plus b k q)
      whole (negsuc k) h q = absurd (fits (omega (arith, of_digits p e (omega arith) (digits-are b k q))))

  pub minus_some : {z : Option ℤ} {m : ℕ} → n ≡ Some m → 0 < m → SomeIff z (FitsSigned w32 (pos 0 -ℤ pos m)) (pos 0 -ℤ pos m) → Part i32 bytes z
  minus_some {z} {m} e some fits = negative z m e some (rw +ℤ_idl at fits)
