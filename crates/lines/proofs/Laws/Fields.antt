-- Laws of fields.
--     part-of                  a field at the front of bytes, by its comma and the next
--     number_until             a number's text ends at the first comma
--     field-some, field_none, natural-some   a field is read exactly if its number is
--     fields-append, fields-ends, reads_then, reads_less, four_read      one field after another
--     unread, overlong         no numbers of these kinds, or more than these
use Rattle.std.specs.Prelude.{◌≡◌, refl, Bool, false, Option, Some, None, option_map, unwrap_or, not, ℕ, suc, ◌+◌, ℤ, pos, negsuc, eqb, ltb, take, drop}
use Rattle.std.specs.List.{position, position_or_len}
use Rattle.std.proofs.lemmas.List.Sums.{prefix_len-le-length}
use Rattle.std.proofs.Math.Path.{ap}
use Rattle.std.proofs.Common.{sym, ◌∙◌, arith, take-append-drop, ltb-false, subst}
use mathlib.Core.List.{List, [], ◌∷◌, ◌++◌, append_assoc, append-nil}
use Rattle.std.proofs.Math.ListN.{length}
use borrow.Author.Tests.{ne_eqb}
use Rattle.arithmetic.proofs.Laws.Tests.{by_bool}
use Rattle.lines.specs.Text.{decimal, number, Kind, u32, i32, WithinAll, fields}
use Rattle.lines.specs.Reading.{Part, Ends, FieldOf, Reads, until_comma, from_comma}
use Rattle.lines.specs.Lines.{four}
use Rattle.lines.proofs.Laws.Digits.{Plain, digits-plain, same-tail}

-- ---- the comma

abbrev pub is_comma : ℕ → Bool
is_comma b = eqb b 44

comma_split : (bs : List ℕ) → until_comma bs ++ from_comma bs ≡ bs
unfolding until_comma from_comma
comma_split [] = refl
comma_split (b ∷ bs) =
    by_bool (eqb b 44) (λ t. rw t) (λ f. rw f (ap (λ (l : List ℕ). b ∷ l) (comma_split bs)))

-- the search for the comma
until_first : (bs : List ℕ) → (until_comma bs ≡ take (position_or_len is_comma bs) bs) × (from_comma bs ≡ drop (position_or_len is_comma bs) bs)
unfolding until_comma from_comma
until_first [] = (refl, refl)
until_first (b ∷ bs) =
    let more : 1 + position_or_len is_comma bs ≡ suc (position_or_len is_comma bs) = omega arith in
    let rest = until_first bs in
    by_bool (eqb b 44) (λ t. rw t (refl, refl)) (λ f. rw (f, more) (ap (λ (l : List ℕ). b ∷ l) rest.0, rest.1))

first-comma : (bs : List ℕ) → unwrap_or (position is_comma bs) (length bs) ≡ position_or_len is_comma bs
first-comma bs =
    by_bool (ltb (position_or_len is_comma bs) (length bs)) (λ t. rw t refl)
    (λ f. rw f (omega (arith, ltb-false (position_or_len is_comma bs) (length bs) f, prefix_len-le-length (λ (b : ℕ). not (is_comma b)) bs)))

-- what follows the comma, cut at the next
pub part-of : {bytes after part rest : List ℕ} {end : ℕ} → bytes ≡ 44 ∷ after → end ≡ unwrap_or (position is_comma after) (length after)
    → part ≡ take end after → rest ≡ drop end after → FieldOf bytes (Some part) rest
part-of {bytes} {after} {part} {rest} {end} b e p r =
    let here : end ≡ position_or_len is_comma after = e ∙ first-comma after in
    let cut = until_first after in
    let whole : part ++ rest ≡ after = rw (p, r) (take-append-drop end after) in
    (b ∙ ap (λ (l : List ℕ). 44 ∷ l) (sym whole), p ∙ rw (here, whole) (sym cut.0), r ∙ rw (here, whole) (sym cut.1))

until_tail : (tail : List ℕ) → Ends tail → (until_comma tail ≡ []) × (from_comma tail ≡ tail)
unfolding until_comma from_comma
until_tail [] h = (refl, refl)
until_tail (b ∷ bs) h = (rw h, rw h)

plain_until : (bs tail : List ℕ) → Plain bs → Ends tail → (until_comma (bs ++ tail) ≡ bs) × (from_comma (bs ++ tail) ≡ tail)
unfolding until_comma from_comma
plain_until [] tail p h = until_tail tail h
plain_until (b ∷ bs) tail p h =
    let other : eqb b 44 ≡ false = ne_eqb b 44 (λ e. omega (arith, p.0)) in
    let rest = plain_until bs tail p.1 h in
    (rw (other, rest.0), rw other rest.1)

pub number_until : (z : ℤ) (tail : List ℕ) → Ends tail → (until_comma (number z ++ tail) ≡ number z) × (from_comma (number z ++ tail) ≡ tail)
unfolding until_comma from_comma
number_until (pos n) tail h = plain_until (decimal n) tail (digits-plain 10 n) h
number_until (negsuc n) tail h =
    let rest = plain_until (decimal (suc n)) tail (digits-plain 10 (suc n)) h in
    (ap (λ (l : List ℕ). 45 ∷ l) rest.0, rest.1)

-- ---- one field

field_reads : (kind : Kind) (bytes : List ℕ) (z : Option ℤ) → Part kind (until_comma bytes) z
    → Reads (kind ∷ []) (44 ∷ bytes) (option_map (λ (y : ℤ). y ∷ []) z) (from_comma bytes)
unfolding fields
field_reads kind bytes z p = record { sound = is z p; complete = whole }
  where
    is : (z : Option ℤ) → Part kind (until_comma bytes) z → (ys : List ℤ) → option_map (λ (y : ℤ). y ∷ []) z ≡ Some ys
        → WithinAll (kind ∷ []) ys × (44 ∷ bytes ≡ fields ys ++ from_comma bytes)
    is None p ys q = absurd (cc)
    is (Some y) p ys q =
        let s = p.sound y refl in
        let text : until_comma bytes ≡ number y ++ [] = sym s.1 ∙ sym (append-nil (number y)) in
        let one : y ∷ [] ≡ ys = cc in
        subst (λ (l : List ℤ). WithinAll (kind ∷ []) l × (44 ∷ bytes ≡ fields l ++ from_comma bytes)) one
        ((s.0, tt), ap (λ (l : List ℕ). 44 ∷ l) (sym (comma_split bytes) ∙ ap (λ (l : List ℕ). l ++ from_comma bytes) text))

    whole : (ys : List ℤ) (tail : List ℕ) → WithinAll (kind ∷ []) ys → Ends tail → 44 ∷ bytes ≡ fields ys ++ tail
        → (option_map (λ (y : ℤ). y ∷ []) z ≡ Some ys) × (from_comma bytes ≡ tail)
    whole [] tail w h e = absurd w
    whole (y ∷ []) tail w h e =
        let same : bytes ≡ number y ++ tail = same-tail 44 44 bytes ((number y ++ []) ++ tail) e ∙ ap (λ (l : List ℕ). l ++ tail) (append-nil (number y)) in
        let parts = number_until y tail h in
        let r = p.complete y w.0 (sym (ap until_comma same ∙ parts.0)) in
        (ap (option_map (λ (x : ℤ). x ∷ [])) r, ap from_comma same ∙ parts.1)
    whole (y ∷ (x ∷ ys)) tail w h e = absurd w.1

pub field-some : {kind : Kind} {bytes part rest : List ℕ} {z : Option ℤ} → FieldOf bytes (Some part) rest → Part kind part z
    → Reads (kind ∷ []) bytes (option_map (λ (y : ℤ). y ∷ []) z) rest
field-some {kind} {bytes} {part} {rest} {z} f p =
    let reads = field_reads kind (part ++ rest) z (rw f.1 at p) in
    rw f.0 (subst (λ (l : List ℕ). Reads (kind ∷ []) (44 ∷ (part ++ rest)) (option_map (λ (y : ℤ). y ∷ []) z) l) (sym f.2) reads)

-- the same of a natural number
pub natural-some : {bytes part rest : List ℕ} (n : Option ℕ) → FieldOf bytes (Some part) rest → Part u32 part (option_map pos n)
    → Reads (u32 ∷ []) bytes (option_map (λ (m : ℕ). pos m ∷ []) n) rest
natural-some None f p = field-some f p
natural-some (Some m) f p = field-some f p

pub field_none : {kind : Kind} {bytes rest : List ℕ} → FieldOf bytes None rest → Reads (kind ∷ []) bytes None rest
unfolding fields
field_none {kind} {bytes} {rest} none = record { sound = λ ys q. absurd (cc); complete = nothing }
  where
    nothing : (ys : List ℤ) (tail : List ℕ) → WithinAll (kind ∷ []) ys → Ends tail → bytes ≡ fields ys ++ tail → (None ≡ Some ys) × (rest ≡ tail)
    nothing [] tail w h e = absurd w
    nothing (y ∷ ys) tail w h e = absurd (none ((number y ++ fields ys) ++ tail) e)

-- ---- one after another

pub fields-append : (zs ys : List ℤ) → fields (zs ++ ys) ≡ fields zs ++ fields ys
unfolding fields
fields-append [] ys = refl
fields-append (z ∷ zs) ys =
    ap (λ (l : List ℕ). 44 ∷ l) (ap (λ (l : List ℕ). number z ++ l) (fields-append zs ys) ∙ sym (append_assoc (number z) (fields zs) (fields ys)))

within-append : (ks ls : List Kind) (zs ys : List ℤ) → WithinAll ks zs → WithinAll ls ys → WithinAll (ks ++ ls) (zs ++ ys)
within-append [] ls [] ys v w = w
within-append [] ls (z ∷ zs) ys v w = absurd v
within-append (k ∷ ks) ls [] ys v w = absurd v
within-append (k ∷ ks) ls (z ∷ zs) ys v w = (v.0, within-append ks ls zs ys v.1 w)

record Parted (ks ls : List Kind) (us : List ℤ) : Type 0 where
  pub first : List ℤ
  pub second : List ℤ
  pub joined : us ≡ first ++ second
  pub one : WithinAll ks first
  pub two : WithinAll ls second

within-part : (ks ls : List Kind) (us : List ℤ) → WithinAll (ks ++ ls) us → Parted ks ls us
within-part [] ls us w = record { first = []; second = us; joined = refl; one = tt; two = w }
within-part (k ∷ ks) ls [] w = absurd w
within-part (k ∷ ks) ls (u ∷ us) w =
    let p = within-part ks ls us w.1 in
    record { first = u ∷ p.first; second = p.second; joined = ap (λ (l : List ℤ). u ∷ l) p.joined; one = (w.0, p.one); two = p.two }

pub fields-ends : (zs : List ℤ) (tail : List ℕ) → Ends tail → Ends (fields zs ++ tail)
unfolding fields
fields-ends [] tail h = h
fields-ends (z ∷ zs) tail h = refl

join : (zs ys : List ℤ) (rest : List ℕ) → fields (zs ++ ys) ++ rest ≡ fields zs ++ (fields ys ++ rest)
join zs ys rest = rw fields-append (append_assoc (fields zs) (fields ys) rest)

pub reads_then : {ks ls : List Kind} {bytes rest rest' : List ℕ} {zs : List ℤ} {ys : Option (List ℤ)} → Reads ks bytes (Some zs) rest
    → Reads ls rest ys rest' → Reads (ks ++ ls) bytes (option_map (λ (l : List ℤ). zs ++ l) ys) rest'
reads_then {ks} {ls} {bytes} {rest} {rest'} {zs} {ys} p q = record { sound = is ys q; complete = whole }
  where
    is : (ys : Option (List ℤ)) → Reads ls rest ys rest' → (us : List ℤ) → option_map (λ (l : List ℤ). zs ++ l) ys ≡ Some us
        → WithinAll (ks ++ ls) us × (bytes ≡ fields us ++ rest')
    is None q us e = absurd (cc)
    is (Some ys) q us e =
        let s = p.sound zs refl in
        let u = q.sound ys refl in
        let same : zs ++ ys ≡ us = cc in
        subst (λ (l : List ℤ). WithinAll (ks ++ ls) l × (bytes ≡ fields l ++ rest')) same
        (within-append ks ls zs ys s.0 u.0, s.1 ∙ ap (λ (l : List ℕ). fields zs ++ l) u.1 ∙ sym (join zs ys rest'))

    whole : (us : List ℤ) (tail : List ℕ) → WithinAll (ks ++ ls) us → Ends tail → bytes ≡ fields us ++ tail
        → (option_map (λ (l : List ℤ). zs ++ l) ys ≡ Some us) × (rest' ≡ tail)
    whole us tail w h e =
        let d = within-part ks ls us w in
        let e' : bytes ≡ fields d.first ++ (fields d.second ++ tail) =
        e ∙ ap (λ (l : List ℤ). fields l ++ tail) d.joined ∙ join d.first d.second tail in
        let r = p.complete d.first (fields d.second ++ tail) d.one (fields-ends d.second tail h) e' in
        let s = q.complete d.second tail d.two h r.1 in
        let front : zs ≡ d.first = let both : Some zs ≡ Some d.first = r.0 in cc in
        (rw s.0 (ap Some (ap (λ (l : List ℤ). l ++ d.second) front ∙ sym d.joined)), s.1)

-- where the first are not read, more are not
pub reads_less : {ks : List Kind} (ls : List Kind) {bytes rest rest' : List ℕ} → Reads ks bytes None rest → Reads (ks ++ ls) bytes None rest'
reads_less {ks} ls {bytes} {rest} {rest'} p = record { sound = λ us e. absurd (cc); complete = whole }
  where
    whole : (us : List ℤ) (tail : List ℕ) → WithinAll (ks ++ ls) us → Ends tail → bytes ≡ fields us ++ tail → (None ≡ Some us) × (rest' ≡ tail)
    whole us tail w h e =
        let d = within-part ks ls us w in
        let e' : bytes ≡ fields d.first ++ (fields d.second ++ tail) =
        e ∙ ap (λ (l : List ℤ). fields l ++ tail) d.joined ∙ join d.first d.second tail in
        let none = (p.complete d.first (fields d.second ++ tail) d.one (fields-ends d.second tail h) e').0 in absurd (cc none)

-- four integers, each as it is read back from its bits
pub four_read : {bytes r₁ r₂ r₃ r₄ : List ℕ} {a b c d a' b' c' d' : ℤ} → Reads (i32 ∷ []) bytes (Some (a ∷ [])) r₁
    → Reads (i32 ∷ []) r₁ (Some (b ∷ [])) r₂ → Reads (i32 ∷ []) r₂ (Some (c ∷ [])) r₃ → Reads (i32 ∷ []) r₃ (Some (d ∷ [])) r₄
    → a' ≡ a → b' ≡ b → c' ≡ c → d' ≡ d → Reads four bytes (Some (a' ∷ b' ∷ c' ∷ d' ∷ [])) r₄
four_read p q r s ea eb ec ed = rw (ea, eb, ec, ed) (reads_then p (reads_then q (reads_then r s)))

-- ---- to the line's end

module _ {ks : List Kind} {bytes rest : List ℕ} where
  pub all-read : {zs : List ℤ} → Reads ks bytes (Some zs) rest → length rest ≡ 0 → WithinAll ks zs × (fields zs ≡ bytes)
  all-read {zs} p e = let s = p.sound zs refl in (s.0, sym (s.1 ∙ ap (λ (l : List ℕ). fields zs ++ l) (none rest e) ∙ append-nil (fields zs)))
    where
      none : (l : List ℕ) → length l ≡ 0 → l ≡ []
      none [] h = refl
      none (b ∷ l) h = absurd (omega arith)

  pub unread : Reads ks bytes None rest → (ys : List ℤ) → WithinAll ks ys → fields ys ≡ bytes → ⊥
  unread p ys w e = let none = (p.complete ys [] w tt (sym e ∙ sym (append-nil (fields ys)))).0 in cc none

  pub overlong : {zs : List ℤ} → Reads ks bytes (Some zs) rest → (length rest ≡ 0 → ⊥) → (ys : List ℤ) → WithinAll ks ys → fields ys ≡ bytes → ⊥
  overlong p more ys w e = more (ap length (p.complete ys [] w tt (sym e ∙ sym (append-nil (fields ys)))).1)
