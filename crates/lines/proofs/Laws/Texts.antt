-- No text is the text of two.
--     number-one, fields-one   numbers of one type, and lists of them, by their text
--     text-one                 calls
--     line-one                 so a line says one thing
use Rattle.std.specs.Prelude.{◌≡◌, refl, List, [], ◌∷◌, ◌++◌, ℕ, suc, ◌<◌, ◌^◌, ℤ, pos, negsuc, length, Option, Some, None}
use Rattle.std.proofs.Common.{ap, ap₂, sym, subst, ◌∙◌, append-nil, arith}
use Rattle.std.proofs.Math.Nat.{suc_inj}
use Rattle.lines.specs.Text.{decimal, number, Kind, u32, i32, Within, WithinAll, fields}
use Rattle.lines.specs.Reading.{Ends, until_comma, from_comma, value_from}
use Rattle.lines.specs.Lines.{letter, kinds, values, text, Fits, LineOf}
use Rattle.lines.proofs.Laws.Digits.{Plain, digits-plain, digits_value, same_head, same-tail}
use Rattle.lines.proofs.Laws.Fields.{number_until, fields-ends}
use Rattle.lines.proofs.Laws.Lines.{call_of, call_back}
use Rattle.lines.specs.declared.line.Call.{Call}

-- ---- numbers

decimal-one : (n m : ℕ) → n < 2 ^ 32 → m < 2 ^ 32 → decimal n ≡ decimal m → n ≡ m
decimal-one n m small small' e =
    sym (digits_value 10 n (omega arith) small) ∙ ap (value_from 0) e ∙ digits_value 10 m (omega arith) small'

-- a digit is no minus sign
no_minus : (n : ℕ) (bs : List ℕ) → decimal n ≡ 45 ∷ bs → ⊥
no_minus n bs e = omega (arith, (subst Plain e (digits-plain 10 n)).0)

natural-fits : (k : Kind) (n : ℕ) → Within k (pos n) → n < 2 ^ 32
natural-fits u32 n p = p
natural-fits i32 n p = omega arith

negative_fits : (k : Kind) (n : ℕ) → Within k (negsuc n) → suc n < 2 ^ 32
negative_fits u32 n p = absurd p
negative_fits i32 n p = omega arith

pub number-one : (k l : Kind) (y z : ℤ) → Within k y → Within l z → number y ≡ number z → y ≡ z
number-one k l (pos n) (pos m) p q e = ap pos (decimal-one n m (natural-fits k n p) (natural-fits l m q) e)
number-one k l (pos n) (negsuc m) p q e = absurd (no_minus n (decimal (suc m)) e)
number-one k l (negsuc n) (pos m) p q e = absurd (no_minus m (decimal (suc n)) (sym e))
number-one k l (negsuc n) (negsuc m) p q e =
    let same = same-tail 45 45 (decimal (suc n)) (decimal (suc m)) e in
    ap negsuc (suc_inj (decimal-one (suc n) (suc m) (negative_fits k n p) (negative_fits l m q) same))

ends : (zs : List ℤ) → Ends (fields zs)
ends zs = subst Ends (append-nil (fields zs)) (fields-ends zs [] tt)

pub fields-one : (ks ls : List Kind) (ys zs : List ℤ) → WithinAll ks ys → WithinAll ls zs → fields ys ≡ fields zs → ys ≡ zs
unfolding fields
fields-one ks ls [] [] p q e = refl
fields-one ks ls [] (z ∷ zs) p q e = absurd (omega (arith, ap length e))
fields-one ks ls (y ∷ ys) [] p q e = absurd (omega (arith, ap length e))
fields-one [] ls (y ∷ ys) (z ∷ zs) p q e = absurd p
fields-one (k ∷ ks) [] (y ∷ ys) (z ∷ zs) p q e = absurd q
fields-one (k ∷ ks) (l ∷ ls) (y ∷ ys) (z ∷ zs) p q e =
    let same : number y ++ fields ys ≡ number z ++ fields zs = same-tail 44 44 _ _ e in
    let one = number_until y (fields ys) (ends ys) in
    let other = number_until z (fields zs) (ends zs) in
    let first = number-one k l y z p.0 q.0 (sym one.0 ∙ ap until_comma same ∙ other.0) in
    let rest = fields-one ks ls ys zs p.1 q.1 (sym one.1 ∙ ap from_comma same ∙ other.1) in
    ap₂ (λ (x : ℤ) (xs : List ℤ). x ∷ xs) first rest

-- ---- calls

pub text-one : (c d : Call) → Fits c → Fits d → text c ≡ text d → c ≡ d
text-one c d p q e =
    let same : letter c ≡ letter d = same_head (letter c) (letter d) (fields (values c)) (fields (values d)) e in
    let numbers = fields-one (kinds c) (kinds d) (values c) (values d) p q (same-tail (letter c) (letter d) _ _ e) in
    sym (call_back c) ∙ ap₂ call_of same numbers ∙ call_back d

pub line-one : (bytes : List ℕ) (l m : Option Call) → LineOf bytes l → LineOf bytes m → l ≡ m
line-one bytes (Some c) (Some d) p q = ap Some (text-one c d p.1 q.1 (p.2 ∙ sym q.2))
line-one bytes (Some c) None p q = absurd (q p.0 c p.1 p.2)
line-one bytes None (Some d) p q = absurd (p q.0 d q.1 q.2)
line-one bytes None None p q = refl
