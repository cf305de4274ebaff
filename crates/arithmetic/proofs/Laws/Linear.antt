-- Linear arithmetic on ℤ by `omega`, which reads ℕ alone. An integer z is `up z` − `dn z`, two naturals, and an order, an equation,
-- a sum or a half of integers is a linear fact of those. Assumes nothing.
--     ints             the rules by which `omega (arith, ints)` reads a test, an order or a range of integers, and proves one
--     sum, dif, half-lo, half-hi    of a sum, a difference, a half in the goal: into the list, at its arguments: `omega (arith, ints, sum a b)`
--     max-above, min-below    of the larger and the smaller, likewise
--     max-is, min-is    std's `max` and `min` are these
--     known, got       what is known of a signed number that fits its width, and of a call's result
--     fits32, fits64, wide, half-fits    what fits a width
--     of_z-eq           equality of numbers is that of their bits
--     same_test, and_t, or_t, or_f    tests, compared and taken apart
use Rattle.std.specs.Prelude.{◌≡◌, refl, Bool, true, false, not, cond, ◌&&◌, ◌||◌, ◌⊎◌, ℕ, zero, suc, ◌+◌, ◌*◌, ◌-◌, ◌≤◌, ◌<◌, ◌^◌, T, ltb}
use Rattle.std.specs.Prelude.{eqb, ℤ, pos, negsuc, neg_ℤ, ◌+ℤ◌, ◌-ℤ◌, ◌≤ℤ◌}
use Rattle.std.proofs.Common.{sym, ap, ◌∙◌, subst, inl, inr, arith, ltb→lt, nltb→le, ltb-true, ltb-false, leb-true, leb-false, eqb-true}
use Rattle.std.proofs.Common.{lt-ltb, le-ltb, le-leb, eq-eqb, ne_eqb, to_z-of_z}
use Rattle.std.proofs.Math.IntN.{sub_ℕ}
use Rattle.std.specs.Int.Signed.{lt_z, le_z, shr_z, mag, mag_shr}
use Rattle.std.proofs.lemmas.Bool.{eqb-false, lt-leb}
use Rattle.std.specs.Int.{Width, w32, w64, int_max, int_min}
use mir.Val.{SFits, to_z, of_z, hbits}
use mir.ValLaws.{sfits_le}
use Rattle.arithmetic.specs.Ints.{eq_z, max_z, min_z}

abbrev pub up : ℤ → ℕ
up (pos n) = n
up (negsuc n) = 0

abbrev pub dn : ℤ → ℕ
dn (pos n) = 0
dn (negsuc n) = suc n

clash : {A : Type 0} → ◌≡◌ {A = Bool} true false → A
clash {A} p = absurd (subst T p tt)

clash' : {A : Type 0} → ◌≡◌ {A = Bool} false true → A
clash' {A} p = absurd (subst T (sym p) tt)

-- ---- a test that is true, or false, read
pub le_t : (a b : ℤ) → le_z a b ≡ true → up a + dn b ≤ up b + dn a
le_t (pos a) (pos b) p = omega (arith, leb-true a b p)
le_t (pos a) (negsuc b) p = clash' p
le_t (negsuc a) (pos b) p = omega arith
le_t (negsuc a) (negsuc b) p = omega (arith, leb-true b a p)

pub le_f : (a b : ℤ) → le_z a b ≡ false → up b + dn a < up a + dn b
le_f (pos a) (pos b) p = omega (arith, leb-false a b p)
le_f (pos a) (negsuc b) p = omega arith
le_f (negsuc a) (pos b) p = clash p
le_f (negsuc a) (negsuc b) p = omega (arith, leb-false b a p)

pub lt_t : (a b : ℤ) → lt_z a b ≡ true → up a + dn b < up b + dn a
lt_t (pos a) (pos b) p = omega (arith, ltb-true a b p)
lt_t (pos a) (negsuc b) p = clash' p
lt_t (negsuc a) (pos b) p = omega arith
lt_t (negsuc a) (negsuc b) p = omega (arith, ltb-true b a p)

pub lt_f : (a b : ℤ) → lt_z a b ≡ false → up b + dn a ≤ up a + dn b
lt_f (pos a) (pos b) p = omega (arith, ltb-false a b p)
lt_f (pos a) (negsuc b) p = omega arith
lt_f (negsuc a) (pos b) p = clash p
lt_f (negsuc a) (negsuc b) p = omega (arith, ltb-false b a p)

pub eq_t : (a b : ℤ) → eq_z a b ≡ true → up a + dn b ≡ up b + dn a
eq_t (pos a) (pos b) p = omega (arith, eqb-true a b p)
eq_t (pos a) (negsuc b) p = clash' p
eq_t (negsuc a) (pos b) p = clash' p
eq_t (negsuc a) (negsuc b) p = omega (arith, eqb-true a b p)

pub eq_f : (a b : ℤ) → eq_z a b ≡ false → up a + dn b ≡ up b + dn a → ⊥
eq_f (pos a) (pos b) p = λ q. eqb-false a b p (omega arith)
eq_f (pos a) (negsuc b) p = λ q. omega arith
eq_f (negsuc a) (pos b) p = λ q. omega arith
eq_f (negsuc a) (negsuc b) p = λ q. eqb-false a b p (omega arith)

-- ---- proved
pub t_le : (a b : ℤ) → up a + dn b ≤ up b + dn a → le_z a b ≡ true
t_le (pos a) (pos b) h = le-leb a b (omega arith)
t_le (pos a) (negsuc b) h = absurd (omega arith)
t_le (negsuc a) (pos b) h = refl
t_le (negsuc a) (negsuc b) h = le-leb b a (omega arith)

pub f_le : (a b : ℤ) → up b + dn a < up a + dn b → le_z a b ≡ false
f_le (pos a) (pos b) h = lt-leb a b (omega arith)
f_le (pos a) (negsuc b) h = refl
f_le (negsuc a) (pos b) h = absurd (omega arith)
f_le (negsuc a) (negsuc b) h = lt-leb b a (omega arith)

pub t_lt : (a b : ℤ) → up a + dn b < up b + dn a → lt_z a b ≡ true
t_lt (pos a) (pos b) h = lt-ltb a b (omega arith)
t_lt (pos a) (negsuc b) h = absurd (omega arith)
t_lt (negsuc a) (pos b) h = refl
t_lt (negsuc a) (negsuc b) h = lt-ltb b a (omega arith)

pub f_lt : (a b : ℤ) → up b + dn a ≤ up a + dn b → lt_z a b ≡ false
f_lt (pos a) (pos b) h = le-ltb a b (omega arith)
f_lt (pos a) (negsuc b) h = refl
f_lt (negsuc a) (pos b) h = absurd (omega arith)
f_lt (negsuc a) (negsuc b) h = le-ltb b a (omega arith)

pub t_eq : (a b : ℤ) → up a + dn b ≡ up b + dn a → eq_z a b ≡ true
t_eq (pos a) (pos b) h = eq-eqb a b (omega arith)
t_eq (pos a) (negsuc b) h = absurd (omega arith)
t_eq (negsuc a) (pos b) h = absurd (omega arith)
t_eq (negsuc a) (negsuc b) h = eq-eqb a b (omega arith)

pub f_eq : (a b : ℤ) → ¬ (up a + dn b ≡ up b + dn a) → eq_z a b ≡ false
f_eq (pos a) (pos b) h = ne_eqb a b (λ e. h (omega arith))
f_eq (pos a) (negsuc b) h = refl
f_eq (negsuc a) (pos b) h = refl
f_eq (negsuc a) (negsuc b) h = ne_eqb a b (λ e. h (omega arith))

-- ---- an equation of integers, read and proved
pub eq_nat : (a b : ℤ) → a ≡ b → up a + dn b ≡ up b + dn a
eq_nat a b p = subst (λ (z : ℤ). up a + dn z ≡ up z + dn a) p refl

pub nat_eq : (a b : ℤ) → up a + dn b ≡ up b + dn a → a ≡ b
nat_eq (pos a) (pos b) h = ap pos (omega arith)
nat_eq (pos a) (negsuc b) h = absurd (omega arith)
nat_eq (negsuc a) (pos b) h = absurd (omega arith)
nat_eq (negsuc a) (negsuc b) h = ap negsuc (omega arith)

-- ---- an order, as a contract has it
is_t : (t : Bool) → T t → t ≡ true
is_t true h = refl
is_t false h = absurd h

of_t : (t : Bool) → t ≡ true → T t
of_t true h = tt
of_t false h = clash' h

pub le_z_nat : (a b : ℤ) → T (le_z a b) → up a + dn b ≤ up b + dn a
le_z_nat a b h = le_t a b (is_t (le_z a b) h)

pub lt_z_nat : (a b : ℤ) → T (lt_z a b) → up a + dn b < up b + dn a
lt_z_nat a b h = lt_t a b (is_t (lt_z a b) h)

pub nat_le_z : (a b : ℤ) → up a + dn b ≤ up b + dn a → T (le_z a b)
nat_le_z a b h = of_t (le_z a b) (t_le a b h)

pub nat_lt_z : (a b : ℤ) → up a + dn b < up b + dn a → T (lt_z a b)
nat_lt_z a b h = of_t (lt_z a b) (t_lt a b h)

-- ---- sums, differences, halves
cond_ind : (c : Bool) (x y : ℤ) (P : ℤ → Type 0) → (T c → P x) → (T (not c) → P y) → P (cond c x y)
cond_ind true x y P f g = f tt
cond_ind false x y P f g = g tt

sub_law : (m n : ℕ) → up (sub_ℕ m n) + n ≡ m + dn (sub_ℕ m n)
sub_law m n = cond_ind (ltb m n) (negsuc (n - suc m)) (pos (m - n)) (λ (z : ℤ). up z + n ≡ m + dn z)
    (λ t. let h : m < n = ltb→lt m n t in omega arith)
    (λ t. let h : n ≤ m = nltb→le m n t in omega arith)

pub sum : (a b : ℤ) → up (a +ℤ b) + (dn a + dn b) ≡ up a + up b + dn (a +ℤ b)
sum (pos a) (pos b) = omega arith
sum (pos a) (negsuc b) = omega (arith, sub_law a (suc b))
sum (negsuc a) (pos b) = omega (arith, sub_law b (suc a))
sum (negsuc a) (negsuc b) = omega arith

-- a number's opposite
pub up_neg : (a : ℤ) → up (neg_ℤ a) ≡ dn a
up_neg (pos zero) = refl
up_neg (pos (suc n)) = refl
up_neg (negsuc n) = refl

pub dn-neg : (a : ℤ) → dn (neg_ℤ a) ≡ up a
dn-neg (pos zero) = refl
dn-neg (pos (suc n)) = refl
dn-neg (negsuc n) = refl

pub dif : (a b : ℤ) → up (a -ℤ b) + (dn a + up b) ≡ up a + dn b + dn (a -ℤ b)
dif a b = omega (arith, sum a (neg_ℤ b), up_neg b, dn-neg b)

-- half of z, rounded down: 2 h ≤ z ≤ 2 h + 1
pub half-lo : (z : ℤ) → 2 * up (shr_z z 2) + dn z ≤ up z + 2 * dn (shr_z z 2)
half-lo (pos n) = omega arith
half-lo (negsuc n) = omega arith

pub half-hi : (z : ℤ) → up z + 2 * dn (shr_z z 2) ≤ 2 * up (shr_z z 2) + dn z + 1
half-hi (pos n) = omega arith
half-hi (negsuc n) = omega arith

-- ---- ranges
pub fits32 : (z : ℤ) → (dn z ≤ up z + 2147483648) × (up z < dn z + 2147483648) → SFits w32 z
fits32 (pos n) h = record { sfits = omega arith }
fits32 (negsuc n) h = record { sfits = omega arith }

pub fits64 : (z : ℤ) → (dn z ≤ up z + 9223372036854775808) × (up z < dn z + 9223372036854775808) → SFits w64 z
fits64 (pos n) h = record { sfits = omega arith }
fits64 (negsuc n) h = record { sfits = omega arith }

fits-up : (w : Width) (z : ℤ) → SFits w z → up z < 2 ^ hbits w
fits-up w (pos n) f = f.sfits
fits-up w (negsuc n) f = omega (arith, f.sfits)

fits-dn : (w : Width) (z : ℤ) → SFits w z → dn z ≤ 2 ^ hbits w
fits-dn w (pos n) f = omega arith
fits-dn w (negsuc n) f = f.sfits

-- a local holds a signed number's bits, and the machine reads the number back
back-up : (w : Width) (z : ℤ) → SFits w z → up (to_z w (of_z w z)) ≡ up z
back-up w z f = ap up (to_z-of_z f)

back-dn : (w : Width) (z : ℤ) → SFits w z → dn (to_z w (of_z w z)) ≡ dn z
back-dn w z f = ap dn (to_z-of_z f)

-- what is known of a signed number that fits its width, for `omega`'s list: `omega (arith, ints, known c.fits.x)`
pub record Known (w : Width) (z : ℤ) : Type 0 where
  pub up-max : up z < 2 ^ hbits w
  pub dn-max : dn z ≤ 2 ^ hbits w
  pub up-back : up (to_z w (of_z w z)) ≡ up z
  pub dn-back : dn (to_z w (of_z w z)) ≡ dn z

pub known : {w : Width} {z : ℤ} → SFits w z → Known w z
known {w} {z} f = record { up-max = fits-up w z f; dn-max = fits-dn w z f; up-back = back-up w z f; dn-back = back-dn w z f }

pub ruleset ints = (le_t, le_f, lt_t, lt_f, eq_t, eq_f, t_le, f_le, t_lt, f_lt, t_eq, f_eq, eq_nat, nat_eq, le_z_nat, lt_z_nat, nat_le_z, nat_lt_z)

-- a call's result r, of which the contract says that it is z, as the machine reads it back
pub got : (w : Width) {r z : ℤ} → mag r < 2 ^ hbits w → r ≡ z → to_z w (of_z w r) ≡ z
got w {r} {z} h p = to_z-of_z {w = w} {z = r} (record { sfits = h }) ∙ p

-- two tests are one where each implies the other
pub same_test : (s t : Bool) → (s ≡ true → t ≡ true) → (t ≡ true → s ≡ true) → s ≡ t
same_test true t f g = sym (f refl)
same_test false true f g = g refl
same_test false false f g = refl

-- a signed number is its bits
pub of_z-eq : (w : Width) (a b : ℤ) → SFits w a → SFits w b → eqb (of_z w a) (of_z w b) ≡ eq_z a b
of_z-eq w a b f g = same_test (eqb (of_z w a) (of_z w b)) (eq_z a b)
    (λ e. eq_z_lem a b (sym (to_z-of_z f) ∙ ap (to_z w) (eqb-true (of_z w a) (of_z w b) e) ∙ to_z-of_z g))
    (λ e. eq-eqb (of_z w a) (of_z w b) (ap (of_z w) (nat_eq a b (eq_t a b e))))
  where
    eq_z_lem : (a b : ℤ) → a ≡ b → eq_z a b ≡ true
    eq_z_lem a b p = t_eq a b (eq_nat a b p)

-- a half is in its number's range
pub half-fits : {w : Width} {z : ℤ} → SFits w z → SFits w (shr_z z 2)
half-fits {w} {z} f = sfits_le {w = w} {y = shr_z z 2} {z = z} (mag_shr z 2) f

-- the larger is at least each, the smaller at most each
pub max-above : (a b : ℤ) → (a ≤ℤ max_z a b) × (b ≤ℤ max_z a b)
unfolding max_z
max-above a b = go (lt_z a b) refl
  where
    go : (t : Bool) → lt_z a b ≡ t → (a ≤ℤ cond t b a) × (b ≤ℤ cond t b a)
    go true e = omega (arith, ints)
    go false e = omega (arith, ints)

pub min-below : (a b : ℤ) → (min_z a b ≤ℤ a) × (min_z a b ≤ℤ b)
unfolding min_z
min-below a b = go (lt_z b a) refl
  where
    go : (t : Bool) → lt_z b a ≡ t → (cond t b a ≤ℤ a) × (cond t b a ≤ℤ b)
    go true e = omega (arith, ints)
    go false e = omega (arith, ints)

-- std's `a.max(b)` and `a.min(b)`
pub max-is : (a b : ℤ) → int_max a b ≡ max_z a b
unfolding max_z
max-is a b = go (lt_z b a) (lt_z a b) refl refl
  where
    go : (s t : Bool) → lt_z b a ≡ s → lt_z a b ≡ t → cond s a b ≡ cond t b a
    go true true e f = absurd (omega (arith, ints))
    go true false e f = refl
    go false true e f = refl
    go false false e f = nat_eq b a (omega (arith, ints))

pub min-is : (a b : ℤ) → int_min a b ≡ min_z a b
unfolding min_z
min-is a b = refl

-- a test of tests, taken apart
pub and_t : (s t : Bool) → s && t ≡ true → (s ≡ true) × (t ≡ true)
and_t true true e = (refl, refl)
and_t true false e = (refl, e)
and_t false true e = (e, refl)
and_t false false e = (e, e)

pub or_t : (s t : Bool) → s || t ≡ true → (s ≡ true) ⊎ (t ≡ true)
or_t true t e = inl refl
or_t false t e = inr e

pub or_f : (s t : Bool) → s || t ≡ false → (s ≡ false) × (t ≡ false)
or_f true t e = clash e
or_f false t e = (refl, e)

-- an i32 as an i64: its number, and the sum and the difference of two, fit
pub wide : {z : ℤ} → SFits w32 z → SFits w64 z
wide {z} f = fits64 z (omega (arith, known f))
