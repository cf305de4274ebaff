-- A memory has one shape at most; so the pattern of the calls fixes what each call leaves.
--     one-chain, one-tree, one_free    what is read from a link, a node, a head is one chain, one tree, one list
--     holds-one    two shapes of one world are equal
--     obeys_fixed, make_fixed, patch_fixed         two exits of one call are equal
--     by-tree      a call on a tree: one shape tells what it leaves
--     by-good_patch, by-bad_patch  a patch that refusal 13 lets pass, or not
--     answered-tree        what is true of every tree that an accepted call can have been made on
--     marks-cleared        the marks are 0 after each call not refused 1 or 2
--     refused-untouched, patch-untouched   a refused call leaves state, nodes, dots and answers untouched (§11.7)
use Rattle.std.specs.Prelude.{◌≡◌, ◌≢◌, ◌⊎◌, List, [], ◌∷◌, map, Bool, true, false, ◌&&◌, ℕ, ◌+◌, ◌≤◌, ◌<◌, length, replicate}
use Rattle.std.proofs.Math.Path.{refl, fun_ext}
use Rattle.std.proofs.Common.{ap, ap₂, sym, ◌∙◌, subst, ⊎_elim, arith}
use Rattle.std.proofs.Math.Nat.{suc_inj}
use Rattle.std.proofs.Math.Decide.{dec_lt}
use Rattle.model.proofs.Laws.Sums.{indicator-same, sum_over-one, sum_below_term, by_dec}
use Rattle.model.specs.Lists.{count}
use Rattle.model.proofs.Laws.Lists.{length-map}
use Rattle.arithmetic.proofs.Laws.Tests.{by_bool, true_false}
use Rattle.geometry.specs.Cells.{child_data}
use Rattle.model.specs.Trees.{Placed, Tree, leaf, branch, child_node, size}
use Rattle.model.specs.Shapes.{Shape, Valid, WellFormed}
use Rattle.model.specs.Layout.{World, none, branch_mark, blank, layout, cleared, lengths_right, Holds}
use Rattle.model.proofs.Laws.Shapes.{below-no, live-and_free}
use Rattle.model.specs.Memory.{Mem, memory, Chained, Represents, FreeGroups}
use Rattle.geometry.specs.declared.settings.Settings.{Settings}
use Rattle.geometry.specs.Settings.{in_range}
use Rattle.model.specs.Calls.{Reply, refused, too_many, answered, refusal, Verdict, refuse, overflow, accept, Exit, exit, carried_out, Obeys, Make}
use Rattle.model.specs.declared.patch.Patch.{Patch}
use Rattle.model.specs.Patch.{patch_fits, patch_rule, LayPatch}
use Rattle.model.proofs.Laws.Memory.{holds-represented}

placed_equal : (d e : Placed) → d.place ≡ e.place → d.dot ≡ e.dot → d ≡ e
placed_equal d e p q = λ i. record { place = p i; dot = q i }

pub one-chain : (m : Mem) (h : ℕ) (c e : List Placed) → length c ≡ length e → Chained m h c none → Chained m h e none → c ≡ e
one-chain m h [] [] l s r = refl
one-chain m h [] (e ∷ es) l s r = absurd (omega arith)
one-chain m h (d ∷ ds) [] l s r = absurd (omega arith)
one-chain m h (d ∷ ds) (e ∷ es) l s r =
    let p : d.place ≡ e.place = sym s.0 ∙ r.0 in
    let one = placed_equal d e p (sym s.1 ∙ ap m.dot p ∙ r.1) in
    let rest = one-chain m (m.next d.place) ds es (suc_inj l) s.2 (subst (λ (q : ℕ). Chained m (m.next q) es none) (sym p) r.2) in
    λ i. one i ∷ rest i

-- What its words tell a tree by: no leaf has a branch's count, and no branch a child beyond 4.
abbrev pub Legible : Tree → Type 0
Legible (leaf c) = length c < branch_mark
Legible (branch g f) = ((i : ℕ) → i < 5 → Legible (f i)) × ((i : ℕ) → 5 ≤ i → f i ≡ leaf [])

well_legible : (s : _) (n : _) (t : Tree) → WellFormed s n t → size t < branch_mark → Legible t
well_legible s n (leaf c) v b = omega (arith, sum_over-one c)
well_legible s n (branch g f) v b = ((λ i c. well_legible s (child_data n i) (f i) (v.1 i c).1 (omega (arith, sum_below_term 5 (λ j. size (f j)) i c))), v.2)

pub one-tree : (m : Mem) (a : ℕ) (t u : Tree) → Legible t → Legible u → Represents m a t → Represents m a u → t ≡ u
one-tree m a (leaf c) (leaf e) p q r s = ap leaf (one-chain m (m.first a) c e (sym r.0 ∙ s.0) r.1 s.1)
one-tree m a (leaf c) (branch g f) p q r s = absurd (omega (arith, r.0, s.0))
one-tree m a (branch g f) (leaf e) p q r s = absurd (omega (arith, r.0, s.0))
one-tree m a (branch g f) (branch h e) p q r s =
    let same : h ≡ g = omega (arith, r.1, s.1) in
    let each : (i : ℕ) → f i ≡ e i = λ i.
    by_dec (dec_lt i 5)
    (λ b. one-tree m (child_node g i) (f i) (e i) (p.0 i b) (q.0 i b) (r.2 i b) (subst (λ (y : ℕ). Represents m (child_node y i) (e i)) same (s.2 i b)))
    (λ n. p.1 i (omega arith) ∙ sym (q.1 i (omega arith))) in
    ap₂ branch (sym same) (fun_ext each)

-- the groups of a free list are no none
pub one_free : (m : Mem) (h : ℕ) (gs hs : List ℕ) → ((k : ℕ) → 1 ≤ count k gs → k < 16384) → ((k : ℕ) → 1 ≤ count k hs → k < 16384)
    → FreeGroups m h gs → FreeGroups m h hs → gs ≡ hs
unfolding none
one_free m h [] [] a b r s = refl
one_free m h [] (k ∷ hs) a b r s = absurd (omega (arith, r, s.0, b k (omega (arith, indicator-same k))))
one_free m h (g ∷ gs) [] a b r s = absurd (omega (arith, r.0, s, a g (omega (arith, indicator-same g))))
one_free m h (g ∷ gs) (k ∷ hs) a b r s =
    let same : k ≡ g = omega (arith, r.0, s.0) in
    ap₂ (λ (x : ℕ) (xs : List ℕ). x ∷ xs) (sym same)
    (one_free m (m.first (child_node g 0)) gs hs (λ j c. a j (omega arith)) (λ j c. b j (omega arith)) r.3
    (subst (λ (y : ℕ). FreeGroups m (m.first (child_node y 0)) hs) same s.3))

free-range : (x : Shape) → Valid x → (k : ℕ) → 1 ≤ count k x.free_groups → k < 16384
free-range x v k c =
    by_dec (dec_lt k x.groups) (λ h. omega (arith, v.groups_fit)) (λ h. absurd (omega (arith, v.groups_once k, below-no k x.groups (omega arith))))

places-back : (ps : List ℕ) → map (λ d. d.place) (map blank ps) ≡ ps
places-back [] = refl
places-back (p ∷ ps) = ap (λ (xs : List ℕ). p ∷ xs) (places-back ps)

pub length-blank : (ps : List ℕ) → length (map blank ps) ≡ length ps
length-blank ps = length-map blank ps

pub size_small : (x : Shape) → Valid x → size x.tree < branch_mark
unfolding branch_mark
size_small x v = omega (arith, live-and_free x v, v.places_fit)

-- THE SHAPE of a memory that is a tree: two shapes of one world are equal.
pub holds-one : (w : World) (x y : Shape) → Holds w x → Holds w y → x ≡ y
holds-one w x y hx hy =
    let m = memory w in
    let r = holds-represented w x hx in
    let s = holds-represented w y hy in
    let vx = hx.valid in
    let vy = hy.valid in
    let groups : x.groups ≡ y.groups = omega (arith, r.nodes, s.nodes) in
    let places : x.places ≡ y.places = omega (arith, r.dots, s.dots) in
    let settings : x.settings ≡ y.settings = sym r.settings ∙ s.settings in
    let told : (z : Shape) → Valid z → Legible z.tree = λ z v. well_legible _ _ z.tree v.well_formed (size_small z v) in
    let tree = one-tree m 0 x.tree y.tree (told x vx) (told y vy) r.tree s.tree in
    let free_groups = one_free m w.state.free_group x.free_groups y.free_groups (free-range x vx) (free-range y vy) r.groups s.groups in
    let equal : length (map blank x.free_places) ≡ length (map blank y.free_places) =
    omega (arith, length-blank x.free_places, length-blank y.free_places, live-and_free x vx, live-and_free y vy, places, ap size tree) in
    let blanks = one-chain m w.state.free_place (map blank x.free_places) (map blank y.free_places) equal r.places s.places in
    let free_places = sym (places-back x.free_places) ∙ ap (map (λ d. d.place)) blanks ∙ places-back y.free_places in
    let changes : x.changes ≡ y.changes = sym r.changes ∙ s.changes in
    λ i.
    record {
      settings = settings i;
      groups = groups i;
      places = places i;
      tree = tree i;
      free_groups = free_groups i;
      free_places = free_places i;
      changes = changes i;
    }

-- ---- the pattern

-- A contract by the pattern is an equation: where it can be told whether the memory is a tree, two exits of one call are equal.
pub obeys_fixed : {B A : Type 0} (fits : Bool) (rule : Shape → Verdict B A) (w : World) (row : List B) (e f : Exit B A)
    → ((x : Shape) × Holds w x) ⊎ ((x : Shape) → Holds w x → ⊥) → Obeys fits rule w row e → Obeys fits rule w row f → e ≡ f
obeys_fixed fits rule w row e f tree? o p =
    by_bool (lengths_right w && fits)
    (λ l.
    by_bool (in_range w.state.settings)
    (λ s.
    ⊎_elim
    (λ t. o.tree l s t.0 t.1 ∙ sym (p.tree l s t.0 t.1))
    (λ n. o.no_tree l s n ∙ sym (p.no_tree l s n))
    tree?)
    (λ s. o.bad_settings l s ∙ sym (p.bad_settings l s)))
    (λ l. o.bad_length l ∙ sym (p.bad_length l))

-- and two exits of one make
pub make_fixed : (w : World) (s : Settings) (w₁ w₂ : World) (a b : Reply (Unit {0})) → Make w s w₁ a → Make w s w₂ b → (w₁ ≡ w₂) × (a ≡ b)
make_fixed w s w₁ w₂ a b m n =
    by_bool (lengths_right w)
    (λ l.
    by_bool (in_range s)
    (λ r. same (m.made l r) (n.made l r))
    (λ r. same (m.bad_settings l r) (n.bad_settings l r)))
    (λ l. same (m.bad_length l) (n.bad_length l))
  where
    same : {v : World} {c : Reply (Unit {0})} → (w₁ ≡ v) × (a ≡ c) → (w₂ ≡ v) × (b ≡ c) → (w₁ ≡ w₂) × (a ≡ b)
    same p q = (p.0 ∙ sym q.0, p.1 ∙ sym q.1)

-- and of one patch
pub patch_fixed : (w : World) (p : Patch) (w₁ w₂ : World) (a b : Reply ℕ) → ((x : Shape) × Holds w x) ⊎ ((x : Shape) → Holds w x → ⊥)
    → LayPatch w p w₁ a → LayPatch w p w₂ b → (w₁ ≡ w₂) × (a ≡ b)
patch_fixed w p w₁ w₂ a b tree? l m =
    by_bool (patch_fits p)
    (λ e.
    let same = obeys_fixed true (patch_rule p) w [] (exit w₁ [] a) (exit w₂ [] b) tree? (l.good_patch e) (m.good_patch e) in
    (ap (λ f. f.world) same, ap (λ f. f.reply) same))
    (λ e. let bad = l.bad_patch e in let also = m.bad_patch e in (bad.0 ∙ sym also.0, bad.1 ∙ sym also.1))

-- a call on a tree: the shape that is found tells what it leaves
module _ {B A : Type 0} (fits : Bool) (rule : Shape → Verdict B A) (w : World) (row : List B) (e : Exit B A) where
  pub by-tree : lengths_right w && fits ≡ true → in_range w.state.settings ≡ true → (x : Shape) → Holds w x → e ≡ carried_out w row (rule x)
      → Obeys fits rule w row e
  by-tree l s x h p =
      record {
        bad_length = λ l'. true_false (sym l ∙ l');
        bad_settings = λ _ s'. true_false (sym s ∙ s');
        no_tree = λ _ _ n. absurd (n x h);
        tree = λ _ _ y k. p ∙ ap (λ (z : Shape). carried_out w row (rule z)) (holds-one w x y h k);
      }

-- a patch, by the tests of its own
module _ (w : World) (p : Patch) where
  pub by-good_patch : (w' : World) (reply : Reply ℕ) → patch_fits p ≡ true → Obeys true (patch_rule p) w [] (exit w' [] reply) → LayPatch w p w' reply
  by-good_patch w' reply e call = record { bad_patch = λ f. true_false (sym e ∙ f); good_patch = λ f. call }

  pub by-bad_patch : patch_fits p ≡ false → LayPatch w p w (refused 13)
  by-bad_patch e = record { bad_patch = λ f. (refl, refl); good_patch = λ f. true_false (sym f ∙ e) }

-- an accepted call was made on a tree
abbrev is_answered : {A : Type 0} → Reply A → Bool
is_answered (refused k) = false
is_answered (too_many n) = false
is_answered (answered a) = true

module _ {B A : Type 0} (rule : Shape → Verdict B A) (w : World) (row : List B) (w' : World) (row' : List B) (a : A) where
  not-refused : {v : World} {row'' : List B} {k : ℕ} {X : Type 0} → exit w' row' (answered a) ≡ exit v row'' (refused k) → X
  not-refused e = true_false (ap (λ (f : Exit B A). is_answered f.reply) e)

  pub answered-tree : Obeys true rule w row (exit w' row' (answered a)) → (test : Bool)
      → ((x : Shape) → Holds w x → exit w' row' (answered a) ≡ carried_out w row (rule x) → test ≡ true) → test ≡ true
  answered-tree o test holds =
      by_bool test (λ e. e)
      (λ no.
      by_bool (lengths_right w && true)
      (λ l.
      by_bool (in_range w.state.settings)
      (λ s. not-refused (o.no_tree l s (λ x h. true_false (sym (holds x h (o.tree l s x h)) ∙ no))))
      (λ s. not-refused (o.bad_settings l s)))
      (λ l. not-refused (o.bad_length l)))

-- §11.7: a refused call keeps state, nodes, dots, rects and its row
pub record Untouched {B A : Type 0} (w : World) (row : List B) (e : Exit B A) : Type 0 where
  pub state : e.world.state ≡ w.state
  pub nodes : e.world.nodes ≡ w.nodes
  pub dots : e.world.dots ≡ w.dots
  pub rects : e.world.rects ≡ w.rects
  pub answers : e.row ≡ row

module _ {B A : Type 0} (w : World) (row : List B) where
  same-exit : (e f : Exit B A) → e ≡ f → Untouched w row f → Untouched w row e
  same-exit e f p u = subst (Untouched w row) (sym p) u

  kept : (reply : Reply A) → Untouched w row (exit w row reply)
  kept reply = record { state = refl; nodes = refl; dots = refl; rects = refl; answers = refl }

  kept-cleared : (reply : Reply A) → Untouched w row (exit (cleared w) row reply)
  unfolding cleared
  kept-cleared reply = record { state = refl; nodes = refl; dots = refl; rects = refl; answers = refl }

  verdict-kept : (v : Verdict B A) → 1 ≤ refusal (carried_out w row v).reply → Untouched w row (carried_out w row v)
  verdict-kept (refuse k) h = kept-cleared (refused k)
  verdict-kept (overflow n) h = kept-cleared (too_many n)
  verdict-kept (accept x words a) h = absurd (omega arith)

pub refused-untouched : {B A : Type 0} (fits : Bool) (rule : Shape → Verdict B A) (w : World) (row : List B) (e : Exit B A)
    → ((x : Shape) × Holds w x) ⊎ ((x : Shape) → Holds w x → ⊥) → Obeys fits rule w row e → 1 ≤ refusal e.reply → Untouched w row e
refused-untouched fits rule w row e tree? o h =
    by_bool (lengths_right w && fits)
    (λ l.
    by_bool (in_range w.state.settings)
    (λ s.
    ⊎_elim
    (λ t.
    let p = o.tree l s t.0 t.1 in
    same-exit w row e (carried_out w row (rule t.0)) p (verdict-kept w row (rule t.0) (subst (λ f. 1 ≤ refusal f.reply) p h)))
    (λ n. same-exit w row e (exit (cleared w) row (refused 3)) (o.no_tree l s n) (kept-cleared w row (refused 3)))
    tree?)
    (λ s. same-exit w row e (exit w row (refused 2)) (o.bad_settings l s) (kept w row (refused 2))))
    (λ l. same-exit w row e (exit w row (refused 1)) (o.bad_length l) (kept w row (refused 1)))

-- so does a refused patch
pub patch-untouched : (w : World) (p : Patch) (v : World) (reply : Reply ℕ) → ((x : Shape) × Holds w x) ⊎ ((x : Shape) → Holds w x → ⊥)
    → LayPatch w p v reply → 1 ≤ refusal reply → Untouched {B = ℕ} w [] (exit v [] reply)
patch-untouched w p v reply tree? l h =
    by_bool (patch_fits p)
    (λ e. refused-untouched true (patch_rule p) w [] (exit v [] reply) tree? (l.good_patch e) h)
    (λ e. rw (l.bad_patch e).0 (kept w [] reply))

zero-marks : {B A : Type 0} (w : World) (row : List B) (v : Verdict B A) → (n : ℕ) × ((carried_out w row v).world.marks ≡ replicate n 0)
unfolding cleared layout
zero-marks w row (refuse k) = (length w.marks, refl)
zero-marks w row (overflow n) = (length w.marks, refl)
zero-marks w row (accept x words a) = (x.places + x.groups, refl)

-- §2.13: the marks after a call that is not refused 1 or 2
pub marks-cleared : {B A : Type 0} (fits : Bool) (rule : Shape → Verdict B A) (w : World) (row : List B) (e : Exit B A)
    → ((x : Shape) × Holds w x) ⊎ ((x : Shape) → Holds w x → ⊥) → Obeys fits rule w row e → refusal e.reply ≢ 1 → refusal e.reply ≢ 2
    → (n : ℕ) × (e.world.marks ≡ replicate n 0)
unfolding cleared layout
marks-cleared fits rule w row e tree? o not-1 not-2 =
    by_bool (lengths_right w && fits)
    (λ l.
    by_bool (in_range w.state.settings)
    (λ s.
    ⊎_elim
    (λ t. let z = zero-marks w row (rule t.0) in (z.0, ap (λ f. f.world.marks) (o.tree l s t.0 t.1) ∙ z.1))
    (λ n. (length w.marks, ap (λ f. f.world.marks) (o.no_tree l s n)))
    tree?)
    (λ s. absurd (not-2 (ap (λ f. refusal f.reply) (o.bad_settings l s)))))
    (λ l. absurd (not-1 (ap (λ f. refusal f.reply) (o.bad_length l))))
