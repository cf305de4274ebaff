-- Laws of the calls on a world that is a tree: what each leaves, by the cases of its rule.
--     answered-same        equal answers say the same
--     left-refused, left-overflow, left-accepted   what a verdict leaves
--     count_left, count_fits       the test of the count, and what it says
--     counted_cases, counted_low, counted-fits, counted_past       refusal 16: where a change can be counted, and where not
--     verdict_cases, insert_cases  what an insert needs is there, or it is refused
--     Says, says-just, says-no, says_no-only       a call that says yes or no, and which it says
--     remove-says, cleanup-says
--     listing-short, listing_done, listing-front   a call that lists ids; query-left, all_left: which they are
use Rattle.std.specs.Prelude.{◌≡◌, ◌⊎◌, List, [], ◌++◌, Bool, true, false, ◌||◌, ℕ, ◌+◌, ◌-◌, ◌≤◌, ◌<◌, length, take, drop, eqb, ltb, leb}
use Rattle.std.proofs.Math.Path.{refl}
use Rattle.std.proofs.Common.{ap, sym, ◌∙◌, subst, inl, inr, ⊎_elim, arith}
use Rattle.std.proofs.Math.Decide.{dec_le}
use Rattle.std.proofs.Math.Seq.{take-append_seam}
use Rattle.geometry.specs.declared.aabb.AABB.{AABB}
use Rattle.model.proofs.Laws.Sums.{by_dec}
use Rattle.arithmetic.proofs.Laws.Tests.{by_bool, true_false}
use Rattle.geometry.specs.Rectangles.{inverted, far_out}
use Rattle.geometry.specs.Settings.{root_of, contains, acceptable}
use Rattle.model.specs.declared.Dot.{Dot}
use Rattle.model.specs.declared.State.{State}
use Rattle.model.specs.declared.Window.{Window}
use Rattle.model.specs.Dots.{good_ink, acceptable_dot}
use Rattle.model.specs.Trees.{size}
use Rattle.model.specs.Shapes.{Shape, Valid, inserted, splits_made, splits_needed, removed, found_by, cleaned, cleans, listed, all_ids}
use Rattle.model.specs.Layout.{World, Holds}
use Rattle.model.specs.declared.answers.Found.{Found}
use Rattle.model.specs.Calls.{Reply, refused, too_many, answered, Verdict, refuse, overflow, accept, Exit, exit, carried_out}
use Rattle.model.specs.Calls.{largest_count, counted, can_count, insert_verdict, insert_rule, yes_or_no}
use Rattle.model.specs.Calls.{remove_rule, cleanup_rule, listing, found_in, query_rule, all_rule, Remove, Cleanup, Query, All}
use borrow.Author.Tests.{eq-eqb, ltb-true, ltb-false, lt-ltb, le-ltb, leb-true, leb-false, le-leb, lt-leb}
use Rattle.model.proofs.Laws.Shapes.{live-and_free, removed-valid, cleaned-valid}
use Rattle.model.proofs.Laws.Layout.{layout-holds, cleared-holds, obeys-tree}

module _ {B A : Type 0} where
  pub world_of_lem : {e f : Exit B A} → e ≡ f → e.world ≡ f.world
  world_of_lem p = ap (λ e. e.world) p

  pub row_of : {e f : Exit B A} → e ≡ f → e.row ≡ f.row
  row_of p = ap (λ e. e.row) p

  pub reply_of : {e f : Exit B A} → e ≡ f → e.reply ≡ f.reply
  reply_of p = ap (λ e. e.reply) p

-- equal answers say the same
abbrev value_or : {A : Type 0} → A → Reply A → A
value_or a (refused k) = a
value_or a (too_many n) = a
value_or a (answered b) = b

pub answered-same : {A : Type 0} {a b : A} → answered a ≡ answered b → a ≡ b
answered-same {a = a} e = ap (value_or a) e

-- ---- what a verdict leaves

module _ {B A : Type 0} (w : World) (row : List B) (v : World) (row' : List B) (reply : Reply A) (x : Shape) (h : Holds w x) (verdict : Verdict B A)
    (left : exit v row' reply ≡ carried_out w row verdict) where
  pub left-refused : (k : ℕ) → verdict ≡ refuse k → Holds v x × (reply ≡ refused k)
  left-refused k e =
      let p = left ∙ ap (carried_out w row) e in
      (subst (λ (u : World). Holds u x) (sym (world_of_lem p)) (cleared-holds w x h), reply_of p)

  pub left-overflow : (n : ℕ) → verdict ≡ overflow n → Holds v x × (reply ≡ too_many n)
  left-overflow n e =
      let p = left ∙ ap (carried_out w row) e in
      (subst (λ (u : World). Holds u x) (sym (world_of_lem p)) (cleared-holds w x h), reply_of p)

  pub left-accepted : (y : Shape) (words : List B) (a : A) → verdict ≡ accept y words a → Valid y
      → Holds v y × (reply ≡ answered a) × (row' ≡ words ++ drop (length words) row)
  left-accepted y words a e valid =
      let p = left ∙ ap (carried_out w row) e in
      (subst (λ (u : World). Holds u y) (sym (world_of_lem p)) (layout-holds y valid), reply_of p, row_of p)

-- ---- refusal 16

-- the test, without a sum that would pass the largest
pub count_left : (s : State) (number : ℕ) → number ≤ 18446744073709551615 → leb s.changes (18446744073709551615 - number) ≡ can_count s number
unfolding can_count largest_count
count_left s number fits =
    by_bool (leb (s.changes + number) 18446744073709551615)
    (λ e. rw e (le-leb s.changes (18446744073709551615 - number) (omega (arith, leb-true (s.changes + number) 18446744073709551615 e))))
    (λ e. rw e (lt-leb s.changes (18446744073709551615 - number) (omega (arith, leb-false (s.changes + number) 18446744073709551615 e))))

-- one change more fits the count
pub count_fits : (s : State) → can_count s 1 ≡ true → s.changes + 1 < 18446744073709551616
unfolding can_count largest_count
count_fits s e = omega (arith, leb-true (s.changes + 1) 18446744073709551615 e)

module _ {B A : Type 0} (y : Shape) (row : List B) (a : A) where
  pub counted_cases : ((counted (accept y row a) ≡ refuse 16) × (largest_count < y.changes))
      ⊎ ((counted (accept y row a) ≡ accept y row a) × (y.changes ≤ largest_count))
  counted_cases =
      by_bool (ltb largest_count y.changes)
      (λ e. inl (rw e refl, ltb-true largest_count y.changes e))
      (λ e. inr (rw e refl, ltb-false largest_count y.changes e))

  pub counted_low : y.changes ≤ largest_count → counted (accept y row a) ≡ accept y row a
  counted_low low = rw (le-ltb largest_count y.changes low) refl

  -- by the test of the state
  module _ (s : State) (number : ℕ) {fits : Bool} (told : fits ≡ can_count s number) (more : y.changes ≡ s.changes + number) where
    pub counted-fits : fits ≡ true → counted (accept y row a) ≡ accept y row a
    unfolding can_count
    counted-fits e = counted_low (omega (arith, more, leb-true (s.changes + number) largest_count (sym told ∙ e)))

    pub counted_past : fits ≡ false → counted (accept y row a) ≡ refuse 16
    unfolding can_count
    counted_past e = rw (lt-ltb largest_count y.changes (omega (arith, more, leb-false (s.changes + number) largest_count (sym told ∙ e)))) refl

-- a refusal that comes after 3 and fits a byte; 16 only if the count would come to `top`, past the largest
pub record Refusing (k top : ℕ) : Type 0 where
  pub late : 4 ≤ k
  pub byte : k ≤ 255
  pub sixteen : k ≡ 16 → largest_count < top

-- one that is not 16
pub other_refusal : (k top : ℕ) → 4 ≤ k → k ≤ 15 → Refusing k top
other_refusal k top late few = record { late = late; byte = omega arith; sixteen = λ e. absurd (omega arith) }

pub sixteen-refusal : (top : ℕ) → largest_count < top → Refusing 16 top
sixteen-refusal top past = record { late = omega arith; byte = omega arith; sixteen = λ e. past }

-- ---- insert

-- the insert is refused, or what it needs is there
abbrev pub Goes : Dot → Shape → Type 0
Goes dot x =
    (acceptable_dot x.settings dot ≡ true) × (1 ≤ length x.free_places) × (splits_needed dot x ≤ length x.free_groups)
    × (insert_verdict dot x ≡ accept (inserted dot x) [] (splits_made dot x))

-- whatever the count of changes
pub verdict_cases : (dot : Dot) (x : Shape) → Valid x → ((k : ℕ) × (insert_verdict dot x ≡ refuse k) × (4 ≤ k) × (k ≤ 10)) ⊎ Goes dot x
unfolding insert_verdict acceptable acceptable_dot
verdict_cases dot x v =
    let r = dot.rect in
    by_bool (inverted r || far_out r)
    (λ e₄. inl (4, rw e₄ refl, omega arith, omega arith))
    (λ e₄.
    by_bool (good_ink dot)
    (λ e₁₀.
    by_bool (contains (root_of x.settings) r)
    (λ e₅.
    by_bool (eqb (size x.tree) x.places)
    (λ e₆. inl (6, rw (e₄, e₁₀, e₅, e₆) refl, omega arith, omega arith))
    (λ e₆.
    by_bool (ltb (length x.free_groups) (splits_needed dot x))
    (λ e₇. inl (7, rw (e₄, e₁₀, e₅, e₆, e₇) refl, omega arith, omega arith))
    (λ e₇.
    let room : 1 ≤ length x.free_places =
    by_dec (dec_le 1 (length x.free_places)) (λ h. h)
    (λ h. true_false (sym (eq-eqb (size x.tree) x.places (omega (arith, live-and_free x v))) ∙ e₆)) in
    inr (rw (e₄, e₁₀, e₅) refl, room, ltb-false (length x.free_groups) (splits_needed dot x) e₇, rw (e₄, e₁₀, e₅, e₆, e₇) refl))))
    (λ e₅. inl (5, rw (e₄, e₁₀, e₅) refl, omega arith, omega arith)))
    (λ e₁₀. inl (10, rw (e₄, e₁₀) refl, omega arith, omega arith)))

-- with 16, last of all
pub insert_cases : (dot : Dot) (x : Shape) → Valid x
    → ((k : ℕ) × (insert_rule dot x ≡ refuse k) × Refusing k (x.changes + 1))
    ⊎ (Goes dot x × (insert_rule dot x ≡ accept (inserted dot x) [] (splits_made dot x)))
unfolding insert_rule inserted
insert_cases dot x v =
    ⊎_elim
    (λ k. inl (k.0, ap counted k.1, other_refusal k.0 (x.changes + 1) k.2 (omega (arith, k.3))))
    (λ g.
    ⊎_elim
    (λ c. inl (16, ap counted g.3 ∙ c.0, sixteen-refusal (x.changes + 1) c.1))
    (λ c. inr (g, ap counted g.3 ∙ c.0))
    (counted_cases (inserted dot x) [] (splits_made dot x)))
    (verdict_cases dot x v)

-- ---- yes or no

-- of a call that leaves `other` where it says yes
abbrev pub Says : Shape → Bool → Shape → Reply Bool → Shape → Type 0
Says x yes? other reply y =
    ((y ≡ x) × (reply ≡ answered false) × (yes? ≡ false))
    ⊎ (((y ≡ x) × (reply ≡ refused 16) × (largest_count < other.changes) × (yes? ≡ true)) ⊎ ((y ≡ other) × (reply ≡ answered true) × (yes? ≡ true)))

module _ {x : Shape} {yes? : Bool} {other : Shape} {reply : Reply Bool} {y : Shape} where
  -- where the change can be counted
  pub says-just : other.changes ≤ largest_count → Says x yes? other reply y → reply ≡ answered yes?
  says-just low s =
      ⊎_elim (λ no. no.1 ∙ ap answered (sym no.2)) (⊎_elim (λ top. absurd (omega (arith, top.2))) (λ yes. yes.1 ∙ ap answered (sym yes.2))) s

  -- a no needs no count
  pub says_no-only : yes? ≡ false → Says x yes? other reply y → reply ≡ answered false
  says_no-only e s = ⊎_elim (λ no. no.1) (⊎_elim (λ top. true_false (sym top.3 ∙ e)) (λ yes. true_false (sym yes.2 ∙ e))) s

abbrev says_no : Reply Bool → Bool
says_no (refused k) = false
says_no (too_many n) = false
says_no (answered true) = false
says_no (answered false) = true

-- it said no, so it had to
pub says-no : {x : Shape} {yes? : Bool} {other y : Shape} → Says x yes? other (answered false) y → yes? ≡ false
says-no s = ⊎_elim (λ no. no.2) (⊎_elim (λ top. true_false (ap says_no top.1)) (λ yes. true_false (ap says_no yes.1))) s

says_cases : (w v : World) (reply : Reply Bool) (x : Shape) → Holds w x → (yes? : Bool) (other : Shape) → (yes? ≡ true → Valid other)
    → exit v [] reply ≡ carried_out w [] (yes_or_no yes? other x) → (y : Shape) × Holds v y × Says x yes? other reply y
says_cases w v reply x h true other valid left =
    ⊎_elim
    (λ c. let a = left-refused w [] v [] reply x h (yes_or_no true other x) left 16 c.0 in (x, a.0, inr (inl (refl, a.1, c.1, refl))))
    (λ c.
    let a = left-accepted w [] v [] reply x h (yes_or_no true other x) left other [] true c.0 (valid refl) in
    (other, a.0, inr (inr (refl, a.1, refl))))
    (counted_cases {B = ℕ} other [] true)
says_cases w v reply x h false other valid left =
    let a = left-accepted w [] v [] reply x h (yes_or_no false other x) left x [] false refl h.valid in (x, a.0, inl (refl, a.1, refl))

pub remove-says : (w : World) (id : ℕ) (r : AABB) (v : World) (reply : Reply Bool) → Remove w id r v reply → (x : Shape) → Holds w x
    → (y : Shape) × Holds v y × Says x (found_by id r x) (removed id r x) reply y
unfolding Remove remove_rule
remove-says w id r v reply call x h =
    says_cases w v reply x h (found_by id r x) (removed id r x) (removed-valid id r x h.valid)
    (obeys-tree (remove_rule id r) w [] (exit v [] reply) call x h)

pub cleanup-says : (w v : World) (reply : Reply Bool) → Cleanup w v reply → (x : Shape) → Holds w x
    → (y : Shape) × Holds v y × Says x (cleans x) (cleaned x) reply y
unfolding Cleanup cleanup_rule
cleanup-says w v reply call x h =
    says_cases w v reply x h (cleans x) (cleaned x) (λ e. cleaned-valid x h.valid) (obeys-tree cleanup_rule w [] (exit v [] reply) call x h)

-- ---- calls that list ids

module _ {A : Type 0} (w : World) (row : List ℕ) (v : World) (row' : List ℕ) (reply : Reply A) (x : Shape) (h : Holds w x) (ids : List ℕ) (a : A)
    (left : exit v row' reply ≡ carried_out w row (listing (length row) x ids a)) where
  -- too short a row
  pub listing-short : ltb (length row) (length ids) ≡ true → Holds v x × (reply ≡ too_many (length ids))
  listing-short e = left-overflow w row v row' reply x h (listing (length row) x ids a) left (length ids) (rw e refl)

  pub listing_done : ltb (length row) (length ids) ≡ false → Holds v x × (reply ≡ answered a) × (row' ≡ ids ++ drop (length ids) row)
  listing_done e = left-accepted w row v row' reply x h (listing (length row) x ids a) left x ids a (rw e refl) h.valid

  -- the row begins with the ids
  pub listing-front : ltb (length row) (length ids) ≡ false → take (length ids) row' ≡ ids
  listing-front e = ap (take (length ids)) (listing_done e).2 ∙ take-append_seam ids (drop (length ids) row)

pub query-left : (w : World) (q : Window) (row : List ℕ) (v : World) (row' : List ℕ) (reply : Reply Found) → Query w q row v row' reply
    → (x : Shape) → Holds w x → exit v row' reply ≡ carried_out w row (listing (length row) x (listed q x) (found_in q x))
unfolding Query query_rule
query-left w q row v row' reply call x h = obeys-tree (query_rule q (length row)) w row (exit v row' reply) call x h

pub all_left : (w : World) (row : List ℕ) (v : World) (row' : List ℕ) (reply : Reply ℕ) → All w row v row' reply
    → (x : Shape) → Holds w x → exit v row' reply ≡ carried_out w row (listing (length row) x (all_ids x) (length (all_ids x)))
unfolding All all_rule
all_left w row v row' reply call x h = obeys-tree (all_rule (length row)) w row (exit v row' reply) call x h
