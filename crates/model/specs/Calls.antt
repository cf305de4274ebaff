-- The public calls over any lent words (§10, §11). What every call has in common is said once, in `Obeys`.
--     Reply        a call's answer, or its refusal with its number
--     Verdict      what a call does once the memory is a tree: refuse, or leave a shape, words in the row and an answer
--     Exit         what a call leaves: the world, the row, the reply
--     Obeys        THE PATTERN: for every world, what a call that follows a rule leaves
--     counted      refusal 16, said once for every call that changes the tree
--     listing      refusal 8, said once for the calls that list ids
--     Make, Insert, Remove, Cleanup, Query, CollectIds, All, Leaves, References, GridReport, Batch
use Rattle.std.specs.Prelude.{◌≡◌, List, [], ◌∷◌, ◌++◌, Bool, true, false, not, cond, ◌&&◌, ◌||◌, ℕ, ◌+◌, ◌*◌, ℤ, eqb, ltb, leb, length, drop}
use Rattle.geometry.specs.declared.aabb.AABB.{AABB}
use Rattle.geometry.specs.declared.settings.Settings.{Settings}
use Rattle.model.specs.declared.Dot.{Dot}
use Rattle.model.specs.declared.Window.{Window}
use Rattle.model.specs.declared.Record.{Record}
use Rattle.model.specs.declared.Kind.{Kind}
use Rattle.model.specs.declared.Kind.TheVariants as kind
use Rattle.model.specs.declared.State.{State}
use Rattle.model.specs.declared.answers.Found.{Found}
use Rattle.geometry.specs.Rectangles.{inverted, far_out}
use Rattle.geometry.specs.Settings.{root_of, in_range, contains, root_rect}
use Rattle.grid.specs.declared.grid.Grid.{Grid}
use Rattle.grid.specs.Grids.{windows, sizes_fit, corner_fits}
use Rattle.model.specs.Dots.{good_ink, of_all_inks}
use Rattle.model.specs.Kinds.{kind_of}
use Rattle.model.specs.Trees.{size}
use Rattle.model.specs.Shapes.{Shape, fresh, inserted, splits_made, splits_needed, removed, found_by}
use Rattle.model.specs.Shapes.{cleaned, cleans, listed, opens_for, all_ids, leaves, leaf_number, references}
use Rattle.model.specs.Grid.{grid_counts, grid_total}
use Rattle.model.specs.Layout.{World, groups_of, places_of, lengths_right, layout, cleared, Holds}

-- §11.8: a refusal has its number; `tooMany` is refusal 8 with how many answers there are (§11.5)
pub data Reply (A : Type 0) : Type 0 where
  refused : ℕ → Reply A
  too_many : ℕ → Reply A
  answered : A → Reply A

-- §11.1: the number of a refusal; 0 for a call that is not refused
abbrev pub refusal : {A : Type 0} → Reply A → ℕ
refusal (refused k) = k
refusal (too_many n) = 8
refusal (answered a) = 0

-- what a call does with a tree. B: the words of its row; A: its answer.
pub data Verdict (B A : Type 0) : Type 0 where
  refuse : ℕ → Verdict B A
  overflow : ℕ → Verdict B A
  accept : Shape → List B → A → Verdict B A

pub record Exit (B A : Type 0) : Type 0 where
  pub world : World
  pub row : List B
  pub reply : Reply A

module _ {B A : Type 0} where
  abbrev pub exit : World → List B → Reply A → Exit B A
  exit w row reply = record { world = w; row = row; reply = reply }

  -- §11.7: a refused call keeps all but the marks; §8.4, §9.2: the row's words after the answers are kept
  abbrev pub carried_out : World → List B → Verdict B A → Exit B A
  carried_out w row (refuse k) = exit (cleared w) row (refused k)
  carried_out w row (overflow n) = exit (cleared w) row (too_many n)
  carried_out w row (accept x words a) = exit (layout x) (words ++ drop (length words) row) (answered a)

  -- §11.3, §11.7: refusals 1, 2, 3 in this order; 1 and 2 keep the marks too; else the rule.
  -- rowFits: what a call asks of its rows' lengths besides (the batch alone asks something).
  pub record Obeys (row_fits : Bool) (rule : Shape → Verdict B A) (w : World) (row : List B) (e : Exit B A) : Type 0 where
    pub bad_length : lengths_right w && row_fits ≡ false → e ≡ exit w row (refused 1)
    pub bad_settings : lengths_right w && row_fits ≡ true → in_range w.state.settings ≡ false → e ≡ exit w row (refused 2)
    pub no_tree : lengths_right w && row_fits ≡ true → in_range w.state.settings ≡ true → ((x : Shape) → Holds w x → ⊥)
        → e ≡ exit (cleared w) row (refused 3)
    pub tree : lengths_right w && row_fits ≡ true → in_range w.state.settings ≡ true → (x : Shape) → Holds w x
        → e ≡ carried_out w row (rule x)

-- ---- the rules

-- §21.1: the count is a u64
unfoldable pub largest_count : ℕ
largest_count = 18446744073709551615

-- §21.2: 16, last of all, where the call would raise the count past the largest
abbrev pub counted : {B A : Type 0} → Verdict B A → Verdict B A
counted (refuse k) = refuse k
counted (overflow n) = overflow n
counted (accept x row a) = cond (ltb largest_count x.changes) (refuse 16) (accept x row a)

-- whether so many changes more can be counted
unfoldable pub can_count : State → ℕ → Bool
can_count s number = leb (s.changes + number) largest_count

-- §11.4: refusals 4, 10, 5, 6, 7, else §5
unfoldable pub insert_verdict : Dot → Shape → Verdict ℕ ℕ
insert_verdict dot x =
    let r = dot.rect in
    cond (inverted r || far_out r) (refuse 4)
    (cond (not (good_ink dot)) (refuse 10)
    (cond (not (contains (root_of x.settings) r)) (refuse 5)
    (cond (eqb (size x.tree) x.places) (refuse 6)
    (cond (ltb (length x.free_groups) (splits_needed dot x)) (refuse 7)
    (accept (inserted dot x) [] (splits_made dot x))))))

-- §11.4: last of all 16
unfoldable pub insert_rule : Dot → Shape → Verdict ℕ ℕ
insert_rule dot x = counted (insert_verdict dot x)

-- §11.6: yes, which is a change, and refused 16 where it cannot be counted; or no, and the tree as it was
abbrev pub yes_or_no : Bool → Shape → Shape → Verdict ℕ Bool
yes_or_no yes? other x = cond yes? (counted (accept other [] true)) (accept x [] false)

-- §6.3
unfoldable pub remove_rule : ℕ → AABB → Shape → Verdict ℕ Bool
remove_rule id r x = yes_or_no (found_by id r x) (removed id r x) x

-- §7.5
unfoldable pub cleanup_rule : Shape → Verdict ℕ Bool
cleanup_rule x = yes_or_no (cleans x) (cleaned x) x

-- §9.3, §11.6: on a tree it is never refused
unfoldable pub references_rule : Shape → Verdict ℕ ℕ
references_rule x = accept x [] (references x)

-- §11.5: refusal 8 if there are more ids than words in the row; else the ids, and the answer
abbrev pub listing : {A : Type 0} → ℕ → Shape → List ℕ → A → Verdict ℕ A
listing room x ids a = cond (ltb room (length ids)) (overflow (length ids)) (accept x ids a)

-- §8.4
abbrev pub found_in : Window → Shape → Found
found_in q x = record { hits = length (listed q x); opened = opens_for q.rect x }

unfoldable pub query_rule : Window → ℕ → Shape → Verdict ℕ Found
query_rule q room x = listing room x (listed q x) (found_in q x)

-- §8.5: a query with the root's rectangle, of all inks
unfoldable pub collect_ids_rule : ℕ → Shape → Verdict ℕ Found
collect_ids_rule room x = query_rule (of_all_inks (root_rect x.settings)) room x

-- §8.7: every dot, and how many there are
unfoldable pub all_rule : ℕ → Shape → Verdict ℕ ℕ
all_rule room x = listing room x (all_ids x) (length (all_ids x))

-- §9, §11.5: a leaf takes six words of the row
unfoldable pub leaves_rule : ℕ → Shape → Verdict ℤ ℕ
leaves_rule room x = let n = leaf_number x in cond (ltb room (6 * n)) (overflow n) (accept x (leaves x) n)

-- §19.3, §19.4: refusals 11 and 12, then 8 if there are more windows than words in the row
unfoldable pub grid_rule : Grid → ℕ → Shape → Verdict ℕ ℕ
grid_rule g room x =
    cond (not (sizes_fit g)) (refuse 11)
    (cond (not (corner_fits g)) (refuse 12)
    (cond (ltb room (windows g)) (overflow (windows g)) (accept x (grid_counts g x) (grid_total g x))))

-- ---- the batch

-- §10.4: the word of a yes or no
abbrev pub yes_no : Bool → ℕ
yes_no true = 1
yes_no false = 0

-- what a record leaves: the shape, and its answer word
pub record Recorded : Type 0 where
  pub shape : Shape
  pub word : ℕ

-- §10.4: the word of a refusal
abbrev pub refused_word : ℕ → ℕ
refused_word k = 4294967040 + k

-- §10.4, §10.5: a refused record leaves the shape as it was
abbrev pub recorded : {B A : Type 0} → (A → ℕ) → Shape → Verdict B A → Recorded
recorded word x (refuse k) = record { shape = x; word = refused_word k }
recorded word x (overflow n) = record { shape = x; word = refused_word 8 }
recorded word x (accept y row a) = record { shape = y; word = word a }

-- §10.2, §10.5: the kinds, and 9 for any other
abbrev pub carry_out_as : Kind → Dot → Shape → Recorded
carry_out_as kind.Insert dot x = recorded (λ splits. splits) x (insert_rule dot x)
carry_out_as kind.Remove dot x = recorded yes_no x (remove_rule dot.id dot.rect x)
carry_out_as kind.Cleanup dot x = recorded yes_no x (cleanup_rule x)
carry_out_as kind.Unknown dot x = record { shape = x; word = refused_word 9 }

unfoldable pub carry_out : Record → Shape → Recorded
carry_out r x = carry_out_as (kind_of r.kind) r.dot x

-- §10.3: record after record, each on what the one before left
abbrev pub batch_shape : List Record → Shape → Shape
batch_shape [] x = x
batch_shape (r ∷ rs) x = batch_shape rs (carry_out r x).shape

abbrev pub batch_words : List Record → Shape → List ℕ
batch_words [] x = []
batch_words (r ∷ rs) x = (carry_out r x).word ∷ batch_words rs (carry_out r x).shape

unfoldable pub batch_rule : List Record → Shape → Verdict ℕ (Unit {0})
batch_rule rs x = accept (batch_shape rs x) (batch_words rs x) tt

-- ---- the calls

unfoldable pub Insert : World → Dot → World → Reply ℕ → Type 0
Insert w dot w' reply = Obeys true (insert_rule dot) w [] (exit w' [] reply)

unfoldable pub Remove : World → ℕ → AABB → World → Reply Bool → Type 0
Remove w id r w' reply = Obeys true (remove_rule id r) w [] (exit w' [] reply)

unfoldable pub Cleanup : World → World → Reply Bool → Type 0
Cleanup w w' reply = Obeys true cleanup_rule w [] (exit w' [] reply)

unfoldable pub References : World → World → Reply ℕ → Type 0
References w w' reply = Obeys true references_rule w [] (exit w' [] reply)

unfoldable pub Query : World → Window → List ℕ → World → List ℕ → Reply Found → Type 0
Query w q row w' row' reply = Obeys true (query_rule q (length row)) w row (exit w' row' reply)

unfoldable pub CollectIds : World → List ℕ → World → List ℕ → Reply Found → Type 0
CollectIds w row w' row' reply = Obeys true (collect_ids_rule (length row)) w row (exit w' row' reply)

unfoldable pub All : World → List ℕ → World → List ℕ → Reply ℕ → Type 0
All w row w' row' reply = Obeys true (all_rule (length row)) w row (exit w' row' reply)

unfoldable pub Leaves : World → List ℤ → World → List ℤ → Reply ℕ → Type 0
Leaves w row w' row' reply = Obeys true (leaves_rule (length row)) w row (exit w' row' reply)

unfoldable pub GridReport : World → Grid → List ℕ → World → List ℕ → Reply ℕ → Type 0
GridReport w g row w' row' reply = Obeys true (grid_rule g (length row)) w row (exit w' row' reply)

-- §10.1, §10.3: rows of one length; one check, before all records
unfoldable pub Batch : World → List Record → List ℕ → World → List ℕ → Reply (Unit {0}) → Type 0
Batch w rs row w' row' reply = Obeys (eqb (length rs) (length row)) (batch_rule rs) w row (exit w' row' reply)

-- §11.2, §2.11: refusals 1 and 2, which write nothing, else the fresh tree. Make is given no state: that of w is not read.
pub record Make (w : World) (s : Settings) (w' : World) (reply : Reply (Unit {0})) : Type 0 where
  pub bad_length : lengths_right w ≡ false → (w' ≡ w) × (reply ≡ refused 1)
  pub bad_settings : lengths_right w ≡ true → in_range s ≡ false → (w' ≡ w) × (reply ≡ refused 2)
  pub made : lengths_right w ≡ true → in_range s ≡ true → (w' ≡ layout (fresh s (groups_of w) (places_of w))) × (reply ≡ answered tt)
