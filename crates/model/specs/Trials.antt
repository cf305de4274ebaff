-- The trials of §14.1 as one table, computed by the checker.
--     Trial, Line  a trial; a line of a trial that makes calls, with the answer that it must give
--     passes       whether it comes out so, by the definitions of Settings, Rectangles, Cells and Calls
--     table, all_pass      THE TABLE, and its one proof
--     further, further-pass        others, in the same form: dotcheck's lines, traps, and words of the layout
-- tests/trials reads the rows from this file and runs them on the compiled calls.
use Rattle.std.specs.Prelude.{◌≡◌, refl, List, [], ◌∷◌, Bool, true, false, not, ◌&&◌, ℕ, ℤ, pos, negsuc, eqb}
use Rattle.geometry.specs.declared.aabb.AABB.{AABB}
use Rattle.geometry.specs.declared.settings.Settings.{Settings}
use Rattle.model.specs.Sums.{indicator, changed}
use Rattle.model.specs.Dots.{good_ink, shows, all_inks, is_hit, matches}
use Rattle.geometry.specs.Rectangles.{flat, intersects, middle, within, inverted, near, far_out}
use Rattle.geometry.specs.Settings.{root_of, W, bits_within, bit_length, halvings, D, contains, root_rect}
use Rattle.geometry.specs.Cells.{route_cell, may_divide, root_cell, root_data, child_centre, quarter_cell, child_cell, child_data, quadrant}
use Rattle.geometry.specs.Cells.{route, both_tests, opens}
use Rattle.model.specs.Shapes.{Shape, fresh, inserted, splits_made, splits_needed, removed, found_by, cleaned, cleans}
use Rattle.model.specs.Shapes.{listed, opens_for, all_ids, leaves as leaf_row, leaf_number, references as dot_count}
use Rattle.model.specs.Layout.{none, branch_mark, layout}
use Rattle.model.specs.declared.Dot.{Dot}
use Rattle.model.specs.declared.answers.Asked.{Asked}
use Rattle.model.specs.declared.answers.Found.{Found}
use Rattle.model.specs.Calls.{Verdict, refuse, overflow, accept, recorded, refused_word, yes_no, largest_count, insert_verdict, insert_rule}
use Rattle.model.specs.Calls.{remove_rule, cleanup_rule, query_rule, collect_ids_rule, all_rule, leaves_rule, references_rule}
use Rattle.model.specs.Tickets.{ask_rule, place_rule}
use Rattle.arithmetic.specs.Ints.{max_z, min_z}
use Rattle.arithmetic.specs.Bits.{bit_at}

-- §14.1: the root and the limits, with a leaf limit
abbrev pub settings : ℕ → Settings
settings leaf_limit =
    record {
      left = pos 0;
      top = pos 0;
      width = pos 16;
      height = pos 16;
      depth_limit = 2;
      leaf_limit = leaf_limit;
      smallest_cell = 1;
    }

-- those of dotcheck's sample (§13.7)
abbrev sample : Settings
sample = settings 2

-- N, and the words of the row that a call is lent
abbrev places : ℕ
places = 8

abbrev room : ℕ
room = 24

abbrev pub rect : ℕ → ℕ → ℕ → ℕ → AABB
rect x1 y1 x2 y2 = record { x1 = pos x1; y1 = pos y1; x2 = pos x2; y2 = pos y2 }

-- an answer is the word that the batch writes (§10.4)
pub data Line : Type 0 where
  -- an id, a rectangle, an ink
  insert_ink : ℕ → AABB → ℕ → ℕ → Line
  remove : ℕ → AABB → ℕ → Line
  cleanup : ℕ → Line
  all : List ℕ → Line
  -- the ids, and the nodes opened
  collect_ids : List ℕ → ℕ → Line
  -- a rectangle and a mask; the ids, and the nodes opened
  query_inks : AABB → ℕ → List ℕ → ℕ → Line
  references : ℕ → Line
  -- the row, none of whose words is negative
  leaves : List ℕ → Line
  -- the words of the nodes and of the dots at this point
  words : List ℕ → List ℕ → Line
  -- the free groups at this point, the head first
  free_groups : List ℕ → Line
  -- an id and a rectangle; the splits or the refusal, and the count that the ticket has
  ask : ℕ → AABB → ℕ → ℕ → Line
  -- by a ticket for this id and rectangle, with this count
  place_by : ℕ → AABB → ℕ → ℕ → Line
  -- the count of changes at this point
  changes : ℕ → Line
  -- from here on the count of changes is this, as if so many had been made
  recounted : ℕ → Line

-- of ink 0; of all inks
abbrev insert : ℕ → AABB → ℕ → Line
insert id r word = insert_ink id r 0 word

abbrev query : AABB → List ℕ → ℕ → Line
query q ids opened = query_inks q all_inks ids opened

pub data Trial : Type 0 where
  -- the root contains the rectangle, or not
  contained : AABB → Bool → Trial
  -- the root routes the rectangle to this child
  routed : AABB → ℕ → Trial
  -- D
  deepest : ℕ → Trial
  -- the two rectangles intersect, or not
  meet : AABB → AABB → Bool → Trial
  -- from a fresh tree with this leaf limit and G: these calls with these answers
  calls : ℕ → ℕ → List Line → Trial

abbrev same_bool : Bool → Bool → Bool
same_bool true b = b
same_bool false b = not b

abbrev same_list : List ℕ → List ℕ → Bool
same_list [] [] = true
same_list [] (y ∷ ys) = false
same_list (x ∷ xs) [] = false
same_list (x ∷ xs) (y ∷ ys) = eqb x y && same_list xs ys

abbrev lists : {A : Type 0} → Verdict ℕ A → List ℕ → Bool
lists (refuse k) ids = false
lists (overflow n) ids = false
lists (accept x row a) ids = same_list row ids

abbrev same_row : List ℤ → List ℕ → Bool
same_row [] [] = true
same_row [] (n ∷ ns) = false
same_row (z ∷ zs) [] = false
same_row (pos m ∷ zs) (n ∷ ns) = eqb m n && same_row zs ns
same_row (negsuc m ∷ zs) (n ∷ ns) = false

abbrev lists_leaves : Verdict ℤ ℕ → List ℕ → Bool
lists_leaves (refuse k) row = false
lists_leaves (overflow n) row = false
lists_leaves (accept x given n) row = same_row given row

abbrev opens_just : Verdict ℕ Found → ℕ → Bool
opens_just (refuse k) n = false
opens_just (overflow m) n = false
opens_just (accept x row a) n = eqb a.opened n

abbrev tells : Verdict ℕ Asked → ℕ → ℕ → Bool
tells (refuse k) word count = eqb (refused_word k) word
tells (overflow n) word count = false
tells (accept x row a) word count = eqb a.splits word && eqb a.ticket.changes count

abbrev with_count : ℕ → Shape → Shape
with_count count x =
    record {
      settings = x.settings;
      groups = x.groups;
      places = x.places;
      tree = x.tree;
      free_groups = x.free_groups;
      free_places = x.free_places;
      changes = count;
    }

-- of ink 0
abbrev plain : ℕ → AABB → Dot
plain id r = record { id = id; rect = r; ink = 0 }

abbrev pass_lines : Shape → List Line → Bool
pass_lines x [] = true
pass_lines x (insert_ink id r ink word ∷ ls) =
    let v = recorded (λ n. n) x (insert_rule (record { id = id; rect = r; ink = ink }) x) in eqb v.word word && pass_lines v.shape ls
pass_lines x (remove id r word ∷ ls) = let v = recorded yes_no x (remove_rule id r x) in eqb v.word word && pass_lines v.shape ls
pass_lines x (cleanup word ∷ ls) = let v = recorded yes_no x (cleanup_rule x) in eqb v.word word && pass_lines v.shape ls
pass_lines x (all ids ∷ ls) = lists (all_rule room x) ids && pass_lines x ls
pass_lines x (collect_ids ids opened ∷ ls) = let v = collect_ids_rule room x in lists v ids && opens_just v opened && pass_lines x ls
pass_lines x (words nodes dots ∷ ls) = same_list (layout x).nodes nodes && same_list (layout x).dots dots && pass_lines x ls
pass_lines x (free_groups gs ∷ ls) = same_list x.free_groups gs && pass_lines x ls
pass_lines x (ask id r word count ∷ ls) = tells (ask_rule (plain id r) x) word count && pass_lines x ls
pass_lines x (place_by id r count word ∷ ls) =
    let v = recorded (λ n. n) x (place_rule (record { dot = plain id r; changes = count }) x) in eqb v.word word && pass_lines v.shape ls
pass_lines x (changes count ∷ ls) = eqb x.changes count && pass_lines x ls
pass_lines x (recounted count ∷ ls) = pass_lines (with_count count x) ls
pass_lines x (query_inks q inks ids opened ∷ ls) =
    let v = query_rule (record { rect = q; inks = inks }) room x in lists v ids && opens_just v opened && pass_lines x ls
pass_lines x (references n ∷ ls) = eqb (recorded (λ n. n) x (references_rule x)).word n && pass_lines x ls
pass_lines x (leaves row ∷ ls) = lists_leaves (leaves_rule room x) row && pass_lines x ls

abbrev passes : Trial → Bool
passes (contained r yes?) = same_bool (contains (root_of sample) r) yes?
passes (routed r child) = eqb (route (root_data sample) r) child
passes (deepest d) = eqb (D sample) d
passes (meet a b yes?) = same_bool (intersects a b) yes?
passes (calls leaf_limit groups ls) = pass_lines (fresh (settings leaf_limit) groups places) ls

abbrev pass_all : List Trial → Bool
pass_all [] = true
pass_all (t ∷ ts) = passes t && pass_all ts

abbrev three : List Line → List Line
three ls = insert 1 (rect 1 1 2 2) 0 ∷ insert 2 (rect 9 1 10 2) 0 ∷ insert 3 (rect 7 7 9 9) 1 ∷ ls

-- the six words of a leaf, and then those of the leaves after it
abbrev leaf : ℕ → ℕ → ℕ → ℕ → ℕ → ℕ → List ℕ → List ℕ
leaf x y half_width half_height depth count row = x ∷ y ∷ half_width ∷ half_height ∷ depth ∷ count ∷ row

-- the words of a place, of a free place, and then those of the places after it
abbrev place : ℕ → ℕ → ℕ → List ℕ → List ℕ
place id next ink row = id ∷ next ∷ ink ∷ row

abbrev free : ℕ → List ℕ → List ℕ
free next row = place 0 next 0 row

-- the nodes of a fresh tree with G = 1: all, and all but the root
abbrev fresh_group : List ℕ
fresh_group = none ∷ 0 ∷ none ∷ 0 ∷ none ∷ 0 ∷ none ∷ 0 ∷ none ∷ 0 ∷ []

abbrev fresh_nodes : List ℕ
fresh_nodes = none ∷ 0 ∷ fresh_group

abbrev pub table : List Trial
table =
    -- §14.1 a; the last finds a middle rounded toward zero
    contained (rect 15 15 17 17) true
    ∷ contained (rect 16 16 18 18) false
    ∷ contained (record { x1 = negsuc 0; y1 = negsuc 0; x2 = pos 0; y2 = pos 0 }) false
    -- b
    ∷ routed (rect 8 8 8 8) 1
    ∷ routed (rect 8 8 9 9) 0
    ∷ routed (rect 9 9 9 9) 4
    -- c
    ∷ meet (rect 9 1 10 2) (rect 10 0 12 4) false
    ∷ meet (rect 9 1 10 2) (rect 10 0 10 4) true
    -- d
    ∷ contained (rect 16 1 17 2) true
    ∷ calls 2 2 (insert 1 (rect 16 1 17 2) 0 ∷ collect_ids [] 1 ∷ all (1 ∷ []) ∷ [])
    -- e, f; the last finds a cleanup that takes off more than a level
    ∷ calls 1 2 (
    insert 1 (rect 1 1 2 2) 0 ∷ insert 2 (rect 3 3 3 3) 2 ∷ remove 1 (rect 1 1 2 2) 1 ∷ remove 2 (rect 3 3 3 3) 1
    ∷ cleanup 1 ∷ cleanup 1 ∷ cleanup 0 ∷ []
    )
    ∷ calls 1 1 (insert 1 (rect 1 1 2 2) 0 ∷ insert 2 (rect 3 3 3 3) (refused_word 7) ∷ [])
    -- g, h
    ∷ calls 2 8 (three (remove 1 (rect 3 3 4 4) 1 ∷ []))
    ∷ calls 2 8 (three (remove 1 (rect 9 1 10 2) 0 ∷ []))
    ∷ []

-- others: the lines of §13.7; the mistakes of §14.2 that `table` has not; the order of freed groups; every word after the three inserts of §13.7, with
-- G = 1; inks; the count of changes, asks and placings; all
abbrev pub further : List Trial
further =
    deepest 2
    -- a chain dealt without being reversed: both dots of the parent's chain 2, 1 go to child 1, where they must stand as 1, 2
    ∷ calls 2 8 (insert 1 (rect 1 1 2 2) 0 ∷ insert 2 (rect 3 3 3 3) 0 ∷ insert 3 (rect 9 9 10 10) 1 ∷ query (rect 0 0 16 16) (1 ∷ 2 ∷ 3 ∷ []) 6 ∷ [])
    -- groups 1 and 2 below children 1 and 4: child 4's is freed first, so that child 1's is the head; the root's own waits for the next call
    ∷ calls 1 4 (
    insert 1 (rect 1 1 1 1) 0 ∷ insert 2 (rect 15 15 15 15) 1 ∷ insert 3 (rect 3 3 3 3) 1 ∷ insert 4 (rect 13 13 13 13) 1
    ∷ remove 1 (rect 1 1 1 1) 1 ∷ remove 2 (rect 15 15 15 15) 1 ∷ remove 3 (rect 3 3 3 3) 1 ∷ remove 4 (rect 13 13 13 13) 1
    ∷ cleanup 1 ∷ free_groups (1 ∷ 2 ∷ 3 ∷ []) ∷ cleanup 1 ∷ free_groups (0 ∷ 1 ∷ 2 ∷ 3 ∷ []) ∷ cleanup 0 ∷ []
    )
    ∷ calls 2 8 (three (
    insert 4 (rect 16 16 18 18) (refused_word 5) ∷ query (rect 0 0 8 8) (3 ∷ 1 ∷ []) 3 ∷ remove 3 (rect 7 7 9 9) 1 ∷ cleanup 0 ∷ []
    ))
    -- a live number added up from the leaves: three dots, of which the leaves count two
    ∷ calls 2 8 (three (
    references 3 ∷ leaves (leaf 4 4 4 4 1 1 (leaf 12 4 4 4 1 1 (leaf 4 12 4 4 1 0 (leaf 12 12 4 4 1 0 [])))) ∷ []
    ))
    ∷ calls 2 1 (three (
    words
    (1 ∷ 4294967295 ∷ 2 ∷ 1 ∷ 0 ∷ 1 ∷ 1 ∷ 1 ∷ 4294967295 ∷ 0 ∷ 4294967295 ∷ 0 ∷ [])
    (place 1 none 0 (place 2 none 0 (place 3 none 0 (free 4 (free 5 (free 6 (free 7 (free none [])))))))) ∷ []
    ))
    ∷ calls 2 1 (words fresh_nodes (free 1 (free 2 (free 3 (free 4 (free 5 (free 6 (free 7 (free none [])))))))) ∷ [])
    -- refusal 10 comes after 4 and before 5, and ink 15 is taken
    ∷ calls 2 1 (
    insert_ink 1 (rect 2 2 1 1) 16 (refused_word 4) ∷ insert_ink 1 (rect 16 16 18 18) 16 (refused_word 10)
    ∷ insert_ink 1 (rect 16 16 18 18) 15 (refused_word 5) ∷ insert_ink 1 (rect 1 1 2 2) 15 0 ∷ references 1 ∷ []
    )
    -- masks: each lists its inks, and opens what it would open for all; the split has kept the inks, and a dot is removed whatever its ink
    ∷ calls 2 1 (
    insert_ink 1 (rect 1 1 2 2) 0 0 ∷ insert_ink 2 (rect 3 3 3 3) 15 0 ∷ insert_ink 3 (rect 9 9 10 10) 1 1
    ∷ query (rect 0 0 16 16) (1 ∷ 2 ∷ 3 ∷ []) 6 ∷ query_inks (rect 0 0 16 16) 0 [] 6 ∷ query_inks (rect 0 0 16 16) 1 (1 ∷ []) 6
    ∷ query_inks (rect 0 0 16 16) 32770 (2 ∷ 3 ∷ []) 6 ∷ remove 2 (rect 3 3 3 3) 1 ∷ query_inks (rect 0 0 16 16) 32768 [] 6 ∷ []
    )
    -- the third word of a place is its dot's ink; a freed place has the ink 0
    ∷ calls 2 1 (
    insert_ink 9 (rect 1 1 2 2) 5 0
    ∷ words (0 ∷ 1 ∷ fresh_group) (place 9 none 5 (free 2 (free 3 (free 4 (free 5 (free 6 (free 7 (free none [])))))))) ∷ remove 9 (rect 1 1 2 2) 1
    ∷ words fresh_nodes (free 1 (free 2 (free 3 (free 4 (free 5 (free 6 (free 7 (free none [])))))))) ∷ []
    )
    -- an ask changes nothing; a placing makes the splits that were told, and then the ticket is stale; 15 comes before 4 to 7, and they are the insert's
    ∷ calls 1 2 (
    insert 1 (rect 1 1 2 2) 0 ∷ changes 1 ∷ ask 2 (rect 3 3 3 3) 2 1 ∷ changes 1 ∷ references 1 ∷ place_by 2 (rect 3 3 3 3) 1 2 ∷ changes 2
    ∷ place_by 2 (rect 3 3 3 3) 1 (refused_word 15) ∷ place_by 3 (rect 2 2 1 1) 1 (refused_word 15) ∷ place_by 3 (rect 2 2 1 1) 2 (refused_word 4)
    ∷ ask 3 (rect 16 16 18 18) (refused_word 5) 0 ∷ place_by 3 (rect 16 16 18 18) 2 (refused_word 5) ∷ changes 2 ∷ references 2 ∷ []
    )
    -- the count rises with each accepted insert, remove that says yes and cleanup that says yes, and with nothing else
    ∷ calls 1 2 (
    changes 0 ∷ insert 1 (rect 1 1 2 2) 0 ∷ changes 1 ∷ insert 2 (rect 3 3 3 3) 2 ∷ changes 2 ∷ insert 3 (rect 2 2 1 1) (refused_word 4) ∷ changes 2
    ∷ query (rect 0 0 16 16) (2 ∷ 1 ∷ []) 11 ∷ remove 1 (rect 9 1 10 2) 0 ∷ changes 2 ∷ remove 1 (rect 1 1 2 2) 1 ∷ changes 3 ∷ cleanup 0 ∷ changes 3
    ∷ remove 2 (rect 3 3 3 3) 1 ∷ changes 4 ∷ cleanup 1 ∷ changes 5 ∷ cleanup 1 ∷ changes 6 ∷ cleanup 0 ∷ changes 6 ∷ []
    )
    -- refusal 16 at the largest count, after every other refusal; what says no is not refused
    ∷ calls 1 1 (
    insert 1 (rect 1 1 2 2) 0 ∷ recounted largest_count ∷ insert 2 (rect 2 2 1 1) (refused_word 4) ∷ insert_ink 2 (rect 1 1 2 2) 16 (refused_word 10)
    ∷ insert 2 (rect 16 16 18 18) (refused_word 5) ∷ insert 2 (rect 3 3 3 3) (refused_word 7) ∷ insert 2 (rect 9 9 10 10) (refused_word 16)
    ∷ ask 2 (rect 3 3 3 3) (refused_word 7) 0 ∷ ask 2 (rect 9 9 10 10) (refused_word 16) 0 ∷ place_by 2 (rect 9 9 10 10) 1 (refused_word 15)
    ∷ place_by 2 (rect 9 9 10 10) largest_count (refused_word 16) ∷ remove 2 (rect 1 1 2 2) 0 ∷ remove 1 (rect 1 1 2 2) (refused_word 16) ∷ cleanup 0
    ∷ references 1 ∷ changes largest_count ∷ recounted 18446744073709551614 ∷ remove 1 (rect 1 1 2 2) 1 ∷ changes largest_count ∷ []
    )
    ∷ calls 1 1 (
    insert 1 (rect 1 1 1 1) 0 ∷ insert 2 (rect 15 15 15 15) 1 ∷ remove 1 (rect 1 1 1 1) 1 ∷ remove 2 (rect 15 15 15 15) 1 ∷ recounted largest_count
    ∷ cleanup (refused_word 16) ∷ free_groups [] ∷ recounted 0 ∷ cleanup 1 ∷ free_groups (0 ∷ []) ∷ changes 1 ∷ []
    )
    -- all: child 0 first, whatever the ink, an id as often as it stands, the dot on the edge too; collect_ids lists the others, and opens every node
    ∷ calls 2 8 (
    all [] ∷ collect_ids [] 1
    ∷ three (
    insert_ink 4 (rect 16 1 17 2) 15 0 ∷ insert 1 (rect 1 9 2 10) 0 ∷ all (3 ∷ 1 ∷ 4 ∷ 2 ∷ 1 ∷ []) ∷ collect_ids (3 ∷ 1 ∷ 2 ∷ 1 ∷ []) 6 ∷ changes 5
    ∷ references 5 ∷ remove 3 (rect 7 7 9 9) 1 ∷ all (1 ∷ 4 ∷ 2 ∷ 1 ∷ []) ∷ []
    )
    )
    ∷ []

pub all_pass : pass_all table ≡ true
unfolding flat intersects middle within inverted near far_out W bits_within bit_length halvings D contains root_rect
    root_cell root_data child_centre quarter_cell child_cell child_data quadrant route_cell both_tests opens may_divide
    fresh inserted splits_made splits_needed removed found_by cleaned cleans listed opens_for all_ids
    largest_count insert_verdict insert_rule remove_rule cleanup_rule query_rule collect_ids_rule all_rule
    good_ink shows bit_at is_hit matches indicator changed max_z min_z
all_pass = refl

pub further-pass : pass_all further ≡ true
unfolding flat intersects middle within inverted near far_out W bits_within bit_length halvings D contains root_rect
    root_cell root_data child_centre quarter_cell child_cell child_data quadrant route_cell both_tests opens may_divide
    fresh inserted splits_made splits_needed removed found_by cleaned cleans listed opens_for all_ids leaf_row leaf_number dot_count
    largest_count insert_verdict insert_rule remove_rule cleanup_rule query_rule collect_ids_rule all_rule leaves_rule references_rule ask_rule place_rule
    good_ink shows bit_at is_hit matches indicator changed max_z min_z layout none branch_mark
further-pass = refl
