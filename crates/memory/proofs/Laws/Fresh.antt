-- The words that are written for the fresh tree are its layout.
--     fresh_node-more, fresh-place_more    the loops: one number more holds its words
--     fresh-layout     rows that hold the fresh words, with marks 0, are the layout of the fresh shape
--     fresh-written    the same, in rows of any lengths that fit
use Rattle.std.specs.Prelude.{◌≡◌, refl, List, [], ◌∷◌, ◌++◌, map, true, cond, ◌&&◌, ℕ, zero, suc, ◌+◌, ◌*◌, ◌%◌, ◌≤◌, ◌<◌, ℤ, eqb, leb, length}
use Rattle.std.proofs.Math.Path.{ap, sym}
use Rattle.std.proofs.Common.{◌∙◌, subst, arith, eq-eqb, ne_eqb, le-leb, lt-ltb, le-ltb}
use Rattle.std.proofs.Math.Decide.{ℕ_discrete}
use Rattle.std.proofs.Math.ListN.{replicate, length-replicate}
use Rattle.std.proofs.lemmas.Bool.{lt-leb}
use Rattle.arithmetic.proofs.Laws.Tests.{by_bool}
use Rattle.geometry.specs.declared.settings.Settings.{Settings}
use Rattle.geometry.specs.Settings.{in_range}
use Rattle.model.specs.declared.Dot.{Dot}
use Rattle.model.specs.declared.State.{State}
use Rattle.model.specs.Sums.{changed}
use Rattle.model.proofs.Laws.Sums.{by_dec, changed-same, changed_other}
use Rattle.model.specs.Lists.{up_to}
use Rattle.model.specs.Dots.{zero_dot}
use Rattle.model.specs.Trees.{child_node}
use Rattle.model.specs.Shapes.{fresh}
use Rattle.model.specs.Layout.{dots_for, World, world, groups_in, places_in, none, first_node, first_dot, blank, layout, cleared}
use Rattle.model.specs.Memory.{Mem, memory, first_at, count_at, next_at, dot_at, Chained, FreeGroups, Represented}
use Rattle.model.proofs.Laws.Shapes.{fresh-valid}
use Rattle.model.proofs.Laws.Memory.{represented-holds}
use Rattle.memory.specs.declared.node.Node.{Node}
use Rattle.memory.specs.Nodes.{empty_leaf, node_at}
use Rattle.memory.specs.Lengths.{lengths_fit}
use Rattle.memory.proofs.Laws.Lengths.{lengths-stated}
use Rattle.memory.specs.Rows.{HasNode, HasPlace, HasRect, set_node_at, set_next_at, set_dot_at, set_rect_at}
use Rattle.memory.proofs.Laws.Stores.{first-set, count_set, next-set, next-dot, dot-next, dot-set, dot-length}
use Rattle.memory.specs.Fresh.{fresh_node, fresh_next, FreshNodes, FreshPlaces, fresh_state}

-- ---- the fresh words

fresh-count : (groups a : ℕ) → (fresh_node groups a).count ≡ 0
unfolding fresh_node empty_leaf
fresh-count groups a = by_bool (eqb (a % 5) 1 && leb (a + 5) (5 * groups)) (λ e. rw e refl) (λ e. rw e refl)

fresh-first : (groups k : ℕ) → suc k < groups → (fresh_node groups (child_node k 0)).first ≡ child_node (suc k) 0
unfolding fresh_node
fresh-first groups k b =
    let a = child_node k 0 in
    rw (eq-eqb (a % 5) 1 (omega arith), le-leb (a + 5) (5 * groups) (omega arith)) (omega arith)

fresh-last : (groups k : ℕ) → groups ≡ suc k → (fresh_node groups (child_node k 0)).first ≡ none
unfolding fresh_node empty_leaf
fresh-last groups k e =
    let a = child_node k 0 in
    rw (eq-eqb (a % 5) 1 (omega arith), lt-leb (a + 5) (5 * groups) (omega arith)) refl

fresh_other : (groups k i : ℕ) → 1 ≤ i → i < 5 → (fresh_node groups (child_node k i)).first ≡ none
unfolding fresh_node empty_leaf
fresh_other groups k i low high = rw (ne_eqb (child_node k i % 5) 1 (λ e. omega arith)) refl

fresh-root : (groups : ℕ) → (fresh_node groups 0).first ≡ none
unfolding fresh_node empty_leaf
fresh-root groups = refl

next_more : (places p : ℕ) → suc p < places → fresh_next places p ≡ suc p
unfolding fresh_next
next_more places p b = rw (lt-ltb (p + 1) places (omega arith)) (omega arith)

next_last : (places p : ℕ) → places ≡ suc p → fresh_next places p ≡ none
unfolding fresh_next
next_last places p e = rw (le-ltb (p + 1) places (omega arith)) refl

-- ---- all numbers, upward from k

abbrev from : ℕ → ℕ → List ℕ
from k zero = []
from k (suc n) = k ∷ from (suc k) n

from_end : (k n : ℕ) → from k n ++ ((k + n) ∷ []) ≡ from k (suc n)
from_end k zero = ap (λ (y : ℕ). y ∷ []) (omega arith)
from_end k (suc n) = ap (λ (l : List ℕ). k ∷ l) (ap (λ (y : ℕ). from (suc k) n ++ (y ∷ [])) (omega arith) ∙ from_end (suc k) n)

up_from : (n : ℕ) → up_to n ≡ from 0 n
up_from zero = refl
up_from (suc n) = ap (λ (l : List ℕ). l ++ (n ∷ [])) (up_from n) ∙ ap (λ (y : ℕ). from 0 n ++ (y ∷ [])) (omega arith) ∙ from_end 0 n

-- ---- the free groups and places of rows that hold the fresh words

module _ (m : Mem) (groups : ℕ)
    (at : (a : ℕ) → a < 1 + 5 * groups → (m.first a ≡ (fresh_node groups a).first) × (m.count a ≡ (fresh_node groups a).count)) where
  group-next : (k n : ℕ) → suc k + n ≡ groups → m.first (child_node k 0) ≡ first_node (from (suc k) n)
  group-next k zero e = (at (child_node k 0) (omega arith)).0 ∙ fresh-last groups k (omega arith)
  group-next k (suc n) e = (at (child_node k 0) (omega arith)).0 ∙ fresh-first groups k (omega arith)

  groups-from : (k n : ℕ) → k + n ≡ groups → FreeGroups m (first_node (from k n)) (from k n)
  groups-from k zero e = refl
  groups-from k (suc n) e = (
    refl,
    (at (child_node k 0) (omega arith)).1 ∙ fresh-count groups (child_node k 0),
    (λ i low high.
        let words = at (child_node k i) (omega arith) in
        (words.0 ∙ fresh_other groups k i low high, words.1 ∙ fresh-count groups (child_node k i))),
    subst (λ (h : ℕ). FreeGroups m h (from (suc k) n)) (sym (group-next k n (omega arith))) (groups-from (suc k) n (omega arith)),
  )

module _ (m : Mem) (places : ℕ) (at : (p : ℕ) → p < places → (m.dot p ≡ zero_dot) × (m.next p ≡ fresh_next places p)) where
  place-next : (k n : ℕ) → suc k + n ≡ places → m.next k ≡ first_dot (map blank (from (suc k) n))
  place-next k zero e = (at k (omega arith)).1 ∙ next_last places k (omega arith)
  place-next k (suc n) e = (at k (omega arith)).1 ∙ next_more places k (omega arith)

  places-from : (k n : ℕ) → k + n ≡ places → Chained m (first_dot (map blank (from k n))) (map blank (from k n)) none
  places-from k zero e = refl
  places-from k (suc n) e = (
    refl,
    (at k (omega arith)).0,
    subst (λ (h : ℕ). Chained m h (map blank (from (suc k) n)) none) (sym (place-next k n (omega arith))) (places-from (suc k) n (omega arith)),
  )

-- ---- the state's heads

group-head : (groups : ℕ) → cond (eqb groups 0) none 1 ≡ first_node (from 0 groups)
group-head zero = refl
group-head (suc n) = rw (ne_eqb (suc n) 0 (λ e. omega arith)) refl

place-head : (places : ℕ) → cond (eqb places 0) none 0 ≡ first_dot (map blank (from 0 places))
place-head zero = refl
place-head (suc n) = rw (ne_eqb (suc n) 0 (λ e. omega arith)) refl

-- ---- the whole

module _ (s : Settings) (groups places : ℕ) (nodes dots : List ℕ) (rects : List ℤ) where
  abbrev W : World
  W = world (fresh_state s groups places) nodes dots rects (replicate (places + groups) 0)

  fresh-represented : length nodes ≡ 2 * (1 + 5 * groups) → length dots ≡ dots_for places → length rects ≡ 4 * places → FreshNodes groups nodes
      → FreshPlaces places dots rects
      → Represented W (fresh s groups places)
  unfolding fresh fresh_state
  fresh-represented ln ld lr ns ps =
      let m = memory W in
      let words : (a : ℕ) → a < 1 + 5 * groups → (m.first a ≡ (fresh_node groups a).first) × (m.count a ≡ (fresh_node groups a).count) =
      λ a b. (ap (λ (n : Node). n.first) (ns a b), ap (λ (n : Node). n.count) (ns a b)) in
      record {
        nodes = omega arith;
        dots = ld;
        rects = lr;
        marks = length-replicate {A = ℕ} (places + groups) 0;
        tree = ((words 0 (omega arith)).1 ∙ fresh-count groups 0, (words 0 (omega arith)).0 ∙ fresh-root groups);
        groups = rw (up_from groups, group-head groups) (groups-from m groups words 0 groups (omega arith));
        places = rw (up_from places, place-head places) (places-from m places ps 0 places (omega arith));
        settings = refl;
        live = refl;
        changes = refl;
      }

  pub fresh-layout : in_range s ≡ true → groups ≤ 16384 → places ≤ 65536 → length nodes ≡ 2 * (1 + 5 * groups) → length dots ≡ dots_for places
      → length rects ≡ 4 * places
      → FreshNodes groups nodes → FreshPlaces places dots rects → W ≡ layout (fresh s groups places)
  unfolding cleared
  fresh-layout e g p ln ld lr ns ps =
      let h = represented-holds W (fresh s groups places) (fresh-valid s groups places e g p) (fresh-represented ln ld lr ns ps) in
      let same = sym (ap (λ (n : ℕ). replicate {A = ℕ} n 0) (length-replicate {A = ℕ} (places + groups) 0)) in
      (λ i. world (fresh_state s groups places) nodes dots rects (same i)) ∙ h.words

-- ---- the loops

module _ (groups : ℕ) (nodes : List ℕ) (a : ℕ) (has : HasNode nodes a) (done : (k : ℕ) → k < a → node_at nodes k ≡ fresh_node groups k) where
  pub fresh_node-more : (v : Node) → v ≡ fresh_node groups a → (k : ℕ) → k < a + 1 → node_at (set_node_at nodes a v) k ≡ fresh_node groups k
  fresh_node-more v e k b =
      let first = first-set nodes a v has in
      let count = count_set nodes a v has in
      let stored : node_at (set_node_at nodes a v) k ≡ record { first = changed (first_at nodes) a v.first k; count = changed (count_at nodes) a v.count k } =
      λ i. record { first = first i k; count = count i k } in
      by_dec (ℕ_discrete k a)
      (λ same.
      stored ∙ (λ i. record { first = changed (first_at nodes) a v.first (same i); count = changed (count_at nodes) a v.count (same i) })
      ∙ (λ i. record { first = changed-same (first_at nodes) a v.first i; count = changed-same (count_at nodes) a v.count i })
      ∙ e ∙ ap (fresh_node groups) (sym same))
      (λ other.
      stored ∙ (λ i. record { first = changed_other (first_at nodes) a v.first k other i; count = changed_other (count_at nodes) a v.count k other i })
      ∙ done k (omega arith))

module _ (places : ℕ) (dots : List ℕ) (rects : List ℤ) (p : ℕ) (has_place : HasPlace dots p) (has_rect : HasRect rects p)
    (done : (k : ℕ) → k < p → (dot_at dots rects k ≡ zero_dot) × (next_at dots k ≡ fresh_next places k)) where
  pub fresh-place_more : (v : ℕ) → v ≡ fresh_next places p → (k : ℕ) → k < p + 1
      → (dot_at (set_next_at (set_dot_at dots p zero_dot) p v) (set_rect_at rects p zero_dot.rect) k ≡ zero_dot)
      × (next_at (set_next_at (set_dot_at dots p zero_dot) p v) k ≡ fresh_next places k)
  fresh-place_more v e k b =
      let blanked = set_dot_at dots p zero_dot in
      let rects' = set_rect_at rects p zero_dot.rect in
      let has : HasPlace blanked p = omega (arith, dot-length dots p zero_dot) in
      let dot : dot_at (set_next_at blanked p v) rects' ≡ changed (dot_at dots rects) p zero_dot =
      dot-next blanked rects' p v ∙ dot-set dots rects p zero_dot has_place has_rect in
      let next : next_at (set_next_at blanked p v) ≡ changed (next_at dots) p v =
      next-set blanked p v has ∙ ap (λ (f : ℕ → ℕ). changed f p v) (next-dot dots p zero_dot) in
      by_dec (ℕ_discrete k p)
      (λ same. (
        ap (λ (f : ℕ → Dot). f k) dot ∙ ap (changed (dot_at dots rects) p zero_dot) same ∙ changed-same (dot_at dots rects) p zero_dot,
        ap (λ (f : ℕ → ℕ). f k) next ∙ ap (changed (next_at dots) p v) same ∙ changed-same (next_at dots) p v ∙ e ∙ ap (fresh_next places) (sym same),
      ))
      (λ other.
      let old = done k (omega arith) in (
        ap (λ (f : ℕ → Dot). f k) dot ∙ changed_other (dot_at dots rects) p zero_dot k other ∙ old.0,
        ap (λ (f : ℕ → ℕ). f k) next ∙ changed_other (next_at dots) p v k other ∙ old.1,
      ))

-- ---- the whole, in the rows that were lent

module _ (s : Settings) (nodes₀ dots₀ : List ℕ) (rects₀ : List ℤ) (marks₀ : List ℕ)
    (fits : lengths_fit (length nodes₀) (length dots₀) (length rects₀) (length marks₀) ≡ true) where
  pub fresh-written : in_range s ≡ true → {groups places : ℕ} → groups ≡ groups_in (length nodes₀) → places ≡ places_in (length dots₀)
      → {nodes dots : List ℕ} {rects : List ℤ} {marks : List ℕ} {state : State} → FreshNodes groups nodes → FreshPlaces places dots rects
      → length nodes ≡ length nodes₀ → length dots ≡ length dots₀ → length rects ≡ length rects₀
      → marks ≡ replicate (length marks₀) 0 → state ≡ fresh_state s groups places
      → world state nodes dots rects marks ≡ layout (fresh s (groups_in (length nodes₀)) (places_in (length dots₀)))
  fresh-written e {groups} {places} g p {nodes} {dots} {rects} ns ps ln ld lr zero-marks same =
      let stated = lengths-stated _ _ _ _ fits in
      let room : length marks₀ ≡ places + groups = omega (arith, stated.marks_length, g, p) in
      let marks-zero = zero-marks ∙ ap (λ (n : ℕ). replicate {A = ℕ} n 0) room in
      (λ i. world (same i) nodes dots rects (marks-zero i))
      ∙ fresh-layout s groups places nodes dots rects e (omega (arith, g, stated.groups_fit)) (omega (arith, p, stated.places_fit))
      (omega (arith, ln, g, stated.nodes_length)) (omega (arith, ld, p, stated.dots_length)) (omega (arith, lr, p, stated.rects_length)) ns ps
      ∙ (λ i. layout (fresh s (g i) (p i)))
