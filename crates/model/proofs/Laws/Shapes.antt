-- Every call keeps a shape valid.
--     distinct-length      distinct numbers below n are at most n
--     once-sum, once-length        a list that has each number below n once: weights over it, and its length
--     places_weigh, live-and_free  live dots and free places together are all places, and N
--     valid-height, child_0_leaf, shape-routed     a valid tree is at most D high; its children 0 are leaves; its dots stand where they route to
--     well_acceptable, good_inks   all its dots are acceptable, so their inks are from 0 to 15
--     fresh-valid, inserted-valid, removed-valid, cleaned-valid
use Rattle.std.specs.Prelude.{◌≡◌, refl, List, [], ◌∷◌, ◌++◌, map, true, ◌&&◌, ℕ, zero, suc, ◌+◌, ◌*◌, ◌≤◌, ◌<◌, length, leb, ltb}
use Rattle.std.proofs.Common.{ap, sym, ◌∙◌, mul-zero, mul-one, arith, leb-true, lt-ltb, le-ltb}
use Rattle.std.proofs.Math.Decide.{ℕ_discrete, dec_lt}
use Rattle.arithmetic.proofs.Laws.Linear.{and_t}
use Rattle.geometry.specs.declared.aabb.AABB.{AABB}
use Rattle.geometry.specs.declared.settings.Settings.{Settings}
use Rattle.model.specs.Sums.{indicator, sum_over, sum_below}
use Rattle.model.proofs.Laws.Sums.{indicator-same, indicator_other, sum_over-append, sum_over-one, sum_over-map, sum_below_ext}
use Rattle.model.proofs.Laws.Sums.{sum_over-mul, sum_below-le, sum_below-one, sum_below-only, sum_below_swap, by_dec}
use Rattle.model.specs.Lists.{up_to, count}
use Rattle.arithmetic.proofs.Laws.Tests.{by_bool, true_false}
use Rattle.geometry.specs.Settings.{root_fits, between, in_range, D, acceptable}
use Rattle.model.specs.declared.Dot.{Dot}
use Rattle.model.specs.Dots.{good_ink, acceptable_dot}
use Rattle.geometry.specs.declared.node_data.NodeData.{NodeData}
use Rattle.geometry.specs.Cells.{may_divide, root_data, child_data}
use Rattle.model.specs.Trees.{Placed, Tree, leaf, branch, at_place, size, sum_dots, AllDots, Shallow, dots}
use Rattle.model.proofs.Laws.Trees.{sum_dots-dots, all_dots-map}
use Rattle.model.specs.Shapes.{Shape, Valid, WellFormed, below, fresh, inserted, splits_needed, removed, found_by, cleaned, head_of, tail_of, root, placed_in}
use Rattle.geometry.proofs.Laws.Geometry.{levels-root}
use Rattle.model.proofs.Laws.Query.{Routed}
use Rattle.model.proofs.Laws.Insert.{insert-sum, insert-groups, insert-valid, valid-shallow}
use Rattle.model.proofs.Laws.Splitting.{needed-count}
use Rattle.model.proofs.Laws.Remove.{found-gone, remove-valid, remove-groups}
use Rattle.model.proofs.Laws.Cleanup.{clean-sum, clean-groups, clean-valid}

-- ---- counting

pub below_yes : (k n : ℕ) → k < n → below k n ≡ 1
unfolding below
below_yes k n h = rw (lt-ltb k n h) refl

pub below-no : (k n : ℕ) → n ≤ k → below k n ≡ 0
unfolding below
below-no k n h = rw (le-ltb k n h) refl

pub below-le : (k n : ℕ) → below k n ≤ 1
unfolding below
below-le k n = by_bool (ltb k n) (λ e. rw e (omega arith)) (λ e. rw e (omega arith))

count-up_to : (k n : ℕ) → count k (up_to n) ≡ below k n
count-up_to k zero = sym (below-no k 0 (omega arith))
count-up_to k (suc n) =
    let a = sum_over-append (indicator k) (up_to n) (n ∷ []) in
    by_dec (ℕ_discrete k n)
    (λ e. omega (arith, a, count-up_to k n, below-no k n (omega arith), below_yes k (suc n) (omega arith), ap (indicator k) (sym e), indicator-same k))
    (λ ne.
    by_dec (dec_lt k n)
    (λ l. omega (arith, a, count-up_to k n, below_yes k n l, below_yes k (suc n) (omega arith), indicator_other k n ne))
    (λ g. omega (arith, a, count-up_to k n, below-no k n (omega arith), below-no k (suc n) (omega arith), indicator_other k n ne)))

-- numbers below n: a weight over a list of them, gathered by the numbers
gathered : (n : ℕ) (f : ℕ → ℕ) (ps : List ℕ) → ((k : ℕ) → n ≤ k → count k ps ≡ 0) → sum_over f ps ≡ sum_below n (λ k. f k * count k ps)
gathered n f ps z =
    each ps z
    ∙ sym (sum_below_swap n (λ k p. f k * indicator k p) ps)
    ∙ sum_below_ext n (λ k. sum_over (λ p. f k * indicator k p) ps) (λ k. f k * count k ps) (λ k b. sum_over-mul (f k) (indicator k) ps)
  where
    each : (qs : List ℕ) → ((k : ℕ) → n ≤ k → count k qs ≡ 0) → sum_over f qs ≡ sum_over (λ p. sum_below n (λ k. f k * indicator k p)) qs
    each [] none = refl
    each (q ∷ qs) none =
        let b : q < n = by_dec (dec_lt q n) (λ h. h) (λ h. absurd (omega (arith, none q (omega arith), indicator-same q))) in
        let only : sum_below n (λ k. f k * indicator k q) ≡ f q * indicator q q =
        sum_below-only n (λ k. f k * indicator k q) q b (λ j jb ne. ap (λ (y : ℕ). f j * y) (indicator_other j q ne) ∙ mul-zero (f j)) in
        let own : f q * indicator q q ≡ f q = ap (λ (y : ℕ). f q * y) (indicator-same q) ∙ mul-one (f q) in
        omega (arith, only, own, each qs (λ k h. omega (arith, none k h)))

-- a list that has each number below n once, and no other: a weight over it is one over these numbers
pub once-sum : (n : ℕ) (ps : List ℕ) → ((k : ℕ) → count k ps ≡ below k n) → (f : ℕ → ℕ) → sum_over f ps ≡ sum_below n f
once-sum n ps o f =
    gathered n f ps (λ k h. o k ∙ below-no k n h)
    ∙ sum_below_ext n (λ k. f k * count k ps) f (λ k b. ap (λ (y : ℕ). f k * y) (o k ∙ below_yes k n b) ∙ mul-one (f k))

pub once-length : (n : ℕ) (ps : List ℕ) → ((k : ℕ) → count k ps ≡ below k n) → length ps ≡ n
once-length n ps o = sym (sum_over-one ps) ∙ once-sum n ps o (λ k. 1) ∙ sum_below-one n

-- distinct numbers below n are at most n
pub distinct-length : (n : ℕ) (ps : List ℕ) → ((k : ℕ) → count k ps ≤ 1) → ((k : ℕ) → n ≤ k → count k ps ≡ 0) → length ps ≤ n
distinct-length n ps o z =
    omega (
      arith,
      sum_over-one ps,
      gathered n (λ k. 1) ps z,
      sum_below-le n (λ k. 1 * count k ps) (λ k. 1) (λ k b. omega (arith, o k)),
      sum_below-one n,
    )

-- a weight over the places of the dots and the free places is one over all places
pub places_weigh : (x : Shape) → Valid x → (f : ℕ → ℕ) → sum_dots (λ d. f d.place) x.tree + sum_over f x.free_places ≡ sum_below x.places f
places_weigh x v f =
    let ps = map (λ d. d.place) (dots x.tree) in
    let one = once-sum x.places (ps ++ x.free_places) (λ k.
    omega (
      arith,
      sum_over-append (indicator k) ps x.free_places,
      sum_over-map (indicator k) (λ d. d.place) (dots x.tree),
      sum_dots-dots (at_place k) x.tree,
      v.places_once k,
    )) f in
    omega (
      arith,
      one,
      sum_over-append f ps x.free_places,
      sum_over-map f (λ d. d.place) (dots x.tree),
      sum_dots-dots (λ d. f d.place) x.tree,
    )

pub live-and_free : (x : Shape) → Valid x → size x.tree + length x.free_places ≡ x.places
live-and_free x v = omega (arith, places_weigh x v (λ p. 1), sum_over-one x.free_places, sum_below-one x.places)

-- ---- what the settings' ranges say

pub record Positive (s : Settings) : Type 0 where
  pub leaf_limit : 1 ≤ s.leaf_limit
  pub smallest_cell : 1 ≤ s.smallest_cell

pub in_positive : (s : Settings) → in_range s ≡ true → Positive s
unfolding in_range
in_positive s e =
    let lim = s.leaf_limit in
    let small = s.smallest_cell in
    let p = and_t (between 1 4294967295 lim) (between 1 2147483647 small)
    (and_t (root_fits s && between 0 255 s.depth_limit) (between 1 4294967295 lim && between 1 2147483647 small) e).1 in
    record {
      leaf_limit = leb-true 1 lim (and_t (leb 1 lim) (leb lim 4294967295) p.0).0;
      smallest_cell = leb-true 1 small (and_t (leb 1 small) (leb small 2147483647) p.1).0;
    }

-- a valid tree is at most D high
pub valid-height : (x : Shape) → Valid x → Shallow (D x.settings) x.tree
valid-height x v =
    let s = x.settings in
    valid-shallow s (in_positive s v.settings_fit).smallest_cell (D s) (root_data s) x.tree (levels-root s) v.well_formed

-- §2.12: child 0 is a leaf, for it could not split
pub child_0_leaf : (s : Settings) (n : NodeData) (t : Tree) → WellFormed s (child_data n 0) t → (chain : List Placed) × (t ≡ leaf chain)
unfolding child_data may_divide
child_0_leaf s n (leaf chain) v = (chain, refl)
child_0_leaf s n (branch g f) v = true_false (sym v.0)

-- each dot stands in the leaf it routes to
tree-routed : (s : Settings) (n : NodeData) (t : Tree) → WellFormed s n t → Routed n t
tree-routed s n (leaf chain) v = tt
tree-routed s n (branch g f) v = λ i b. ((v.1 i b).0, tree-routed s (child_data n i) (f i) (v.1 i b).1)

pub shape-routed : (x : Shape) → Valid x → Routed (root x) x.tree
shape-routed x v = tree-routed x.settings (root x) x.tree v.well_formed

pub well_acceptable : (s : Settings) (n : NodeData) (t : Tree) → WellFormed s n t → AllDots (λ d. acceptable_dot s d.dot ≡ true) t
well_acceptable s n (leaf c) v = v.0
well_acceptable s n (branch g f) v = λ i b. well_acceptable s (child_data n i) (f i) (v.1 i b).1

pub good_inks : (x : Shape) → Valid x → AllDots (λ d. good_ink d.dot ≡ true) x.tree
unfolding acceptable_dot
good_inks x v =
    let s = x.settings in
    all_dots-map (λ d. acceptable_dot s d.dot ≡ true) (λ d. good_ink d.dot ≡ true) (λ d e. (and_t (acceptable s d.dot.rect) (good_ink d.dot) e).1)
    x.tree (well_acceptable s (root x) x.tree v.well_formed)

-- ---- the calls

pub fresh-valid : (s : Settings) (groups places : ℕ) → in_range s ≡ true → groups ≤ 16384 → places ≤ 65536 → Valid (fresh s groups places)
unfolding fresh
fresh-valid s groups places e g p =
    record {
      groups_fit = g;
      places_fit = p;
      settings_fit = e;
      groups_once = λ k. omega (arith, count-up_to k groups);
      places_once = λ k. omega (arith, count-up_to k places);
      well_formed = (tt, λ m. omega arith);
    }

count_head : (ps : List ℕ) → 1 ≤ length ps → (k : ℕ) → indicator k (head_of ps) + count k (tail_of ps) ≡ count k ps
count_head [] h k = absurd (omega arith)
count_head (p ∷ ps) h k = refl

pub inserted-valid : (dot : Dot) (x : Shape) → Valid x → acceptable_dot x.settings dot ≡ true → 1 ≤ length x.free_places
    → splits_needed dot x ≤ length x.free_groups
    → Valid (inserted dot x)
unfolding inserted
inserted-valid dot x v ok room enough =
    let s = x.settings in
    let d = placed_in dot x in
    let pos = in_positive s v.settings_fit in
    record {
      groups_fit = v.groups_fit;
      places_fit = v.places_fit;
      settings_fit = v.settings_fit;
      groups_once = λ k. omega (arith, v.groups_once k, insert-groups s (indicator k) (D s) (root x) d x.tree x.free_groups);
      places_once = λ k.
          omega (
            arith,
            v.places_once k,
            insert-sum s (at_place k) (D s) (root x) d x.tree x.free_groups (valid-height x v),
            count_head x.free_places room k,
          );
      well_formed = insert-valid s pos.smallest_cell (D s) (root x) d x.tree x.free_groups (levels-root s) ok
          (omega (arith, needed-count dot x)) pos.leaf_limit v.well_formed;
    }

pub removed-valid : (id : ℕ) (r : AABB) (x : Shape) → Valid x → found_by id r x ≡ true → Valid (removed id r x)
unfolding removed found_by
removed-valid id r x v e =
    let gone = found-gone id r (root x) x.tree e in
    record {
      groups_fit = v.groups_fit;
      places_fit = v.places_fit;
      settings_fit = v.settings_fit;
      groups_once = λ k. omega (arith, v.groups_once k, remove-groups id r (indicator k) (root x) x.tree);
      places_once = λ k. omega (arith, v.places_once k, gone.2 (at_place k), ap (λ (y : ℕ). indicator k y) gone.3);
      well_formed = remove-valid x.settings id r (root x) x.tree v.well_formed;
    }

pub cleaned-valid : (x : Shape) → Valid x → Valid (cleaned x)
unfolding cleaned
cleaned-valid x v =
    record {
      groups_fit = v.groups_fit;
      places_fit = v.places_fit;
      settings_fit = v.settings_fit;
      groups_once = λ k. clean-groups (indicator k) x.tree x.free_groups ∙ v.groups_once k;
      places_once = λ k. omega (arith, clean-sum (at_place k) x.tree, v.places_once k);
      well_formed = clean-valid x.settings (root x) x.tree v.well_formed;
    }
