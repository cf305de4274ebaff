-- The rules by regions are the rules of a valid tree.
--     fits_below       to fit a child's region is to fit the parent's and to be routed to the child
--     fine_well, well_fine     Fine is WellFormed, with each dot's region
--     root-fine, fine-root     the same at the root, where a region asks no more than that a dot is acceptable
--     root-sound, sound-below, levels-below, levels-some, shallow-depth    a walk keeps its numbers in range, and goes down by the levels that are left
--     all-blank, blanks_are    the free places are a chain of blank dots
use Rattle.std.specs.Prelude.{◌≡◌, refl, List, [], ◌∷◌, map, Bool, true, not, ◌&&◌, ◌||◌}
use Rattle.std.proofs.Math.Path.{ap, sym}
use Rattle.std.proofs.Common.{ap₂, ◌∙◌, subst, arith}
use Rattle.std.proofs.Math.Bool.{false, and-true, and_assoc}
use Prim.Native.Nat.{ℕ, zero, suc, ◌+◌, ◌≤◌, ◌<◌}
use Rattle.std.proofs.Math.Dec.{eqb}
use borrow.Author.Tests.{eqb-true, eq-eqb, ne_eqb}
use Rattle.arithmetic.proofs.Laws.Linear.{and_t}
use Rattle.geometry.specs.declared.settings.Settings.{Settings}
use Rattle.geometry.specs.Rectangles.{same_rect, zero_rect}
use Rattle.geometry.specs.Settings.{in_range}
use Rattle.geometry.specs.Cells.{child_cell, child_data, root_data, route}
use Rattle.geometry.specs.Bounds.{bounds_below, in_bounds}
use Rattle.geometry.proofs.Laws.Bounds.{bounds-below, bounds-all}
use Rattle.geometry.proofs.Laws.Geometry.{levels_fall, may-splits}
use Rattle.geometry.specs.Levels.{levels_left}
use Rattle.geometry.proofs.Laws.Ranges.{accepted, root-range, child-range}
use Rattle.model.proofs.Laws.Sums.{sum_over-one, sum_below_term}
use Rattle.model.specs.Lists.{All}
use Rattle.model.proofs.Laws.Lists.{all_map}
use Rattle.model.proofs.Laws.Trees.{all_dots-map}
use Rattle.model.proofs.Laws.Shapes.{well_acceptable}
use Rattle.model.specs.declared.Dot.{Dot}
use Rattle.model.specs.Dots.{acceptable_dot}
use Rattle.model.specs.Trees.{Placed, Tree, leaf, branch, AllDots, size}
use Rattle.model.specs.Insert.{route_dot}
use Rattle.model.specs.Shapes.{WellFormed}
use Rattle.model.specs.Layout.{branch_mark, blank}
use Rattle.model.proofs.Laws.Dots.{dot-upright, same_rect_true, same_rect-same}
use Rattle.memory.specs.Lent.{Held}
use Rattle.tree_check.specs.declared.region.Region.{Region}
use Rattle.tree_check.specs.Regions.{root_region, region_below, fits, is_blank}
use Rattle.tree_check.specs.Trees.{MaySplit, Fits, Fine, Sound, GroupReady}

-- ---- a child's region

and_both : (a b c : Bool) → (a ≡ true → b ≡ c) → a && b ≡ a && c
and_both true b c f = f refl
and_both false b c f = refl

-- where a node is no child 0, its bounds alone tell what is routed there
fits-is : (r : Region) → r.node.is_child_0 ≡ false → (d : Dot) → fits r d ≡ acceptable_dot r.settings d && in_bounds r.bounds d.rect
unfolding fits
fits-is r z d = rw z (and-true (acceptable_dot r.settings d && in_bounds r.bounds d.rect))

module _ (r : Region) (splits : MaySplit r) (d : Dot) where
  no-child_0 : r.node.is_child_0 ≡ false
  no-child_0 = (may-splits r.settings r.node splits).no_child0

  fits_below : (i : ℕ) → i < 5 → fits (region_below r i) d ≡ fits r d && eqb (route r.node d.rect) i
  unfolding fits region_below child_data child_cell bounds_below
  fits_below zero b =
      ap (λ (t : Bool). t && eqb (route r.node d.rect) 0) (sym (fits-is r no-child_0 d))
  fits_below (suc i) b =
      let a = acceptable_dot r.settings d in
      let to = eqb (route r.node d.rect) (suc i) in
      let below = region_below r (suc i) in
      let other : below.node.is_child_0 ≡ false = ne_eqb (suc i) 0 (λ e. omega arith) in
      fits-is below other d
      ∙ and_both a (in_bounds below.bounds d.rect) (in_bounds r.bounds d.rect && to)
      (λ e. bounds-below r.bounds r.node.cell (suc i) (omega arith) b d.rect (dot-upright r.settings d e).0)
      ∙ sym (and_assoc a (in_bounds r.bounds d.rect) to)
      ∙ ap (λ (t : Bool). t && to) (sym (fits-is r no-child_0 d))

  into_child : (i : ℕ) → i < 5 → fits r d ≡ true → route r.node d.rect ≡ i → fits (region_below r i) d ≡ true
  into_child i b p e = fits_below i b ∙ rw (p, eq-eqb (route r.node d.rect) i e) refl

  from-child : (i : ℕ) → i < 5 → fits (region_below r i) d ≡ true → (fits r d ≡ true) × (route r.node d.rect ≡ i)
  from-child i b p =
      let both = and_t (fits r d) (eqb (route r.node d.rect) i) (sym (fits_below i b) ∙ p) in
      (both.0, eqb-true (route r.node d.rect) i both.1)

fits-acceptable : (r : Region) (d : Dot) → fits r d ≡ true → acceptable_dot r.settings d ≡ true
unfolding fits
fits-acceptable r d e =
    (and_t (acceptable_dot r.settings d) (in_bounds r.bounds d.rect)
    (and_t (acceptable_dot r.settings d && in_bounds r.bounds d.rect) (not r.node.is_child_0 || eqb (route r.node d.rect) 0) e).0).0

-- ---- the rules, node by node

all_two : {A : Type 0} (P Q R : A → Type 0) → ((x : A) → P x → Q x → R x) → (xs : List A) → All P xs → All Q xs → All R xs
all_two P Q R f [] a b = tt
all_two P Q R f (x ∷ xs) a b = (f x a.0 b.0, all_two P Q R f xs a.1 b.1)

all_dots-two : (P Q R : Placed → Type 0) → ((d : Placed) → P d → Q d → R d) → (x : Tree) → AllDots P x → AllDots Q x → AllDots R x
all_dots-two P Q R f (leaf c) a b = all_two P Q R f c a b
all_dots-two P Q R f (branch g k) a b = λ i h. all_dots-two P Q R f (k i) (a i h) (b i h)

abbrev Acceptable : Settings → Placed → Type 0
Acceptable s d = acceptable_dot s d.dot ≡ true

fine_well : (r : Region) (t : Tree) → Fine r t → WellFormed r.settings r.node t × AllDots (Fits r) t
unfolding region_below
fine_well r (leaf c) v = ((all_map (Fits r) (Acceptable r.settings) (λ d p. fits-acceptable r d.dot p) c v.0, v.1), v.0)
fine_well r (branch g f) v =
    let each : (i : ℕ) → i < 5 → WellFormed r.settings (child_data r.node i) (f i) × AllDots (Fits (region_below r i)) (f i) =
    λ i b. fine_well (region_below r i) (f i) (v.1 i b) in
    let from : (i : ℕ) → i < 5 → (d : Placed) → Fits (region_below r i) d → Fits r d × (route_dot r.node d ≡ i) =
    λ i b d p. from-child r v.0 d.dot i b p in (
      (
        v.0,
        (λ i b. (all_dots-map (Fits (region_below r i)) (λ d. route_dot r.node d ≡ i) (λ d p. (from i b d p).1) (f i) (each i b).1, (each i b).0)),
        v.2,
      ),
      λ i b. all_dots-map (Fits (region_below r i)) (Fits r) (λ d p. (from i b d p).0) (f i) (each i b).1,
    )

well_fine : (r : Region) (t : Tree) → size t < branch_mark → WellFormed r.settings r.node t → AllDots (Fits r) t → Fine r t
unfolding region_below
well_fine r (leaf c) small v a = (a, v.1, omega (arith, sum_over-one c))
well_fine r (branch g f) small v a = (
  v.0,
  (λ i b.
      well_fine (region_below r i) (f i) (omega (arith, sum_below_term 5 (λ j. size (f j)) i b)) (v.1 i b).1
      (all_dots-two (Fits r) (λ d. route_dot r.node d ≡ i) (Fits (region_below r i)) (λ d p e. into_child r v.0 d.dot i b p e)
      (f i) (a i b) (v.1 i b).0)),
  v.2,
)

-- ---- the root

root-fits : (s : Settings) (d : Dot) → acceptable_dot s d ≡ true → fits (root_region s) d ≡ true
unfolding fits root_region root_data
root-fits s d e = rw (e, bounds-all d.rect (dot-upright s d e).1) refl

pub root-fine : (s : Settings) (t : Tree) → size t < branch_mark → WellFormed s (root_data s) t → Fine (root_region s) t
unfolding root_region
root-fine s t small v =
    well_fine (root_region s) t small v
    (all_dots-map (Acceptable s) (Fits (root_region s)) (λ d p. root-fits s d.dot p) t (well_acceptable s (root_data s) t v))

pub fine-root : (s : Settings) (t : Tree) → Fine (root_region s) t → WellFormed s (root_data s) t
unfolding root_region
fine-root s t v = (fine_well (root_region s) t v).0

-- ---- numbers in range, levels that fall

abbrev pub levels : Region → ℕ
levels r = levels_left r.settings r.node

pub root-sound : {root : Region} (s : Settings) → root ≡ root_region s → in_range s ≡ true → Sound root
unfolding root_region root_data
root-sound s is e = let a = accepted s e in subst Sound (sym is) (record { cell = root-range s a.root; smallest = a.cell; limit = a.depth })

pub sound-below : {r below : Region} (i : ℕ) → below ≡ region_below r i → Sound r → Sound below
unfolding region_below child_data
sound-below {r} i is s =
    subst Sound (sym is) (record { cell = child-range r.node.cell i s.cell; smallest = s.smallest; limit = s.limit })

pub levels-below : {r below : Region} (i : ℕ) → below ≡ region_below r i → Sound r → MaySplit r → 1 + levels below ≤ levels r
unfolding region_below
levels-below {r} i is s m = subst (λ (x : Region). 1 + levels x ≤ levels r) (sym is) (levels_fall r.settings s.smallest r.node m i)

pub levels-some : {r : Region} {rows : Held} {group : ℕ} → GroupReady r rows group → 1 ≤ levels r
levels-some {r} g = omega (arith, levels-below 0 refl g.sound g.splits)

pub shallow-depth : {r : Region} → Sound r → MaySplit r → r.node.depth < 4294967295
shallow-depth {r} s m = omega (arith, (may-splits r.settings r.node m).above, s.limit)

-- ---- the free places

abbrev pub Blank : Placed → Type 0
Blank d = is_blank d.dot ≡ true

blank-is : (d : Placed) → Blank d → d ≡ blank d.place
unfolding is_blank
blank-is d e =
    let all = and_t (eqb d.dot.id 0 && same_rect d.dot.rect zero_rect) (eqb d.dot.ink 0) e in
    let p = and_t (eqb d.dot.id 0) (same_rect d.dot.rect zero_rect) all.0 in
    let id = eqb-true d.dot.id 0 p.0 in
    let rect = same_rect_true d.dot.rect zero_rect p.1 in
    let ink = eqb-true d.dot.ink 0 all.1 in
    λ i. record { place = d.place; dot = record { id = id i; rect = rect i; ink = ink i } }

pub all-blank : (ps : List ℕ) → All Blank (map blank ps)
unfolding is_blank
all-blank [] = tt
all-blank (p ∷ ps) = (rw (same_rect-same zero_rect) refl, all-blank ps)

pub blanks_are : (ds : List Placed) → All Blank ds → ds ≡ map blank (map (λ d. d.place) ds)
blanks_are [] a = refl
blanks_are (d ∷ ds) a = ap₂ (λ (x : Placed) (xs : List Placed). x ∷ xs) (blank-is d a.0) (blanks_are ds a.1)
