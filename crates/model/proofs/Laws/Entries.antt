-- Laws of a shape's entries: each node and each place has one, and the layout's rows are read off them.
--     get_d_join_below       a word of a row that is joined from short rows
--     each-found, finds    an entry is found by its number
--     node-range, node-there, place-range, place-there     which numbers have entries: 0 to 5G, and 0 to N - 1
use Rattle.std.specs.Prelude.{◌≡◌, refl, List, [], ◌∷◌, ◌++◌, map, false, cond, ℕ, zero, suc, ◌+◌, ◌*◌, ◌-◌, ◌/◌, ◌%◌, ◌≤◌, ◌<◌, eqb, length, get_or}
use Rattle.std.proofs.Common.{ap, sym, ◌∙◌, subst, mul-le-mul_left, mul-suc, mul_comm, arith, get_or-append-add, eqb-true, eq-eqb}
use Rattle.std.proofs.Math.Decide.{ℕ_discrete, dec_lt}
use Rattle.std.proofs.Math.ListN.{get_or-append}
use Rattle.model.specs.Sums.{indicator, sum_over, sum_below}
use Rattle.model.proofs.Laws.Sums.{indicator-same, indicator_other, sum_over-append, sum_below_ext}
use Rattle.model.proofs.Laws.Sums.{sum_below-add, sum_below-zero, sum_below-only, by_dec, sum_over-map}
use Rattle.model.specs.Lists.{join_below, All, count}
use Rattle.model.proofs.Laws.Lists.{length-join_below, sum_over-join_below}
use Rattle.arithmetic.proofs.Laws.Tests.{by_bool}
use Rattle.model.specs.Trees.{Placed, Tree, leaf, branch, child_node, group_count, place_count, at_place}
use Rattle.model.specs.Shapes.{Shape, Valid, below}
use Rattle.model.specs.Layout.{none, first_node, NodeEntry, PlaceEntry, tree_nodes, free_group_nodes}
use Rattle.model.specs.Layout.{chain_places, tree_places, blank, node_entries, place_entries}
use Rattle.std.proofs.lemmas.Bool.{eqb-false}
use Rattle.model.proofs.Laws.Shapes.{below_yes, below-no, below-le}

-- ---- a word of a row that is joined from short rows of m words each

pub get_d_join_below : {A : Type 0} (m n : ℕ) (f : ℕ → List A) → ((i : ℕ) → length (f i) ≡ m) → (k j : ℕ) (z : A) → k < n → j < m
    → get_or (join_below n f) (m * k + j) z ≡ get_or (f k) j z
get_d_join_below m zero f e k j z b c = absurd (omega arith)
get_d_join_below m (suc n) f e k j z b c =
    let l = length-join_below n m f e ∙ mul_comm n m in
    by_dec (dec_lt k n)
    (λ h.
    let step : m * suc k ≤ m * n = mul-le-mul_left m h in
    get_or-append (join_below n f) (f n) z (m * k + j) (omega (arith, l, step, mul-suc m k)) ∙ get_d_join_below m n f e k j z h c)
    (λ h.
    let k-n : k ≡ n = omega arith in
    ap (λ (y : ℕ). get_or (join_below n f ++ f n) (m * y + j) z) k-n
    ∙ ap (λ (y : ℕ). get_or (join_below n f ++ f n) (y + j) z) (sym l)
    ∙ get_or-append-add (join_below n f) (f n) j z
    ∙ ap (λ (y : ℕ). get_or (f y) j z) (sym k-n))

-- ---- each entry is found

abbrev pub node_is : ℕ → NodeEntry → ℕ
node_is k e = indicator k e.node

abbrev pub place_is : ℕ → PlaceEntry → ℕ
place_is k e = indicator k e.place

module _ {E A : Type 0} (key : E → ℕ) (value : E → A) (find : List E → ℕ → A)
    (find-cons : (e : E) (es : List E) (k : ℕ) → find (e ∷ es) k ≡ cond (eqb k (key e)) (value e) (find es k)) where
  abbrev pub Counted : ℕ → List E → ℕ
  Counted k es = sum_over (λ e. indicator k (key e)) es

  -- where no number stands twice, each entry is the one that is found by its number
  pub found : (es : List E) → ((k : ℕ) → Counted k es ≤ 1) → (fs : List E) → ((k : ℕ) → Counted k fs ≤ Counted k es)
      → ((k : ℕ) → 1 ≤ Counted k fs → find es k ≡ find fs k)
      → All (λ e. (find es (key e) ≡ value e) × (1 ≤ Counted (key e) es)) fs
  found es once [] part same = tt
  found es once (e ∷ fs) part same =
      let here : find (e ∷ fs) (key e) ≡ value e = find-cons e fs (key e) ∙ rw (eq-eqb (key e) (key e) refl) refl in (
        (same (key e) (omega (arith, indicator-same (key e))) ∙ here, omega (arith, part (key e), indicator-same (key e))),
        found es once fs (λ k. omega (arith, part k))
            (λ k c.
            let ne : eqb k (key e) ≡ false =
            by_bool (eqb k (key e))
            (λ t. absurd (omega (arith, once k, part k, ap (indicator k) (sym (eqb-true k (key e) t)), indicator-same k))) (λ f. f) in
            same k (omega arith) ∙ find-cons e fs k ∙ rw ne refl),
      )

  pub each-found : (es : List E) → ((k : ℕ) → Counted k es ≤ 1) → All (λ e. (find es (key e) ≡ value e) × (1 ≤ Counted (key e) es)) es
  each-found es once = found es once es (λ k. omega arith) (λ k c. refl)

  -- what stands at each entry's number is what is found by any number that an entry has
  pub finds : (at : ℕ → A) (es : List E) → All (λ e. at (key e) ≡ value e) es → (k : ℕ) → 1 ≤ Counted k es → find es k ≡ at k
  finds at [] a k c = absurd (omega arith)
  finds at (e ∷ es) a k c =
      by_bool (eqb k (key e))
      (λ t. find-cons e es k ∙ rw t (sym a.0 ∙ ap at (sym (eqb-true k (key e) t))))
      (λ t. find-cons e es k ∙ rw t (finds at es a.1 k (omega (arith, indicator_other k (key e) (eqb-false k (key e) t)))))

-- ---- each number stands once

pub children-once : (q r g : ℕ) → r < 5 → sum_below 5 (λ i. indicator (child_node q r) (child_node g i)) ≡ indicator q g
children-once q r g b =
    by_dec (ℕ_discrete q g)
    (λ e.
    sum_below-only 5 (λ i. indicator (child_node q r) (child_node g i)) r b
    (λ j jb ne. indicator_other (child_node q r) (child_node g j) (λ x. ne (omega arith)))
    ∙ ap (λ (y : ℕ). indicator (child_node q r) (child_node y r)) (sym e) ∙ indicator-same (child_node q r)
    ∙ sym (ap (indicator q) (sym e) ∙ indicator-same q))
    (λ ne.
    sum_below-zero 5 (λ i. indicator (child_node q r) (child_node g i)) (λ j jb. indicator_other (child_node q r) (child_node g j) (λ x. ne (omega arith)))
    ∙ sym (indicator_other q g ne))

pub tree-nodes : (q r a : ℕ) (t : Tree) → r < 5 → sum_over (node_is (child_node q r)) (tree_nodes a t) ≡ indicator (child_node q r) a + group_count q t
tree-nodes q r a (leaf c) b = omega arith
tree-nodes q r a (branch g f) b =
    let k = child_node q r in
    omega (
      arith,
      sum_over-join_below (node_is k) 5 (λ i. tree_nodes (child_node g i) (f i)),
      sum_below_ext 5 (λ i. sum_over (node_is k) (tree_nodes (child_node g i) (f i))) (λ i. indicator k (child_node g i) + group_count q (f i))
          (λ i ib. tree-nodes q r (child_node g i) (f i) b),
      sum_below-add 5 (λ i. indicator k (child_node g i)) (λ i. group_count q (f i)),
      children-once q r g b,
    )

pub tree-zero : (a : ℕ) (t : Tree) → sum_over (node_is 0) (tree_nodes a t) ≡ indicator 0 a
tree-zero a (leaf c) = omega arith
tree-zero a (branch g f) =
    omega (
      arith,
      sum_over-join_below (node_is 0) 5 (λ i. tree_nodes (child_node g i) (f i)),
      sum_below-zero 5 (λ i. sum_over (node_is 0) (tree_nodes (child_node g i) (f i)))
          (λ i b. tree-zero (child_node g i) (f i) ∙ indicator_other 0 (child_node g i) (λ e. omega arith)),
    )

-- the five nodes of a free group
pub group-nodes : (h : NodeEntry → ℕ) (g : ℕ) (gs : List ℕ) → sum_over h (free_group_nodes (g ∷ gs))
    ≡ h (record { node = child_node g 0; first = first_node gs; count = 0 })
    + sum_below 4 (λ i. h (record { node = child_node g (1 + i); first = none; count = 0 })) + sum_over h (free_group_nodes gs)
group-nodes h g gs = omega arith

pub free-nodes : (q r : ℕ) (gs : List ℕ) → r < 5 → sum_over (node_is (child_node q r)) (free_group_nodes gs) ≡ count q gs
free-nodes q r [] b = refl
free-nodes q r (g ∷ gs) b = omega (arith, group-nodes (node_is (child_node q r)) g gs, free-nodes q r gs b, children-once q r g b)

pub free-zero : (gs : List ℕ) → sum_over (node_is 0) (free_group_nodes gs) ≡ 0
free-zero [] = refl
free-zero (g ∷ gs) =
    omega (
      arith,
      group-nodes (node_is 0) g gs,
      free-zero gs,
      indicator_other 0 (child_node g 0) (λ e. omega arith),
      sum_below-zero 4 (λ i. indicator 0 (child_node g (1 + i))) (λ i b. indicator_other 0 (child_node g (1 + i)) (λ e. omega arith)),
    )

-- in all entries of a shape
pub nodes-at : (x : Shape) → Valid x → (q r : ℕ) → r < 5 → sum_over (node_is (child_node q r)) (node_entries x) ≡ below q x.groups
nodes-at x v q r b =
    omega (
      arith,
      sum_over-append (node_is (child_node q r)) (tree_nodes 0 x.tree) (free_group_nodes x.free_groups),
      tree-nodes q r 0 x.tree b,
      free-nodes q r x.free_groups b,
      indicator_other (child_node q r) 0 (λ e. omega arith),
      v.groups_once q,
    )

pub nodes-zero : (x : Shape) → sum_over (node_is 0) (node_entries x) ≡ 1
nodes-zero x =
    omega (
      arith,
      sum_over-append (node_is 0) (tree_nodes 0 x.tree) (free_group_nodes x.free_groups),
      tree-zero 0 x.tree,
      free-zero x.free_groups,
      indicator-same 0,
    )

-- node k as 0, or as child r of group q
pub by-node : (P : ℕ → Type 0) → P 0 → ((q r : ℕ) → r < 5 → P (child_node q r)) → (k : ℕ) → P k
by-node P z c k =
    by_dec (ℕ_discrete k 0)
    (λ e. subst P (sym e) z)
    (λ ne.
    let q : ℕ = (k - 1) / 5 in
    let r : ℕ = (k - 1) % 5 in
    let e : child_node q r ≡ k = omega arith in
    subst P e (c q r (omega arith)))

pub nodes-once : (x : Shape) → Valid x → (k : ℕ) → sum_over (node_is k) (node_entries x) ≤ 1
nodes-once x v =
    by-node (λ k. sum_over (node_is k) (node_entries x) ≤ 1)
    (omega (arith, nodes-zero x))
    (λ q r b. omega (arith, nodes-at x v q r b, below-le q x.groups))

pub chain-places : (k : ℕ) (ds : List Placed) → sum_over (place_is k) (chain_places ds) ≡ sum_over (at_place k) ds
chain-places k [] = refl
chain-places k (d ∷ ds) = omega (arith, chain-places k ds)

pub tree_places_lem : (k : ℕ) (t : Tree) → sum_over (place_is k) (tree_places t) ≡ place_count k t
tree_places_lem k (leaf c) = chain-places k c
tree_places_lem k (branch g f) =
    sum_over-join_below (place_is k) 5 (λ i. tree_places (f i))
    ∙ sum_below_ext 5 (λ i. sum_over (place_is k) (tree_places (f i))) (λ i. place_count k (f i)) (λ i b. tree_places_lem k (f i))

pub places-at : (x : Shape) → Valid x → (k : ℕ) → sum_over (place_is k) (place_entries x) ≡ below k x.places
places-at x v k =
    omega (
      arith,
      sum_over-append (place_is k) (tree_places x.tree) (chain_places (map blank x.free_places)),
      tree_places_lem k x.tree,
      chain-places k (map blank x.free_places),
      sum_over-map (at_place k) blank x.free_places,
      v.places_once k,
    )

pub node-range : (x : Shape) → Valid x → (k : ℕ) → 1 ≤ sum_over (node_is k) (node_entries x) → k < 1 + 5 * x.groups
node-range x v =
    by-node (λ k. 1 ≤ sum_over (node_is k) (node_entries x) → k < 1 + 5 * x.groups)
    (λ c. omega arith)
    (λ q r b c. by_dec (dec_lt q x.groups) (λ h. omega arith) (λ h. absurd (omega (arith, nodes-at x v q r b, below-no q x.groups (omega arith)))))

pub node-there : (x : Shape) → Valid x → (k : ℕ) → k < 1 + 5 * x.groups → 1 ≤ sum_over (node_is k) (node_entries x)
node-there x v =
    by-node (λ k. k < 1 + 5 * x.groups → 1 ≤ sum_over (node_is k) (node_entries x))
    (λ c. omega (arith, nodes-zero x))
    (λ q r b c. omega (arith, nodes-at x v q r b, below_yes q x.groups (omega arith)))

pub place-range : (x : Shape) → Valid x → (k : ℕ) → 1 ≤ sum_over (place_is k) (place_entries x) → k < x.places
place-range x v k c = by_dec (dec_lt k x.places) (λ h. h) (λ h. absurd (omega (arith, places-at x v k, below-no k x.places (omega arith))))

pub place-there : (x : Shape) → Valid x → (k : ℕ) → k < x.places → 1 ≤ sum_over (place_is k) (place_entries x)
place-there x v k h = omega (arith, places-at x v k, below_yes k x.places h)
