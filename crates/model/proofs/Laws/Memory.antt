-- The relation of Memory and the function layout say the same of a valid shape.
--     tree_of, chain_of, free_of; of_tree, of_chain, of_free       from the entries in the words to the relation, and back
--     holds-represented    a world that holds x, read word by word, has the shape x
--     represented-holds    and the other way round: the relation fixes every word, as the layout's
use Rattle.std.specs.Prelude.{◌≡◌, refl, ℕ, zero, suc, ◌+◌, ◌*◌, ◌-◌, ◌/◌, ◌%◌, ◌≤◌, ◌<◌, ℤ, pos, length, replicate}
use Rattle.std.proofs.Math.Path.{ap}
use Rattle.std.proofs.Common.{ap₂, sym, ◌∙◌, subst, subst₂, mul_comm, mod-lt, div-lt_iff_lt-mul, arith, ext_get_or}
use mathlib.Core.List.{List, [], ◌∷◌, ◌++◌, map}
use Rattle.std.proofs.Math.Nat.{div-add-mod}
use Rattle.std.proofs.Math.Decide.{ℕ_discrete}
use Rattle.std.proofs.Math.ListN.{get_or}
use Rattle.geometry.specs.declared.aabb.AABB.{AABB}
use Rattle.model.specs.declared.Dot.{Dot}
use Rattle.model.specs.declared.State.{State}
use Rattle.model.specs.Sums.{sum_over}
use Rattle.model.proofs.Laws.Sums.{by_dec}
use Rattle.model.specs.Lists.{join_below, All}
use Rattle.model.proofs.Laws.Lists.{length-join_below, all_append, all-join_below, all_map}
use Rattle.model.specs.Trees.{Placed, Tree, leaf, branch, child_node}
use Rattle.model.specs.Shapes.{Shape, Valid}
use Rattle.model.specs.Layout.{World, none, first_node, first_dot, NodeEntry, PlaceEntry, tree_nodes, free_group_nodes, chain_places, tree_places, blank}
use Rattle.model.specs.Layout.{node_entries, place_entries, node_words, place_words, dot_words, rect_words, place_rect, state_of, layout, cleared, Holds}
use Rattle.model.proofs.Laws.Shapes.{below-le}
use Rattle.model.proofs.Laws.Layout.{two-node, three-dot, four-rect, layout-lengths, holds-all}
use Rattle.model.specs.Memory.{Mem, first_at, count_at, id_at, next_at, ink_at, rect_at, dot_at, memory, Chained, Represents, FreeGroups, Represented}
use Rattle.model.proofs.Laws.Entries.{get_d_join_below, node_is, place_is, each-found, finds, nodes-once}
use Rattle.model.proofs.Laws.Entries.{places-at, node-range, node-there, place-range, place-there}

-- ---- lists of which all have a property

all_split : {A : Type 0} (P : A → Type 0) (xs ys : List A) → All P (xs ++ ys) → All P xs × All P ys
all_split P [] ys a = (tt, a)
all_split P (x ∷ xs) ys a = let r = all_split P xs ys a.1 in ((a.0, r.0), r.1)

all-part : {A : Type 0} (P : A → Type 0) (n : ℕ) (f : ℕ → List A) → All P (join_below n f) → (i : ℕ) → i < n → All P (f i)
all-part P zero f a i b = absurd (omega arith)
all-part P (suc n) f a i b =
    let r = all_split P (join_below n f) (f n) a in
    by_dec (ℕ_discrete i n) (λ e. subst (λ (y : ℕ). All P (f y)) (sym e) r.1) (λ ne. all-part P n f r.0 i (omega arith))

all_both : {A : Type 0} (P Q : A → Type 0) (xs : List A) → All P xs → All Q xs → All (λ x. P x × Q x) xs
all_both P Q [] a b = tt
all_both P Q (x ∷ xs) a b = ((a.0, b.0), all_both P Q xs a.1 b.1)

-- ---- an entry stands in the words

abbrev NodeStands : Mem → NodeEntry → Type 0
NodeStands m e = m.first e.node ∷ m.count e.node ∷ [] ≡ e.first ∷ e.count ∷ []

abbrev PlaceStands : Mem → PlaceEntry → Type 0
PlaceStands m e = (m.dot e.place ≡ e.dot) × (m.next e.place ≡ e.next)

first_word : (a b : List ℕ) → a ≡ b → get_or a 0 0 ≡ get_or b 0 0
first_word a b e = ap (λ (l : List ℕ). get_or l 0 0) e

second_word : (a b : List ℕ) → a ≡ b → get_or a 1 0 ≡ get_or b 1 0
second_word a b e = ap (λ (l : List ℕ). get_or l 1 0) e

-- from the entries to the relation

chain_of : (m : Mem) (ds : List Placed) → All (PlaceStands m) (chain_places ds) → Chained m (first_dot ds) ds none
chain_of m [] a = refl
chain_of m (d ∷ ds) a = (refl, a.0.0, subst (λ (n : ℕ). Chained m n ds none) (sym a.0.1) (chain_of m ds a.1))

tree_of : (m : Mem) (a : ℕ) (t : Tree) → All (NodeStands m) (tree_nodes a t) → All (PlaceStands m) (tree_places t) → Represents m a t
tree_of m a (leaf c) n p = (second_word _ _ n.0, subst (λ (h : ℕ). Chained m h c none) (sym (first_word _ _ n.0)) (chain_of m c p))
tree_of m a (branch g f) n p = (
  second_word _ _ n.0,
  first_word _ _ n.0,
  λ i b. tree_of m (child_node g i) (f i)
      (all-part (NodeStands m) 5 (λ j. tree_nodes (child_node g j) (f j)) n.1 i b)
      (all-part (PlaceStands m) 5 (λ j. tree_places (f j)) p i b),
)

free_of : (m : Mem) (gs : List ℕ) → All (NodeStands m) (free_group_nodes gs) → FreeGroups m (first_node gs) gs
free_of m [] a = refl
free_of m (g ∷ gs) a =
    let E : ℕ → List NodeEntry = λ i. record { node = child_node g (1 + i); first = none; count = 0 } ∷ [] in
    let r = all_split (NodeStands m) (join_below 4 E) (free_group_nodes gs) a.1 in
    let each = all-part (NodeStands m) 4 E r.0 in (
      refl,
      second_word _ _ a.0,
      (λ i low high.
          let stands = (each (i - 1) (omega arith)).0 in
          let k : child_node g (1 + (i - 1)) ≡ child_node g i = omega arith in
          subst (λ (y : ℕ). (m.first y ≡ none) × (m.count y ≡ 0)) k (first_word _ _ stands, second_word _ _ stands)),
      subst (λ (h : ℕ). FreeGroups m h gs) (sym (first_word _ _ a.0)) (free_of m gs r.1),
    )

-- and back

two : (a b c d : ℕ) → a ≡ c → b ≡ d → ◌≡◌ {A = List ℕ} (a ∷ b ∷ []) (c ∷ d ∷ [])
two a b c d p q = λ i. p i ∷ q i ∷ []

of_chain : (m : Mem) (h : ℕ) (ds : List Placed) → Chained m h ds none → (h ≡ first_dot ds) × All (PlaceStands m) (chain_places ds)
of_chain m h [] c = (c, tt)
of_chain m h (d ∷ ds) c = let r = of_chain m (m.next d.place) ds c.2 in (c.0, ((c.1, r.0), r.1))

of_tree : (m : Mem) (a : ℕ) (t : Tree) → Represents m a t → All (NodeStands m) (tree_nodes a t) × All (PlaceStands m) (tree_places t)
of_tree m a (leaf c) r = let x = of_chain m (m.first a) c r.1 in ((two _ _ _ _ x.0 r.0, tt), x.1)
of_tree m a (branch g f) r =
    let each : (i : ℕ) → i < 5 → All (NodeStands m) (tree_nodes (child_node g i) (f i)) × All (PlaceStands m) (tree_places (f i)) =
    λ i b. of_tree m (child_node g i) (f i) (r.2 i b) in (
      (two _ _ _ _ r.1 r.0, all-join_below (NodeStands m) 5 (λ i. tree_nodes (child_node g i) (f i)) (λ i b. (each i b).0)),
      all-join_below (PlaceStands m) 5 (λ i. tree_places (f i)) (λ i b. (each i b).1),
    )

of_free : (m : Mem) (h : ℕ) (gs : List ℕ) → FreeGroups m h gs → (h ≡ first_node gs) × All (NodeStands m) (free_group_nodes gs)
of_free m h [] r = (r, tt)
of_free m h (g ∷ gs) r =
    let E : ℕ → List NodeEntry = λ i. record { node = child_node g (1 + i); first = none; count = 0 } ∷ [] in
    let rest = of_free m (m.first (child_node g 0)) gs r.3 in (
      r.0,
      (
        two _ _ _ _ rest.0 r.1,
        all_append (NodeStands m) (join_below 4 E) (free_group_nodes gs)
            (all-join_below (NodeStands m) 4 E (λ i b. let e = r.2 (1 + i) (omega arith) (omega arith) in (two _ _ _ _ e.0 e.1, tt))) rest.1,
      ),
    )

-- ---- the layout, read word by word

-- a dot by its words
dot-words : (w : World) (p : ℕ) (d : Dot) → ((j : ℕ) → j < 4 → get_or w.rects (4 * p + j) (pos 0) ≡ get_or (rect_words d.rect) j (pos 0))
    → id_at w.dots p ≡ d.id → ink_at w.dots p ≡ d.ink → dot_at w.dots w.rects p ≡ d
unfolding id_at ink_at rect_at
dot-words w p d r id ink =
    let x1 = r 0 (omega arith) in
    let y1 = r 1 (omega arith) in
    let x2 = r 2 (omega arith) in
    let y2 = r 3 (omega arith) in
    λ i. record { id = id i; rect = record { x1 = x1 i; y1 = y1 i; x2 = x2 i; y2 = y2 i }; ink = ink i }

module _ (x : Shape) (v : Valid x) where
  layout-nodes : All (NodeStands (memory (layout x))) (node_entries x)
  unfolding layout first_at count_at
  layout-nodes =
      let es = node_entries x in
      let row = join_below (1 + 5 * x.groups) (node_words es) in
      all_map (λ e. (node_words es e.node ≡ e.first ∷ e.count ∷ []) × (1 ≤ sum_over (node_is e.node) es)) (NodeStands (memory (layout x)))
      (λ e p.
      let read : (j : ℕ) → j < 2 → get_or row (2 * e.node + j) 0 ≡ get_or (e.first ∷ e.count ∷ []) j 0 =
      λ j b. get_d_join_below 2 (1 + 5 * x.groups) (node_words es) (two-node es) e.node j 0 (node-range x v e.node p.1) b
      ∙ ap (λ (l : List ℕ). get_or l j 0) p.0 in
      two _ _ _ _ (read 0 (omega arith)) (read 1 (omega arith)))
      es
      (each-found (λ e. e.node) (λ e. e.first ∷ e.count ∷ []) node_words (λ e es k. refl) es (nodes-once x v))

  places-once : (k : ℕ) → sum_over (place_is k) (place_entries x) ≤ 1
  places-once k = omega (arith, places-at x v k, below-le k x.places)

  layout-places : All (PlaceStands (memory (layout x))) (place_entries x)
  unfolding layout id_at next_at ink_at
  layout-places =
      let es = place_entries x in
      let n = x.places in
      let words = each-found (λ e. e.place) (λ e. place_words e.dot e.next) dot_words (λ e es k. refl) es places-once in
      let rects = each-found (λ e. e.place) (λ e. rect_words e.dot.rect) place_rect (λ e es k. refl) es places-once in
      all_map
      (λ e. ((dot_words es e.place ≡ place_words e.dot e.next) × (1 ≤ sum_over (place_is e.place) es))
      × ((place_rect es e.place ≡ rect_words e.dot.rect) × (1 ≤ sum_over (place_is e.place) es)))
      (PlaceStands (memory (layout x)))
      (λ e p.
      let range = place-range x v e.place p.0.1 in
      let word : (j : ℕ) → j < 3 → get_or (join_below n (dot_words es)) (3 * e.place + j) 0 ≡ get_or (place_words e.dot e.next) j 0 =
      λ j b. get_d_join_below 3 n (dot_words es) (three-dot es) e.place j 0 range b ∙ ap (λ (l : List ℕ). get_or l j 0) p.0.0 in
      let corner : (j : ℕ) → j < 4 → get_or (join_below n (place_rect es)) (4 * e.place + j) (pos 0) ≡ get_or (rect_words e.dot.rect) j (pos 0) =
      λ j b. get_d_join_below 4 n (place_rect es) (four-rect es) e.place j (pos 0) range b ∙ ap (λ (l : List ℤ). get_or l j (pos 0)) p.1.0 in
      (dot-words (layout x) e.place e.dot corner (word 0 (omega arith)) (word 2 (omega arith)), word 1 (omega arith)))
      es
      (all_both (λ e. (dot_words es e.place ≡ place_words e.dot e.next) × (1 ≤ sum_over (place_is e.place) es))
      (λ e. (place_rect es e.place ≡ rect_words e.dot.rect) × (1 ≤ sum_over (place_is e.place) es)) es words rects)

  pub layout-represented : Represented (layout x) x
  unfolding state_of layout
  layout-represented =
      let m = memory (layout x) in
      let l = layout-lengths x in
      let n = all_split (NodeStands m) (tree_nodes 0 x.tree) (free_group_nodes x.free_groups) layout-nodes in
      let p = all_split (PlaceStands m) (tree_places x.tree) (chain_places (map blank x.free_places)) layout-places in
      record {
        nodes = l.nodes;
        dots = l.dots;
        rects = l.rects;
        marks = l.marks;
        tree = tree_of m 0 x.tree n.0 p.0;
        groups = free_of m x.free_groups n.1;
        places = chain_of m (map blank x.free_places) p.1;
        settings = refl;
        live = refl;
        changes = refl;
      }

-- A world that holds x, read word by word, has the shape x.
pub holds-represented : (w : World) (x : Shape) → Holds w x → Represented w x
unfolding cleared
holds-represented w x h =
    let e : memory w ≡ memory (layout x) = ap memory h.words in
    let s : w.state ≡ (layout x).state = ap (λ (v : World). v.state) h.words in
    let l = holds-all w x h in
    let r = layout-represented x h.valid in
    record {
      nodes = l.nodes;
      dots = l.dots;
      rects = l.rects;
      marks = l.marks;
      tree = subst (λ (m : Mem). Represents m 0 x.tree) (sym e) r.tree;
      groups = subst₂ (λ (m : Mem) (t : State). FreeGroups m t.free_group x.free_groups) (sym e) (sym s) r.groups;
      places = subst₂ (λ (m : Mem) (t : State). Chained m t.free_place (map blank x.free_places) none) (sym e) (sym s) r.places;
      settings = ap (λ (t : State). t.settings) s ∙ r.settings;
      live = ap (λ (t : State). t.live) s ∙ r.live;
      changes = ap (λ (t : State). t.changes) s ∙ r.changes;
    }

-- ---- the relation fixes every word

-- a row that is joined from short rows of m words each, by its words
blocks_equal : {A : Type 0} (z : A) (m n : ℕ) (row : List A) (f : ℕ → List A) → 1 ≤ m → length row ≡ m * n → ((k : ℕ) → length (f k) ≡ m)
    → ((k : ℕ) → k < n → (j : ℕ) → j < m → get_or row (m * k + j) z ≡ get_or (f k) j z) → row ≡ join_below n f
blocks_equal z m n row f one l e at =
    ext_get_or z row (join_below n f) (l ∙ mul_comm m n ∙ sym (length-join_below n m f e))
    (λ i b.
    let k : ℕ = i / m in
    let j : ℕ = i % m in
    let kn : k < n = (div-lt_iff_lt-mul one).1 (omega (arith, l, mul_comm n m)) in
    let jm : j < m = mod-lt i one in
    let same : m * k + j ≡ i = div-add-mod i m in
    subst (λ (y : ℕ). get_or row y z ≡ get_or (join_below n f) y z) same (at k kn j jm ∙ sym (get_d_join_below m n f e k j z kn jm)))

pair-word : (a b : ℕ) (at : ℕ → ℕ) → at 0 ≡ a → at 1 ≡ b → (j : ℕ) → j < 2 → at j ≡ get_or (a ∷ b ∷ []) j 0
pair-word a b at p q zero h = p
pair-word a b at p q (suc zero) h = q
pair-word a b at p q (suc (suc j)) h = absurd (omega arith)

place-word : (d : Dot) (n : ℕ) (at : ℕ → ℕ) → at 0 ≡ d.id → at 1 ≡ n → at 2 ≡ d.ink → (j : ℕ) → j < 3 → at j ≡ get_or (place_words d n) j 0
place-word d n at p q r zero h = p
place-word d n at p q r (suc zero) h = q
place-word d n at p q r (suc (suc zero)) h = r
place-word d n at p q r (suc (suc (suc j))) h = absurd (omega arith)

corner_word : (r : AABB) (at : ℕ → ℤ) → at 0 ≡ r.x1 → at 1 ≡ r.y1 → at 2 ≡ r.x2 → at 3 ≡ r.y2 → (j : ℕ) → j < 4 → at j ≡ get_or (rect_words r) j (pos 0)
corner_word r at p q s t zero h = p
corner_word r at p q s t (suc zero) h = q
corner_word r at p q s t (suc (suc zero)) h = s
corner_word r at p q s t (suc (suc (suc zero))) h = t
corner_word r at p q s t (suc (suc (suc (suc j)))) h = absurd (omega arith)

-- A world that, read word by word, has the valid shape x, holds x: its words are the layout's.
pub represented-holds : (w : World) (x : Shape) → Valid x → Represented w x → Holds w x
unfolding cleared layout state_of first_at count_at id_at next_at ink_at rect_at
represented-holds w x v r =
    let m = memory w in
    let t = of_tree m 0 x.tree r.tree in
    let g = of_free m w.state.free_group x.free_groups r.groups in
    let c = of_chain m w.state.free_place (map blank x.free_places) r.places in
    let ns = all_append (NodeStands m) (tree_nodes 0 x.tree) (free_group_nodes x.free_groups) t.0 g.1 in
    let ps = all_append (PlaceStands m) (tree_places x.tree) (chain_places (map blank x.free_places)) t.1 c.1 in
    let es = node_entries x in
    let fs = place_entries x in
    let node-pair : ℕ → List ℕ = λ k. m.first k ∷ m.count k ∷ [] in
    let place-words : ℕ → List ℕ = λ k. place_words (m.dot k) (m.next k) in
    let corners : ℕ → List ℤ = λ k. rect_words (m.dot k).rect in
    let ds = all_map (PlaceStands m) (λ e. place-words e.place ≡ place_words e.dot e.next)
    (λ e p. ap₂ place_words p.0 p.1) fs ps in
    let rs = all_map (PlaceStands m) (λ e. corners e.place ≡ rect_words e.dot.rect) (λ e p. ap (λ (d : Dot). rect_words d.rect) p.0) fs ps in
    let nodes : w.nodes ≡ join_below (1 + 5 * x.groups) (node_words es) =
    blocks_equal 0 2 (1 + 5 * x.groups) w.nodes (node_words es) (omega arith) (omega (arith, r.nodes)) (two-node es)
    (λ k b j jb.
    pair-word (m.first k) (m.count k) (λ j. get_or w.nodes (2 * k + j) 0) refl refl j jb
    ∙ sym (ap (λ (l : List ℕ). get_or l j 0)
    (finds (λ e. e.node) (λ e. e.first ∷ e.count ∷ []) node_words (λ e es k. refl) node-pair es ns k (node-there x v k b)))) in
    let dots : w.dots ≡ join_below x.places (dot_words fs) =
    blocks_equal 0 3 x.places w.dots (dot_words fs) (omega arith) r.dots (three-dot fs)
    (λ k b j jb.
    place-word (m.dot k) (m.next k) (λ j. get_or w.dots (3 * k + j) 0) refl refl refl j jb
    ∙ sym (ap (λ (l : List ℕ). get_or l j 0)
    (finds (λ e. e.place) (λ e. place_words e.dot e.next) dot_words (λ e es k. refl) place-words fs ds k (place-there x v k b)))) in
    let rects : w.rects ≡ join_below x.places (place_rect fs) =
    blocks_equal (pos 0) 4 x.places w.rects (place_rect fs) (omega arith) r.rects (four-rect fs)
    (λ k b j jb.
    corner_word (m.dot k).rect (λ j. get_or w.rects (4 * k + j) (pos 0)) refl refl refl refl j jb
    ∙ sym (ap (λ (l : List ℤ). get_or l j (pos 0))
    (finds (λ e. e.place) (λ e. rect_words e.dot.rect) place_rect (λ e es k. refl) corners fs rs k (place-there x v k b)))) in
    let marks : replicate {A = ℕ} (length w.marks) 0 ≡ replicate (x.places + x.groups) 0 = ap (λ (n : ℕ). replicate {A = ℕ} n 0) r.marks in
    let settings = r.settings in
    let live = r.live in
    let changes = r.changes in
    let group_head = g.0 in
    let place_head = c.0 in
    record {
      valid = v;
      words = λ i. record {
        state = record { settings = settings i; free_group = group_head i; free_place = place_head i; live = live i; changes = changes i };
        nodes = nodes i;
        dots = dots i;
        rects = rects i;
        marks = marks i;
      };
    }
