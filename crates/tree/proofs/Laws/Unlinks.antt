-- A dot taken out of its chain in the words, its place freed.
--     leaf-holds   what is owed where one leaf and the free places change
--     pop_words, pop_holds; drop_words, drop-holds   the head of the chain goes; the dot behind another goes
use Rattle.std.specs.Prelude.{◌≡◌, refl, ◌≢◌, List, map, ◌∷◌, ◌++◌, ℕ, ◌+◌, ◌≤◌, ◌-◌}
use Rattle.std.proofs.Common.{ap, sym, ◌∙◌, subst, arith, length-append}
use Rattle.model.specs.Sums.{indicator, sum_over, changed}
use Rattle.model.proofs.Laws.Sums.{indicator-same, sum_over-append, changed-same, changed_other}
use Rattle.model.specs.Trees.{Placed, Tree, leaf, child_node, sum_dots, sum_groups, at_place, group_count}
use Rattle.model.specs.Layout.{none, blank}
use Rattle.model.specs.Memory.{Mem, Chained, Represents}
use Rattle.model.proofs.Laws.Shapes.{below-le}
use Rattle.model.specs.Dots.{zero_dot}
use Rattle.tree.specs.Trees.{sum_nodes, node_count}
use Rattle.tree.proofs.Laws.Frames.{SamePlace, SameNode, free_frame, chain_frame, chain_pop, chain-drop}
use Rattle.tree.proofs.Laws.Paths.{Children, sum_dots-put, sum_groups-put, sum_nodes-sub, tree-put, sum_dots-sub, tree-sub}
use Rattle.tree.specs.Paths.{sub, node_at, put}
use Rattle.tree.specs.Stored.{Stored}
use Rattle.tree.proofs.Laws.Stored.{nodes-once, node-not_free}
use Rattle.tree.specs.Stores.{set_first, set_count, set_dot, set_next}

-- ---- a leaf changes, with the free places: what is owed

module _ (G N : ℕ) (m : Mem) (group_head place_head : ℕ) (t : Tree) (free spare : List ℕ) (path : List ℕ) (c : List Placed)
    (children : Children path) (e : sub t path ≡ leaf c) (H : Stored G N m group_head place_head t free spare) where
  pub leaf-holds : (w : Mem) (place_head' : ℕ) (c' : List Placed) (spare' : List ℕ) → let b = node_at 0 t path in
      ((k : ℕ) → k ≢ b → SameNode m w k)
      → ((k : ℕ) → sum_over (at_place k) c + sum_over (at_place k) (map blank spare) ≡ 0 → SamePlace m w k)
      → Represents w b (leaf c') → Chained w place_head' (map blank spare') none
      → ((k : ℕ) → sum_over (at_place k) c' + sum_over (at_place k) (map blank spare') ≡ sum_over (at_place k) c + sum_over (at_place k) (map blank spare))
      → Stored G N w group_head place_head' (put t path (leaf c')) free spare'
  leaf-holds w place_head' c' spare' sn sp r s q =
      let b = node_at 0 t path in
      let once_g : (k : ℕ) → group_count k t ≤ 1 = λ k. omega (arith, H.groups_once k, below-le k G) in
      let in_n : 1 ≤ node_count b 0 t = omega (arith, sum_nodes-sub (indicator b) 0 t path children, ap (sum_nodes (indicator b) b) e, indicator-same b) in
      record {
        tree =
            tree-put m w 0 t path (leaf c') children (nodes-once t once_g) (λ k. omega (arith, H.places_once k, below-le k N))
            (λ k h z. sn k (λ x. omega (arith, z, ap (sum_nodes (indicator k) b) e, ap (λ (y : ℕ). indicator y b) x, indicator-same b)))
            (λ k h z. sp k (omega (arith, ap (sum_dots (at_place k)) e, H.places_once k, below-le k N)))
            H.tree r;
        groups = free_frame m w group_head free
            (λ g i h l. sn (child_node g i) (λ x. node-not_free t b g i l (omega (arith, H.groups_once g, below-le g G)) in_n (sym x))) H.groups;
        places = s;
        groups_once = λ k. omega (arith, H.groups_once k, sum_groups-put (indicator k) t path (leaf c') children, ap (sum_groups (indicator k)) e);
        places_once = λ k. omega (arith, H.places_once k, sum_dots-put (at_place k) t path (leaf c') children, ap (sum_dots (at_place k)) e, q k);
      }

-- the place p goes to the head of the free places
abbrev pub free_words : Mem → ℕ → ℕ → Mem
free_words m p place_head = set_next (set_dot m p zero_dot) p place_head

free_other : (m : Mem) (p place_head k : ℕ) → k ≢ p → SamePlace m (free_words m p place_head) k
free_other m p place_head k ne = (sym (changed_other m.dot p zero_dot k ne), sym (changed_other m.next p place_head k ne))

-- the head of the chain goes
abbrev pub pop_words : Mem → ℕ → ℕ → ℕ → Mem
pop_words m b p place_head = free_words (set_count (set_first m b (m.next p)) b (m.count b - 1)) p place_head

pub pop_holds : (G N : ℕ) (m : Mem) (group_head place_head : ℕ) (t : Tree) (free spare : List ℕ) (path : List ℕ) (d : Placed) (c : List Placed)
    → Children path → sub t path ≡ leaf (d ∷ c)
    → Stored G N m group_head place_head t free spare
    → Stored G N (pop_words m (node_at 0 t path) d.place place_head) group_head d.place (put t path (leaf c)) free (d.place ∷ spare)
pop_holds G N m group_head place_head t free spare path d c children e H =
    let b = node_at 0 t path in
    let p = d.place in
    let w = pop_words m b p place_head in
    let r = subst (λ (u : Tree). Represents m b u) e (tree-sub m 0 t path children H.tree) in
    let all : (k : ℕ) → indicator k p + sum_over (at_place k) c + sum_over (at_place k) (map blank spare) ≤ 1 =
    λ k. omega (arith, H.places_once k, below-le k N, sum_dots-sub (at_place k) t path children, ap (sum_dots (at_place k)) e) in
    let off : (k : ℕ) → 1 ≤ sum_over (at_place k) c + sum_over (at_place k) (map blank spare) → SamePlace m w k =
    λ k h. free_other m p place_head k (λ x. omega (arith, all k, ap (λ (y : ℕ). indicator y p) x, indicator-same p)) in
    leaf-holds G N m group_head place_head t free spare path (d ∷ c) children e H w p c (p ∷ spare)
    (λ k ne. (sym (changed_other m.first b (m.next p) k ne), sym (changed_other m.count b (m.count b - 1) k ne)))
    (λ k z. free_other m p place_head k (λ x. omega (arith, ap (λ (y : ℕ). indicator y p) x, indicator-same p))) (
      changed-same m.count b (m.count b - 1) ∙ omega (arith, r.0),
      subst (λ (y : ℕ). Chained w y c none) (sym (changed-same m.first b (m.next p)))
          (chain_pop m w (m.first b) d c none (λ k h. off k (omega arith)) r.1),
    ) (
      refl,
      changed-same m.dot p zero_dot,
      subst (λ (y : ℕ). Chained w y (map blank spare) none) (sym (changed-same m.next p place_head))
          (chain_frame m w place_head (map blank spare) none (λ k h. off k (omega arith)) H.places),
    )
    (λ k. omega arith)

-- the dot behind q goes
abbrev pub drop_words : Mem → ℕ → ℕ → ℕ → ℕ → Mem
drop_words m b q p place_head = free_words (set_count (set_next m q (m.next p)) b (m.count b - 1)) p place_head

pub drop-holds : (G N : ℕ) (m : Mem) (group_head place_head : ℕ) (t : Tree) (free spare : List ℕ) (path : List ℕ) (xs : List Placed) (q d : Placed)
    (ys : List Placed)
    → Children path → sub t path ≡ leaf (xs ++ q ∷ d ∷ ys) → Stored G N m group_head place_head t free spare
    → Stored G N (drop_words m (node_at 0 t path) q.place d.place place_head) group_head d.place (put t path (leaf (xs ++ q ∷ ys))) free (d.place ∷ spare)
drop-holds G N m group_head place_head t free spare path xs q d ys children e H =
    let b = node_at 0 t path in
    let p = d.place in
    let o = q.place in
    let w = drop_words m b o p place_head in
    let c = xs ++ q ∷ d ∷ ys in
    let r = subst (λ (u : Tree). Represents m b u) e (tree-sub m 0 t path children H.tree) in
    let sum : (k : ℕ) → sum_over (at_place k) c ≡ sum_over (at_place k) xs + (indicator k o + (indicator k p + sum_over (at_place k) ys)) =
    λ k. sum_over-append (at_place k) xs (q ∷ d ∷ ys) in
    let all : (k : ℕ) → sum_over (at_place k) xs + (indicator k o + (indicator k p + sum_over (at_place k) ys)) + sum_over (at_place k) (map blank spare) ≤ 1 =
    λ k. omega (arith, H.places_once k, below-le k N, sum_dots-sub (at_place k) t path children, ap (sum_dots (at_place k)) e, sum k) in
    let same : (k : ℕ) → k ≢ o → k ≢ p → SamePlace m w k = λ k no np. (
      sym (changed_other m.dot p zero_dot k np),
      sym (changed_other (changed m.next o (m.next p)) p place_head k np ∙ changed_other m.next o (m.next p) k no),
    ) in
    let off : (k : ℕ) → 1 ≤ sum_over (at_place k) xs + sum_over (at_place k) ys + sum_over (at_place k) (map blank spare) → SamePlace m w k = λ k h.
    same k (λ x. omega (arith, all k, ap (λ (y : ℕ). indicator y o) x, indicator-same o))
    (λ x. omega (arith, all k, ap (λ (y : ℕ). indicator y p) x, indicator-same p)) in
    let op : o ≢ p = λ x. omega (arith, all o, ap (λ (y : ℕ). indicator o y) x, indicator-same o) in
    leaf-holds G N m group_head place_head t free spare path c children e H w p (xs ++ q ∷ ys) (p ∷ spare)
    (λ k ne. (refl, sym (changed_other m.count b (m.count b - 1) k ne)))
    (λ k z. same k (λ x. omega (arith, sum k, ap (λ (y : ℕ). indicator y o) x, indicator-same o))
    (λ x. omega (arith, sum k, ap (λ (y : ℕ). indicator y p) x, indicator-same p))) (
      changed-same m.count b (m.count b - 1) ∙ omega (arith, r.0, length-append xs (q ∷ d ∷ ys), length-append xs (q ∷ ys)),
      chain-drop m w (m.first b) xs q d ys none (λ k h. off k (omega arith))
          (changed_other m.dot p zero_dot o op)
          (changed_other (changed m.next o (m.next p)) p place_head o op ∙ changed-same m.next o (m.next p)) r.1,
    ) (
      refl,
      changed-same m.dot p zero_dot,
      subst (λ (y : ℕ). Chained w y (map blank spare) none) (sym (changed-same (changed m.next o (m.next p)) p place_head))
          (chain_frame m w place_head (map blank spare) none (λ k h. off k (omega arith)) H.places),
    )
    (λ k. omega (arith, sum k, sum_over-append (at_place k) xs (q ∷ ys)))
