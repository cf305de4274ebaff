-- The push of a dot on a leaf: push_words, the stores; push_holds, what they leave.
use Rattle.std.specs.Prelude.{◌≡◌, ◌≢◌, List, ◌∷◌, map, ℕ, ◌+◌, ◌≤◌}
use Rattle.std.proofs.Common.{ap, sym, ◌∙◌, subst, arith}
use Rattle.model.specs.Sums.{indicator, sum_over}
use Rattle.model.proofs.Laws.Sums.{indicator-same, changed-same, changed_other}
use Rattle.model.specs.Trees.{Placed, Tree, leaf, child_node, sum_dots, sum_groups, at_place, place_count, group_count}
use Rattle.model.specs.Layout.{none, blank}
use Rattle.model.specs.Memory.{Mem, Chained, Represents}
use Rattle.model.proofs.Laws.Shapes.{below-le}
use Rattle.tree.specs.Trees.{sum_nodes, node_count}
use Rattle.tree.proofs.Laws.Frames.{SamePlace, SameNode, chain_frame, chain_push, free_frame}
use Rattle.tree.proofs.Laws.Paths.{Children, sum_dots-put, sum_groups-put, sum_dots-sub, sum_nodes-sub, tree-sub, tree-put}
use Rattle.tree.specs.Paths.{sub, node_at, put}
use Rattle.tree.specs.Stores.{set_first, set_count, set_dot, set_next}
use Rattle.tree.specs.Stored.{Stored}
use Rattle.tree.proofs.Laws.Stored.{nodes-once, node-not_free}

-- node b is a leaf; d's place is the head of the free places
unfoldable pub push_words : Mem → ℕ → Placed → Mem
push_words m b d =
    let p = d.place in
    set_count (set_first (set_next (set_dot m p d.dot) p (m.first b)) b p) b (m.count b + 1)

push_node : (m : Mem) (b : ℕ) (d : Placed) (k : ℕ) → k ≢ b → SameNode m (push_words m b d) k
unfolding push_words
push_node m b d k ne = (sym (changed_other m.first b d.place k ne), sym (changed_other m.count b (m.count b + 1) k ne))

push_place_lem : (m : Mem) (b : ℕ) (d : Placed) (k : ℕ) → k ≢ d.place → SamePlace m (push_words m b d) k
unfolding push_words
push_place_lem m b d k ne =
    (sym (changed_other m.dot d.place d.dot k ne), sym (changed_other m.next d.place (m.first b) k ne))

push_leaf : (m : Mem) (b : ℕ) (d : Placed) (c : List Placed) → sum_over (at_place d.place) c ≡ 0 → Represents m b (leaf c)
    → Represents (push_words m b d) b (leaf (d ∷ c))
unfolding push_words
push_leaf m b d c z r =
    let w = push_words m b d in (
      changed-same m.count b (m.count b + 1) ∙ omega (arith, r.0),
      subst (λ (n : ℕ). Chained w n (d ∷ c) none) (sym (changed-same m.first b d.place))
          (chain_push m w (m.first b) d c none
          (λ k h. push_place_lem m b d k (λ e. omega (arith, subst (λ (y : ℕ). 1 ≤ sum_over (at_place y) c) e h)))
          (changed-same m.dot d.place d.dot) (changed-same m.next d.place (m.first b)) r.1),
    )

pub push_holds : (G N : ℕ) (m : Mem) (group_head place_head : ℕ) (t : Tree) (free spare : List ℕ) (path : List ℕ) (c : List Placed) (d : Placed)
    → Children path → sub t path ≡ leaf c
    → Stored G N m group_head place_head t free (d.place ∷ spare)
    → Stored G N (push_words m (node_at 0 t path) d) group_head (m.next d.place) (put t path (leaf (d ∷ c))) free spare
push_holds G N m group_head place_head t free spare path c d children e H =
    let b = node_at 0 t path in
    let p = d.place in
    let w = push_words m b d in
    let once_g : (k : ℕ) → group_count k t ≤ 1 = λ k. omega (arith, H.groups_once k, below-le k G) in
    let once_n = nodes-once t once_g in
    let once_p : (k : ℕ) → place_count k t ≤ 1 = λ k. omega (arith, H.places_once k, below-le k N) in
    let not_p : place_count p t ≡ 0 = omega (arith, H.places_once p, below-le p N, indicator-same p) in
    let not_c : sum_over (at_place p) c ≡ 0 = omega (arith, sum_dots-sub (at_place p) t path children, ap (sum_dots (at_place p)) e) in
    let not_f : sum_over (at_place p) (map blank spare) ≡ 0 = omega (arith, H.places_once p, below-le p N, indicator-same p) in
    let in_n : 1 ≤ node_count b 0 t = omega (arith, sum_nodes-sub (indicator b) 0 t path children, ap (sum_nodes (indicator b) b) e, indicator-same b) in
    record {
      tree =
          tree-put m w 0 t path (leaf (d ∷ c)) children once_n once_p
          (λ k h z. push_node m b d k (λ x. omega (arith, z, ap (sum_nodes (indicator k) b) e, ap (λ (y : ℕ). indicator y b) x, indicator-same b)))
          (λ k h z. push_place_lem m b d k (λ x. omega (arith, ap (λ (y : ℕ). place_count y t) x)))
          H.tree
          (push_leaf m b d c not_c (subst (λ (u : Tree). Represents m b u) e (tree-sub m 0 t path children H.tree)));
      groups =
          free_frame m w group_head free
          (λ g i h l. push_node m b d (child_node g i) (λ x. node-not_free t b g i l (omega (arith, H.groups_once g, below-le g G)) in_n (sym x)))
          H.groups;
      places =
          chain_frame m w (m.next p) (map blank spare) none
          (λ k h. push_place_lem m b d k (λ x. omega (arith, ap (λ (y : ℕ). sum_over (at_place y) (map blank spare)) x))) H.places.2;
      groups_once = λ k. omega (arith, H.groups_once k, sum_groups-put (indicator k) t path (leaf (d ∷ c)) children, ap (sum_groups (indicator k)) e);
      places_once = λ k. omega (arith, H.places_once k, sum_dots-put (at_place k) t path (leaf (d ∷ c)) children, ap (sum_dots (at_place k)) e);
    }
