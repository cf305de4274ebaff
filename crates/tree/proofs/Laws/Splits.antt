-- The split of a leaf keeps the memory a tree.
--     split_tree    the tree that it makes
--     deal-children, split-leaf    the children's chains after the deal; the branch
--     split-holds  the whole memory
use Rattle.std.specs.Prelude.{List, [], ◌∷◌, map, ◌≡◌, refl, ◌≢◌, ℕ, ◌+◌, ◌≤◌, ◌<◌}
use Rattle.std.proofs.Common.{ap, sym, ◌∙◌, subst, arith}
use Rattle.std.proofs.Math.Decide.{ℕ_discrete}
use Rattle.geometry.specs.declared.node_data.NodeData.{NodeData}
use Rattle.geometry.proofs.Laws.Geometry.{route-child}
use Rattle.model.specs.Trees.{Placed, Tree, leaf, branch, child_node, sum_dots, sum_groups, at_place, place_count, group_count}
use Rattle.model.specs.Insert.{deal, route_dot}
use Rattle.model.specs.Sums.{indicator, sum_over, sum_below, changed}
use Rattle.model.proofs.Laws.Sums.{indicator-same, indicator-eq, sum_below_term, sum_below-changed, changed-same, changed_other, changed-all, by_dec}
use Rattle.model.specs.Layout.{none, branch_mark, blank}
use Rattle.model.specs.Memory.{Mem, Chained, Represents, FreeGroups}
use Rattle.model.proofs.Laws.Shapes.{below-le}
use Rattle.model.proofs.Laws.Insert.{deal-sum}
use Rattle.tree.specs.Trees.{sum_nodes, node_count}
use Rattle.tree.proofs.Laws.Frames.{SamePlace, SameNode, chain_frame, chain_push, tree_frame, free_frame}
use Rattle.tree.proofs.Laws.Paths.{Children, sum_dots-put, sum_groups-put, sum_dots-sub, sum_nodes-sub, tree-sub, tree-put}
use Rattle.tree.specs.Paths.{sub, node_at, put}
use Rattle.tree.specs.Stored.{Stored}
use Rattle.tree.proofs.Laws.Stored.{nodes-once, node-not_free}
use Rattle.tree.specs.Splits.{move_words, deal_words, take_group, split_words}

module _ (nd : NodeData) where
  abbrev pub split_tree : ℕ → List Placed → Tree
  split_tree g c = branch g (λ i. leaf (deal nd (λ j. []) c i))

module _ (nd : NodeData) where
  -- ---- what is left alone

  move_node : (m : Mem) (g : ℕ) (d : Placed) (k : ℕ) → k ≢ child_node g (route_dot nd d) → SameNode m (move_words nd m g d) k
  move_node m g d k ne =
      let n = child_node g (route_dot nd d) in (sym (changed_other m.first n d.place k ne), sym (changed_other m.count n (m.count n + 1) k ne))

  move_place : (m : Mem) (g : ℕ) (d : Placed) (k : ℕ) → k ≢ d.place → SamePlace m (move_words nd m g d) k
  move_place m g d k ne = (refl, sym (changed_other m.next d.place (m.first (child_node g (route_dot nd d))) k ne))

  deal-node : (m : Mem) (g : ℕ) (ds : List Placed) (k : ℕ) → ((j : ℕ) → j < 5 → k ≢ child_node g j) → SameNode m (deal_words nd m g ds) k
  deal-node m g [] k ne = (refl, refl)
  deal-node m g (d ∷ ds) k ne =
      let a = move_node m g d k (ne (route_dot nd d) (route-child nd d.dot.rect)) in
      let b = deal-node (move_words nd m g d) g ds k ne in
      (a.0 ∙ b.0, a.1 ∙ b.1)

  deal-place : (m : Mem) (g : ℕ) (ds : List Placed) (k : ℕ) → sum_over (at_place k) ds ≡ 0 → SamePlace m (deal_words nd m g ds) k
  deal-place m g [] k z = (refl, refl)
  deal-place m g (d ∷ ds) k z =
      let a = move_place m g d k (λ e. omega (arith, ap (λ (y : ℕ). indicator y d.place) e, indicator-same d.place)) in
      let b = deal-place (move_words nd m g d) g ds k (omega arith) in
      (a.0 ∙ b.0, a.1 ∙ b.1)

  -- ---- the children

  pub deal-children : (m : Mem) (g : ℕ) (acc : ℕ → List Placed) (h : ℕ) (ds : List Placed) → Chained m h ds none
      → ((k : ℕ) → sum_over (at_place k) ds + sum_below 5 (λ j. sum_over (at_place k) (acc j)) ≤ 1)
      → ((j : ℕ) → j < 5 → Represents m (child_node g j) (leaf (acc j)))
      → (j : ℕ) → j < 5 → Represents (deal_words nd m g ds) (child_node g j) (leaf (deal nd acc ds j))
  deal-children m g acc h [] s o r = r
  deal-children m g acc h (d ∷ ds) s o r =
      let w = move_words nd m g d in
      let p = d.place in
      let q = route_dot nd d in
      let qb = route-child nd d.dot.rect in
      let A : ℕ → ℕ → ℕ = λ k j. sum_over (at_place k) (acc j) in
      let notin : (j k : ℕ) → j < 5 → 1 ≤ sum_over (at_place k) (acc j) → k ≢ p =
      λ j k jb c e. omega (arith, o p, indicator-same p, ap (λ (y : ℕ). A y j) e, sum_below_term 5 (A p) j jb) in
      deal-children w g (changed acc q (d ∷ acc q)) (m.next p) ds
      (chain_frame m w (m.next p) ds none
      (λ k c. move_place m g d k (λ e. omega (arith, o p, indicator-same p, ap (λ (y : ℕ). sum_over (at_place y) ds) e))) s.2)
      (λ k. omega (arith, o k, sum_below-changed 5 (λ j x. sum_over (at_place k) x) acc q (d ∷ acc q) qb))
      (λ j jb.
      changed-all (λ (j : ℕ) (x : List Placed). Represents w (child_node g j) (leaf x)) acc q (d ∷ acc q) j
      (λ e. subst (λ (y : ℕ). Represents w (child_node g y) (leaf (d ∷ acc q))) (sym e) (
        changed-same m.count (child_node g q) (m.count (child_node g q) + 1) ∙ omega (arith, (r q qb).0),
        subst (λ (n : ℕ). Chained w n (d ∷ acc q) none) (sym (changed-same m.first (child_node g q) p))
            (chain_push m w (m.first (child_node g q)) d (acc q) none (λ k c. move_place m g d k (notin q k qb c))
            s.1 (changed-same m.next p (m.first (child_node g q))) (r q qb).1),
      ))
      (λ ne.
      tree_frame m w (child_node g j) (leaf (acc j))
      (λ k c. move_node m g d k (λ e. ne (omega (arith, indicator-eq k (child_node g j) c))))
      (λ k c. move_place m g d k (notin j k jb c))
      (r j jb)))

  -- ---- the split

  take-node : (m : Mem) (b g k : ℕ) → k ≢ b → k ≢ child_node g 0 → SameNode m (take_group nd m b g) k
  take-node m b g k ne nz = (
    sym (changed_other (changed m.first b (child_node g 0)) (child_node g 0) none k nz ∙ changed_other m.first b (child_node g 0) k ne),
    sym (changed_other m.count b branch_mark k ne),
  )

  split-node : (m : Mem) (b g : ℕ) (c : List Placed) (k : ℕ) → k ≢ b → ((j : ℕ) → j < 5 → k ≢ child_node g j) → SameNode m (split_words nd m b g c) k
  split-node m b g c k ne nk =
      let x = take-node m b g k ne (nk 0 (omega arith)) in
      let y = deal-node (take_group nd m b g) g c k nk in
      (x.0 ∙ y.0, x.1 ∙ y.1)

  pub split-leaf : (m : Mem) (b g h : ℕ) (gs : List ℕ) (c : List Placed) → ((j : ℕ) → j < 5 → b ≢ child_node g j) → ((k : ℕ) → sum_over (at_place k) c ≤ 1)
      → FreeGroups m h (g ∷ gs) → Represents m b (leaf c) → Represents (split_words nd m b g c) b (split_tree nd g c)
  split-leaf m b g h gs c nb o fr r =
      let w = take_group nd m b g in
      let s = deal-node w g c b nb in (
        sym s.1 ∙ changed-same m.count b branch_mark,
        sym s.0 ∙ changed_other (changed m.first b (child_node g 0)) (child_node g 0) none b (nb 0 (omega arith))
            ∙ changed-same m.first b (child_node g 0) ∙ omega arith,
        deal-children w g (λ j. []) (m.first b) c
            (chain_frame m w (m.first b) c none (λ k z. (refl, refl)) r.1)
            (λ k. omega (arith, o k))
            (λ j jb.
            by_dec (ℕ_discrete j 0)
            (λ e. subst (λ (y : ℕ). Represents w (child_node g y) (leaf [])) (sym e) (
              changed_other m.count b branch_mark (child_node g 0) (λ x. nb 0 (omega arith) (sym x)) ∙ fr.1,
              changed-same (changed m.first b (child_node g 0)) (child_node g 0) none,
            ))
            (λ ne.
            let v = take-node m b g (child_node g j) (λ x. nb j jb (sym x)) (λ x. ne (omega arith)) in
            let z = fr.2 j (omega arith) jb in
            (sym v.1 ∙ z.1, sym v.0 ∙ z.0))),
      )

  pub split-holds : (G N : ℕ) (m : Mem) (group_head place_head : ℕ) (t : Tree) (g : ℕ) (free spare : List ℕ) (path : List ℕ) (c : List Placed)
      → Children path → sub t path ≡ leaf c
      → Stored G N m group_head place_head t (g ∷ free) spare
      → Stored G N (split_words nd m (node_at 0 t path) g c) (m.first (child_node g 0)) place_head (put t path (split_tree nd g c)) free spare
  split-holds G N m group_head place_head t g free spare path c children e H =
      let b = node_at 0 t path in
      let w = split_words nd m b g c in
      let u = split_tree nd g c in
      let once_g : (k : ℕ) → group_count k t ≤ 1 = λ k. omega (arith, H.groups_once k, below-le k G) in
      let once_n = nodes-once t once_g in
      let once_p : (k : ℕ) → place_count k t ≤ 1 = λ k. omega (arith, H.places_once k, below-le k N) in
      let in_n : 1 ≤ node_count b 0 t = omega (arith, sum_nodes-sub (indicator b) 0 t path children, ap (sum_nodes (indicator b) b) e, indicator-same b) in
      let not_g : group_count g t ≡ 0 = omega (arith, H.groups_once g, below-le g G, indicator-same g) in
      let sub_p : (k : ℕ) → sum_over (at_place k) c ≤ place_count k t =
      λ k. omega (arith, sum_dots-sub (at_place k) t path children, ap (sum_dots (at_place k)) e) in
      -- a place or node of the tree outside the leaf is left alone
      let off_n : (k : ℕ) → 1 ≤ node_count k 0 t → k ≢ b → SameNode m w k =
      λ k h ne. split-node m b g c k ne (λ j jb. node-not_free t k g j jb not_g h) in
      record {
        tree =
            tree-put m w 0 t path u children once_n once_p
            (λ k h z. off_n k h (λ x. omega (arith, z, ap (sum_nodes (indicator k) b) e, ap (λ (y : ℕ). indicator y b) x, indicator-same b)))
            (λ k h z. deal-place (take_group nd m b g) g c k (omega (arith, ap (sum_dots (at_place k)) e)))
            H.tree
            (split-leaf m b g group_head free c (λ j jb. node-not_free t b g j jb not_g in_n) (λ k. omega (arith, once_p k, sub_p k)) H.groups
            (subst (λ (x : Tree). Represents m b x) e (tree-sub m 0 t path children H.tree)));
        groups =
            free_frame m w (m.first (child_node g 0)) free
            (λ k i h l. split-node m b g c (child_node k i)
            (λ x. node-not_free t b k i l (omega (arith, H.groups_once k, below-le k G)) in_n (sym x))
            (λ j jb x.
            let y : k ≡ g = omega arith in
            omega (arith, H.groups_once g, below-le g G, indicator-same g, ap (λ (z : ℕ). sum_over (indicator z) free) y)))
            H.groups.3;
        places =
            chain_frame m w place_head (map blank spare) none
            (λ k h. deal-place (take_group nd m b g) g c k (omega (arith, H.places_once k, below-le k N, sub_p k))) H.places;
        groups_once = λ k. omega (arith, H.groups_once k, sum_groups-put (indicator k) t path u children, ap (sum_groups (indicator k)) e);
        places_once =
            λ k. omega (
              arith,
              H.places_once k,
              sum_dots-put (at_place k) t path u children,
              ap (sum_dots (at_place k)) e,
              deal-sum nd (at_place k) (λ j. []) c,
            );
      }
