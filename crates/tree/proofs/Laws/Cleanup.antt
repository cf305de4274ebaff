-- The cleanup in the words is that of the tree.
--     clean-nodes  every weight on nodes is kept, in the tree and free together
--     tree-cleaned the walk makes the tree and the free groups of `cleanTree` and `freedBy`
--     clean-holds  the cleanup of the whole memory
use Rattle.std.specs.Prelude.{◌≡◌, refl, List, [], ◌∷◌, map, ◌≢◌, ℕ, zero, suc, ◌+◌, ◌≤◌, ◌<◌}
use Rattle.std.proofs.Common.{ap, sym, ◌∙◌, subst, arith, not-suc-le-zero, le_refl}
use Rattle.std.proofs.Math.Decide.{ℕ_discrete}
use Rattle.arithmetic.proofs.Laws.Tests.{by_bool}
use Rattle.model.specs.Sums.{sum_over, sum_below, indicator, changed}
use Rattle.model.proofs.Laws.Sums.{sum_below_ext, indicator-same, sum_below_term, changed-same, changed_other, by_dec}
use Rattle.model.specs.Trees.{Tree, leaf, branch, child_node, at_place}
use Rattle.model.specs.Cleanup.{busy, all_empty, clean_tree, down_from, freed_by}
use Rattle.model.proofs.Laws.Cleanup.{zero_is, children-empty, clean-sum, clean-groups}
use Rattle.model.specs.Layout.{none, blank}
use Rattle.model.specs.Memory.{Represents, FreeGroups, Mem}
use Rattle.model.proofs.Laws.Shapes.{below-le}
use Rattle.tree.specs.Trees.{sum_nodes, over_group, node_count}
use Rattle.tree.proofs.Laws.Frames.{SamePlace, SameNode, tree_frame, free_frame, chain_frame}
use Rattle.tree.specs.Cleanup.{Walk, collapse, clean_words, TreeAndFree}
use Rattle.tree.specs.Stored.{Stored}
use Rattle.tree.proofs.Laws.Stored.{free-nodes, nodes-and_free_once}

down-nodes : (h : ℕ → ℕ) (g n : ℕ) (f : ℕ → Tree) (free : List ℕ)
    → ((i a : ℕ) (x : List ℕ) → sum_nodes h a (clean_tree (f i)) + sum_over (over_group h) (freed_by (f i) x) ≡ sum_nodes h a (f i) + sum_over (over_group h) x)
    → sum_below n (λ i. sum_nodes h (child_node g i) (clean_tree (f i))) + sum_over (over_group h) (down_from n (λ i x. freed_by (f i) x) free)
    ≡ sum_below n (λ i. sum_nodes h (child_node g i) (f i)) + sum_over (over_group h) free
down-nodes h g zero f free ih = omega arith
down-nodes h g (suc n) f free ih = omega (arith, down-nodes h g n f (freed_by (f n) free) ih, ih n (child_node g n) free)

pub clean-nodes : (h : ℕ → ℕ) (a : ℕ) (t : Tree) (free : List ℕ)
    → sum_nodes h a (clean_tree t) + sum_over (over_group h) (freed_by t free) ≡ sum_nodes h a t + sum_over (over_group h) free
clean-nodes h a (leaf c) free = refl
clean-nodes h a (branch g f) free =
    by_bool (all_empty f)
    (λ e. rw e (omega (
      arith,
      sum_below_ext 5 (λ i. sum_nodes h (child_node g i) (f i)) (λ i. h (child_node g i))
          (λ i b. ap (sum_nodes h (child_node g i)) (children-empty f (zero_is (sum_below 5 (λ i. busy (f i))) e) i b)),
    )))
    (λ e. rw e (omega (arith, down-nodes h g 5 f free (λ i b x. clean-nodes h b (f i) x))))

-- ---- the memory

-- what the walk of a subtree, and of the first children of a group, makes and keeps
abbrev pub TreeCleaned : Tree → ℕ → Walk → List ℕ → Walk → Type 0
TreeCleaned t a s free w =
    Represents w.mem a (clean_tree t) × FreeGroups w.mem w.head (freed_by t free) × ((k : ℕ) → node_count k a t ≡ 0 → SameNode s.mem w.mem k)
    × ((k : ℕ) → SamePlace s.mem w.mem k)

abbrev pub ChildrenCleaned : ℕ → ℕ → (ℕ → Tree) → Walk → List ℕ → Walk → Type 0
ChildrenCleaned g n f s free w =
    ((j : ℕ) → j < n → Represents w.mem (child_node g j) (clean_tree (f j))) × FreeGroups w.mem w.head (down_from n (λ i x. freed_by (f i) x) free)
    × ((k : ℕ) → sum_below n (λ j. node_count k (child_node g j) (f j)) ≡ 0 → SameNode s.mem w.mem k) × ((k : ℕ) → SamePlace s.mem w.mem k)

children-cleaned : (g n : ℕ) (f : ℕ → Tree)
    → ((i a : ℕ) (s : Walk) (free : List ℕ) → TreeAndFree (f i) a s free → TreeCleaned (f i) a s free (clean_words (f i) a s))
    → (s : Walk) (free : List ℕ) → ((k : ℕ) → sum_below n (λ j. node_count k (child_node g j) (f j)) + sum_over (over_group (indicator k)) free ≤ 1)
    → ((j : ℕ) → j < n → Represents s.mem (child_node g j) (f j)) → FreeGroups s.mem s.head free
    → ChildrenCleaned g n f s free (down_from n (λ i x. clean_words (f i) (child_node g i) x) s)
children-cleaned g zero f ih s free o r fr = ((λ j b. absurd (not-suc-le-zero b)), fr, (λ k z. (refl, refl)), (λ k. (refl, refl)))
children-cleaned g (suc n) f ih s free o r fr =
    let N : ℕ → ℕ → ℕ = λ k j. node_count k (child_node g j) (f j) in
    let s₁ = clean_words (f n) (child_node g n) s in
    let free₁ = freed_by (f n) free in
    let a = ih n (child_node g n) s free ((λ k. omega (arith, o k)), r n (le_refl (suc n)), fr) in
    let b = children-cleaned g n f ih s₁ free₁
    (λ k. omega (arith, o k, clean-nodes (indicator k) (child_node g n) (f n) free))
    (λ j jb.
    tree_frame s.mem s₁.mem (child_node g j) (f j)
    (λ k c. a.2 k (omega (arith, o k, sum_below_term n (N k) j jb)))
    (λ k c. a.3 k) (r j (omega arith)))
    a.1 in
    let w = down_from n (λ i x. clean_words (f i) (child_node g i) x) s₁ in (
      (λ j jb.
          by_dec (ℕ_discrete j n)
          (λ e. subst (λ (y : ℕ). Represents w.mem (child_node g y) (clean_tree (f y))) (sym e)
          (tree_frame s₁.mem w.mem (child_node g n) (clean_tree (f n))
          (λ k c. b.2 k (omega (arith, o k, clean-nodes (indicator k) (child_node g n) (f n) free)))
          (λ k c. b.3 k) a.0))
          (λ ne. b.0 j (omega arith))),
      b.1,
      (λ k z. let x = a.2 k (omega arith) in let y = b.2 k (omega arith) in (x.0 ∙ y.0, x.1 ∙ y.1)),
      (λ k. let x = a.3 k in let y = b.3 k in (x.0 ∙ y.0, x.1 ∙ y.1)),
    )

collapse-cleaned : (a g : ℕ) (f : ℕ → Tree) (s : Walk) (free : List ℕ) → ((i : ℕ) → i < 5 → f i ≡ leaf []) → TreeAndFree (branch g f) a s free
    → (Represents (collapse a g s).mem a (leaf [])) × FreeGroups (collapse a g s).mem (child_node g 0) (g ∷ free)
    × ((k : ℕ) → node_count k a (branch g f) ≡ 0 → SameNode s.mem (collapse a g s).mem k)
collapse-cleaned a g f s free em h =
    let m = s.mem in
    let w = (collapse a g s).mem in
    let m_f = changed m.first a none in
    let in_child : (k i : ℕ) → i < 5 → k ≡ child_node g i → 1 ≤ sum_below 5 (λ j. node_count k (child_node g j) (f j)) =
    λ k i b e. omega (
      arith,
      sum_below_term 5 (λ j. node_count k (child_node g j) (f j)) i b,
      ap (sum_nodes (indicator k) (child_node g i)) (em i b),
      ap (λ (y : ℕ). indicator y (child_node g i)) e,
      indicator-same (child_node g i),
    ) in
    -- the node a is none of the group's, and neither is a node of the free groups
    let na : (i : ℕ) → i < 5 → a ≢ child_node g i = λ i b e. omega (arith, h.0 a, indicator-same a, in_child a i b e) in
    let off : (k : ℕ) → k ≢ a → k ≢ child_node g 0 → SameNode m w k = λ k ne nz.
    (sym (changed_other m_f (child_node g 0) s.head k nz ∙ changed_other m.first a none k ne), sym (changed_other m.count a 0 k ne)) in
    let children : (i : ℕ) → i < 5 → Represents m (child_node g i) (leaf []) =
    λ i b. subst (λ (y : Tree). Represents m (child_node g i) y) (em i b) (h.1.2 i b) in (
      (changed-same m.count a 0, changed_other m_f (child_node g 0) s.head a (na 0 (omega arith)) ∙ changed-same m.first a none),
      (
        refl,
        changed_other m.count a 0 (child_node g 0) (λ e. na 0 (omega arith) (sym e)) ∙ (children 0 (omega arith)).0,
        (λ i b c.
            let x = off (child_node g i) (λ e. na i c (sym e)) (λ e. omega arith) in
            (sym x.0 ∙ (children i c).1, sym x.1 ∙ (children i c).0)),
        subst (λ (y : ℕ). FreeGroups w y free) (sym (changed-same m_f (child_node g 0) s.head))
            (free_frame m w s.head free
            (λ q i c b.
            let inq : 1 ≤ sum_over (over_group (indicator (child_node q i))) free = omega (arith, free-nodes q i free b) in
            off (child_node q i) (λ e. omega (arith, h.0 (child_node q i), inq, ap (λ (y : ℕ). indicator y a) e, indicator-same a))
            (λ e. omega (arith, h.0 (child_node q i), inq, in_child (child_node q i) 0 (omega arith) e)))
            h.2),
      ),
      (λ k z. off k (λ e. omega (arith, ap (λ (y : ℕ). indicator y a) e, indicator-same a)) (λ e. omega (arith, in_child k 0 (omega arith) e))),
    )

pub tree-cleaned : (t : Tree) (a : ℕ) (s : Walk) (free : List ℕ) → TreeAndFree t a s free → TreeCleaned t a s free (clean_words t a s)
tree-cleaned (leaf c) a s free h = (h.1, h.2, (λ k z. (refl, refl)), (λ k. (refl, refl)))
tree-cleaned (branch g f) a s free h =
    by_bool (all_empty f)
    (λ e.
    let c = collapse-cleaned a g f s free (children-empty f (zero_is (sum_below 5 (λ i. busy (f i))) e)) h in
    rw e (c.0, c.1, c.2, (λ k. (refl, refl))))
    (λ e.
    let K = children-cleaned g 5 f (λ i b x y. tree-cleaned (f i) b x y) s free (λ k. omega (arith, h.0 k)) h.1.2 h.2 in
    let w = down_from 5 (λ i x. clean_words (f i) (child_node g i) x) s in
    let sa = K.2 a (omega (arith, h.0 a, indicator-same a)) in
    rw e ((sym sa.1 ∙ h.1.0, sym sa.0 ∙ h.1.1, K.0), K.1, (λ k z. K.2 k (omega arith)), K.3))

pub clean-holds : (G N : ℕ) (m : Mem) (group_head place_head : ℕ) (t : Tree) (free spare : List ℕ) → Stored G N m group_head place_head t free spare
    → let w = clean_words t 0 (record { mem = m; head = group_head }) in Stored G N w.mem w.head place_head (clean_tree t) (freed_by t free) spare
clean-holds G N m group_head place_head t free spare H =
    let g =
    tree-cleaned t 0 (record { mem = m; head = group_head }) free
    (nodes-and_free_once t free (λ k. omega (arith, H.groups_once k, below-le k G)), H.tree, H.groups) in
    record {
      tree = g.0;
      groups = g.1;
      places = chain_frame m (clean_words t 0 (record { mem = m; head = group_head })).mem place_head (map blank spare) none (λ k h. g.3 k) H.places;
      groups_once = λ k. clean-groups (indicator k) t free ∙ H.groups_once k;
      places_once = λ k. omega (arith, clean-sum (at_place k) t, H.places_once k);
    }
