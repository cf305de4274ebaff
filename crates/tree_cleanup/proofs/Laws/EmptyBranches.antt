-- The search finds a branch whose five children are empty just where a cleanup says yes.
--     leaf-read, branch_read       the test of a node, by the words that are read
--     searched     what the search of all nodes says
--     searchable   the row of a memory that is a tree can be searched
--     searched-cleans      what the search says is what a cleanup would
use Rattle.std.specs.Prelude.{◌≡◌, List, [], ◌∷◌, Bool, not, ℕ, zero, suc, ◌+◌, ◌*◌, ◌-◌, ◌≤◌, ◌<◌, ℤ, eqb, length}
use Rattle.std.specs.List.{list_any, range_with_len}
use Rattle.std.proofs.Math.Path.{refl, ap, sym}
use Rattle.std.proofs.Common.{◌∙◌, subst, arith}
use Rattle.std.proofs.Math.Bool.{true, false}
use Rattle.std.proofs.Math.Decide.{ℕ_discrete, dec_lt}
use borrow.Author.Tests.{not-true, not-false, eq-eqb, eqb-true}
use Rattle.arithmetic.proofs.Laws.Tests.{by_bool, true_false}
use Rattle.geometry.specs.Settings.{D}
use Rattle.model.specs.declared.State.{State}
use Rattle.model.specs.Sums.{indicator, sum_over, sum_below}
use Rattle.model.proofs.Laws.Sums.{by_dec, indicator-same, indicator_other, indicator-eq, sum_below-some}
use Rattle.model.specs.Trees.{Tree, leaf, branch, child_node, group_count}
use Rattle.model.specs.Cleanup.{is_zero, busy, turned}
use Rattle.model.specs.Shapes.{Shape, cleans}
use Rattle.model.specs.Layout.{branch_mark, world, Holds}
use Rattle.model.specs.Memory.{Mem, read, first_at, count_at, FreeGroups}
use Rattle.model.proofs.Laws.Shapes.{below_yes}
use Rattle.model.proofs.Laws.Entries.{by-node}
use Rattle.model.proofs.Laws.Query.{Clean}
use Rattle.model.proofs.Laws.Cleanup.{zero_is, zero-not, no-clean, clean-no}
use Rattle.model.proofs.Laws.Memory.{holds-represented}
use Rattle.memory.specs.declared.node.Node.{Node}
use Rattle.memory.specs.Nodes.{node_at}
use Rattle.memory.specs.Rows.{HasNode}
use Rattle.tree.specs.Trees.{node_count, TreeStands}
use Rattle.tree.specs.Operations.{HasTree}
use Rattle.tree.proofs.Laws.Paths.{nodes-groups, node-zero}
use Rattle.tree.proofs.Laws.Trees.{mark-no_leaf, child-stands, root_stands}
use Rattle.tree_cleanup.specs.Walks.{empty_group}
use Rattle.tree_cleanup.specs.EmptyBranches.{empty_branch, Searchable, Searched}
use Rattle.tree_cleanup.proofs.Laws.Nodes.{group-there, group_empty}

-- ---- the test of a node, by the words that are read

module _ (nodes : List ℕ) (a : ℕ) {node : Node} {b : Bool} (words : node ≡ node_at nodes a) (told : b ≡ eqb node.count branch_mark) where
  mark-same : eqb (count_at nodes a) branch_mark ≡ b
  mark-same = ap (λ (x : Node). eqb x.count branch_mark) (sym words) ∙ sym told

  pub leaf-read : not b ≡ true → false ≡ empty_branch nodes a
  unfolding empty_branch
  leaf-read n = rw (mark-same ∙ not-true b n) refl

  module _ (n : not b ≡ false) where
    pub branch_read : {empty : Bool} → empty ≡ empty_group nodes node.first → empty ≡ empty_branch nodes a
    unfolding empty_branch
    branch_read e = rw (mark-same ∙ not-false b n) (e ∙ ap (λ (x : Node). empty_group nodes x.first) words)

-- ---- the search

-- some number of a range passes a test, or none
some-in : (test : ℕ → Bool) (a n : ℕ) → list_any test (range_with_len a n) ≡ true → (k : ℕ) × (k < a + n) × (test k ≡ true)
some-in test a zero e = true_false (sym e)
some-in test a (suc n) e =
    by_bool (test a) (λ t. (a, omega arith, t)) (λ f. let r = some-in test (a + 1) n (rw f at e) in (r.0, omega (arith, r.1), r.2))

none_in : (test : ℕ → Bool) (a n : ℕ) → list_any test (range_with_len a n) ≡ false → (k : ℕ) → a ≤ k → k < a + n → test k ≡ false
none_in test a zero e k l h = absurd (omega arith)
none_in test a (suc n) e k l h =
    by_bool (test a)
    (λ t. true_false (rw t at e))
    (λ f. by_dec (ℕ_discrete k a) (λ s. rw s f) (λ ne. none_in test (a + 1) n (rw f at e) k (omega arith) (omega arith)))

pub searched : (nodes : List ℕ) (n : ℕ) {r : Bool} → 2 * n ≡ length nodes → r ≡ list_any (empty_branch nodes) (range_with_len 0 n) → Searched nodes r
searched nodes n whole e =
    record {
      one = λ t. let s = some-in (empty_branch nodes) 0 n (sym e ∙ t) in (s.0, omega (arith, s.1), s.2);
      none = λ f a has. none_in (empty_branch nodes) 0 n (sym e ∙ f) a (omega arith) (omega arith);
    }

-- ---- a node with the mark is a branch of the tree

-- the nodes of a free group are no branches
free-count : (m : Mem) (h : ℕ) (gs : List ℕ) (q r : ℕ) → r < 5 → FreeGroups m h gs → 1 ≤ sum_over (indicator q) gs → m.count (child_node q r) ≡ 0
free-count m h [] q r b free c = absurd (omega arith)
free-count m h (g ∷ gs) q r b free c =
    by_dec (ℕ_discrete q g)
    (λ e. rw e (by_dec (ℕ_discrete r 0) (λ z. rw z free.1) (λ nz. (free.2 r (omega arith) b).1)))
    (λ ne. free-count m (m.first (child_node g 0)) gs q r b free.3 (omega (arith, indicator_other q g ne)))

module _ (nodes dots : List ℕ) (rects : List ℤ) where
  -- a branch of the tree t that stands at the node k
  record BranchAt (k : ℕ) (t : Tree) : Type 0 where
    pub levels : ℕ
    pub group : ℕ
    pub children : ℕ → Tree
    pub stands : TreeStands nodes dots rects levels k (branch group children)
    pub clean : Clean t → Clean (branch group children)

  branch-at : (k levels a : ℕ) (t : Tree) → count_at nodes k ≡ branch_mark → TreeStands nodes dots rects levels a t → 1 ≤ node_count k a t → BranchAt k t
  branch-at k levels a (leaf chain) mark s c =
      absurd (mark-no_leaf chain s.few (ap (count_at nodes) (indicator-eq k a c) ∙ s.represents.0) mark)
  branch-at k levels a (branch g f) mark s c =
      by_dec (ℕ_discrete k a)
      (λ e. record {
        levels = levels;
        group = g;
        children = f;
        stands = subst (λ (p : ℕ). TreeStands nodes dots rects levels p (branch g f)) (sym e) s;
        clean = λ w. w;
      })
      (λ ne.
      let i = sum_below-some 5 (λ j. node_count k (child_node g j) (f j)) (omega (arith, indicator_other k a ne)) in
      let below = branch-at k (levels - 1) (child_node g i.0) (f i.0) mark (child-stands s i.0 i.1) i.2 in
      record {
        levels = below.levels;
        group = below.group;
        children = below.children;
        stands = below.stands;
        clean = λ w. below.clean (w.1 i.0 i.1);
      })

  -- no node is such a branch: every branch has a child that is not empty
  none-clean : ((a : ℕ) → HasNode nodes a → empty_branch nodes a ≡ false) → (levels a : ℕ) (t : Tree) → TreeStands nodes dots rects levels a t → Clean t
  unfolding empty_branch
  none-clean none levels a (leaf chain) s = tt
  none-clean none levels a (branch g f) s =
      let left : empty_group nodes (first_at nodes a) ≡ false = rw (eq-eqb (count_at nodes a) branch_mark s.represents.0) at (none a s.nodes_in.0) in (
        zero-not _ (sym (group_empty nodes dots rects a g f s.represents) ∙ left),
        λ i b. none-clean none (levels - 1) (child_node g i) (f i) (child-stands s i b),
      )

-- ---- in a memory that is a tree

module _ (s : State) (nodes dots : List ℕ) (rects : List ℤ) (marks : List ℕ) (x : Shape) (h : Holds (world s nodes dots rects marks) x) where
  -- a node with the mark is no free one
  in_tree : (k : ℕ) → HasNode nodes k → count_at nodes k ≡ branch_mark → 1 ≤ node_count k 0 x.tree
  unfolding branch_mark
  in_tree =
      let rep = holds-represented (world s nodes dots rects marks) x h in
      by-node (λ k. HasNode nodes k → count_at nodes k ≡ branch_mark → 1 ≤ node_count k 0 x.tree)
      (λ has mark. omega (arith, node-zero 0 x.tree, indicator-same 0))
      (λ q r b has mark.
      by_dec (dec_lt 0 (group_count q x.tree))
      (λ c. omega (arith, nodes-groups q r 0 x.tree b))
      (λ c.
      let free : 1 ≤ sum_over (indicator q) x.free_groups =
      omega (arith, h.valid.groups_once q, below_yes q x.groups (omega (arith, rep.nodes))) in
      absurd (omega (arith, free-count (read nodes dots rects) s.free_group x.free_groups q r b rep.groups free))))

  marked : (k : ℕ) → HasNode nodes k → count_at nodes k ≡ branch_mark → BranchAt nodes dots rects k x.tree
  marked k has mark = branch-at nodes dots rects k (D s.settings) 0 x.tree mark (root_stands s nodes dots rects marks x h) (in_tree k has mark)

  row-searchable : Searchable nodes
  row-searchable =
      record {
        whole = omega (arith, (holds-represented (world s nodes dots rects marks) x h).nodes);
        groups = λ a has mark.
            let b = marked a has mark in group-there nodes dots rects a b.group b.children b.stands.represents b.stands.nodes_in;
      }

  one-not_clean : (a : ℕ) → HasNode nodes a → empty_branch nodes a ≡ true → Clean x.tree → ⊥
  unfolding empty_branch
  one-not_clean a has e clean =
      by_bool (eqb (count_at nodes a) branch_mark)
      (λ t.
      let b = marked a has (eqb-true (count_at nodes a) branch_mark t) in
      let empty : empty_group nodes (first_at nodes a) ≡ true = rw t at e in
      let all = sym (group_empty nodes dots rects a b.group b.children b.stands.represents) ∙ empty in
      omega (arith, (b.clean clean).0, zero_is (sum_below 5 (λ i. busy (b.children i))) all))
      (λ t. true_false (sym (rw t at e)))

  pub searched-cleans : (r : Bool) → Searched nodes r → r ≡ cleans x
  unfolding cleans
  searched-cleans true f =
      let one = f.one refl in
      by_bool (is_zero (turned x.tree))
      (λ z. absurd (one-not_clean one.0 one.1 one.2 (no-clean x.tree (zero_is _ z))))
      (λ z. rw z refl)
  searched-cleans false f =
      rw (clean-no x.tree (none-clean nodes dots rects (f.none refl) (D s.settings) 0 x.tree (root_stands s nodes dots rects marks x h))) refl

pub searchable : {s : State} {nodes : List ℕ} → HasTree s nodes → Searchable nodes
searchable {s} {nodes} t = row-searchable s nodes t.dots t.rects t.tree.marks t.tree.shape t.tree.holds
