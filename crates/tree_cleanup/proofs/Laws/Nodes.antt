-- The cleanup's walk of a node: a law for each way through the code, by what the code reads.
--     walked_in    a node that is walked is in the row
--     group-there, group_empty     the group of a branch is in the row; the test of it says whether the five children are empty
--     leaf-cleaned         a leaf stays
--     branch_in, branch-first, branch-level        a branch: its group is in the row, a level is left
--     turned-cleaned       a branch with five empty children is turned
--     branch-group, branch-cleaned         any other hands its group on
use Rattle.std.specs.Prelude.{◌≡◌, refl, ◌≢◌, List, Bool, true, false, not, ◌&&◌, ℕ, zero, suc, ◌+◌, ◌-◌, ◌≤◌, ◌<◌, ℤ}
use Rattle.std.proofs.Math.Path.{ap, sym}
use Rattle.std.proofs.Common.{◌∙◌, subst, ne_eqb}
use Rattle.std.proofs.Math.Bool.{and_assoc, and-true}
use native.Mathlib.Omega.{arith}
use Rattle.std.proofs.Math.Dec.{eqb}
use Rattle.model.specs.Sums.{indicator, sum_below, changed}
use Rattle.model.proofs.Laws.Sums.{indicator-same, sum_below_term, changed_other}
use Rattle.model.specs.Trees.{Tree, leaf, branch, child_node, size}
use Rattle.model.specs.Cleanup.{is_zero, busy, all_empty, turned}
use Rattle.model.specs.Layout.{none, branch_mark}
use Rattle.model.specs.Memory.{read, first_at, count_at, next_at, dot_at, Represents}
use Rattle.model.proofs.Laws.Cleanup.{zero_is, children-empty}
use Rattle.memory.specs.declared.node.Node.{Node}
use Rattle.memory.specs.Nodes.{node_at, empty_leaf}
use Rattle.memory.specs.Rows.{HasNode, set_node_at}
use Rattle.memory.proofs.Laws.Stores.{first-set, count_set, node-length, changed-by}
use Rattle.tree.specs.Trees.{node_count, node_total, NodesIn}
use Rattle.tree.specs.Cleanup.{collapse, clean_words, TreeAndFree}
use Rattle.tree.proofs.Laws.Trees.{not-branch, is-branch, node_in-row, mark-no_leaf, shallow-branch}
use Rattle.tree_cleanup.specs.declared.Swept.{Swept}
use Rattle.tree_cleanup.specs.Walks.{HasGroup, empty_group, turned_nodes, walk_of, Fits, Cleaned, NodeToClean, NodeCleaned}
use Rattle.tree_cleanup.specs.Walks.{ChildrenAndFree, clean_children, GroupToClean, GroupCleaned}

-- ---- five zeros make a zero

zero-sum : (m n : ℕ) → is_zero (m + n) ≡ is_zero m && is_zero n
zero-sum zero n = let e : 0 + n ≡ n = omega arith in ap is_zero e
zero-sum (suc m) n = let e : suc m + n ≡ suc (m + n) = omega arith in ap is_zero e

eqb-zero : (n : ℕ) → eqb n 0 ≡ is_zero n
eqb-zero zero = refl
eqb-zero (suc n) = ne_eqb (suc n) 0 (λ e. omega arith)

-- ---- the group of a branch that stands

module _ (nodes dots : List ℕ) (rects : List ℤ) (a g : ℕ) (f : ℕ → Tree) (stands : Represents (read nodes dots rects) a (branch g f)) where
  pub group-there : NodesIn nodes a (branch g f) → HasGroup nodes (first_at nodes a)
  group-there n = omega (arith, stands.1, node_in-row nodes (child_node g 4) (f 4) (n.1 4 (omega arith)))

  child-zero : (i : ℕ) → i < 5 → eqb (count_at nodes (first_at nodes a + i)) 0 ≡ is_zero (busy (f i))
  unfolding branch_mark
  child-zero i b =
      let at : first_at nodes a + i ≡ child_node g i = omega (arith, stands.1) in
      ap (λ (p : ℕ). eqb (count_at nodes p) 0) at ∙ eqb-zero (count_at nodes (child_node g i)) ∙ go (f i) (stands.2 i b)
    where
      go : (t : Tree) → Represents (read nodes dots rects) (child_node g i) t → is_zero (count_at nodes (child_node g i)) ≡ is_zero (busy t)
      go (leaf chain) r = ap is_zero r.0
      go (branch h j) r = ap is_zero r.0

  pub group_empty : empty_group nodes (first_at nodes a) ≡ all_empty f
  unfolding empty_group
  group_empty =
      rw (child-zero 0 (omega arith), child-zero 1 (omega arith), child-zero 2 (omega arith), child-zero 3 (omega arith), child-zero 4 (omega arith))
      (simp (zero-sum, and_assoc, and-true))

-- ---- a branch whose words were read

record Branch (nodes : List ℕ) (swept : Swept) (a levels : ℕ) (node : Node) (dots : List ℕ) (rects : List ℤ) (free : List ℕ) (g : ℕ) (f : ℕ → Tree)
    : Type 0 where
  pub words : node ≡ node_at nodes a
  pub stands : TreeAndFree (branch g f) a (walk_of nodes dots rects swept.head) free
  pub fits : Fits nodes levels a (branch g f)

module _ {nodes : List ℕ} {swept : Swept} {a levels : ℕ} {node : Node} {dots : List ℕ} {rects : List ℤ} {free : List ℕ} {g : ℕ} {f : ℕ → Tree}
    (k : Branch nodes swept a levels node dots rects free g f) where
  first-is : node.first ≡ child_node g 0
  first-is = ap (λ (x : Node). x.first) k.words ∙ k.stands.1.1

  group_in : HasGroup nodes node.first
  group_in = subst (λ (x : Node). HasGroup nodes x.first) (sym k.words) (group-there nodes dots rects a g f k.stands.1 k.fits.nodes_in)

  child_fits : (i : ℕ) → i < 5 → Fits nodes (levels - 1) (child_node g i) (f i)
  child_fits i b =
      record {
        nodes_in = k.fits.nodes_in.1 i b;
        shallow = (shallow-branch levels g f k.fits.shallow).1 i b;
        few = omega (arith, k.fits.few, sum_below_term 5 (λ j. size (f j)) i b);
      }

  empty-same : empty_group nodes node.first ≡ all_empty f
  empty-same = ap (λ (x : Node). empty_group nodes x.first) k.words ∙ group_empty nodes dots rects a g f k.stands.1

  -- ---- the branch is turned

  -- the node is none of its group's
  apart : a ≢ child_node g 0
  apart e =
      let N : ℕ → ℕ = λ j. node_count a (child_node g j) (f j) in
      omega (arith, k.stands.0 a, indicator-same a, sum_below_term 5 N 0 (omega arith), root-count (f 0), ap (λ (y : ℕ). indicator a y) (sym e))
    where
      root-count : (t : Tree) → indicator a (child_node g 0) ≤ node_count a (child_node g 0) t
      root-count (leaf chain) = omega arith
      root-count (branch h j) = omega arith

  count_0 : all_empty f ≡ true → count_at nodes (child_node g 0) ≡ 0
  count_0 e =
      let empty = children-empty f (zero_is (sum_below 5 (λ i. busy (f i))) e) 0 (omega arith) in
      (subst (λ (t : Tree). Represents (read nodes dots rects) (child_node g 0) t) empty (k.stands.1.2 0 (omega arith))).0

  turned_walk : all_empty f ≡ true
      → walk_of (turned_nodes nodes a node.first swept.head) dots rects node.first ≡ collapse a g (walk_of nodes dots rects swept.head)
  unfolding turned_nodes empty_leaf
  turned_walk e =
      let one = set_node_at nodes a empty_leaf in
      let v : Node = record { first = swept.head; count = 0 } in
      let b = child_node g 0 in
      let in-a : HasNode nodes a = k.fits.nodes_in.0 in
      let in_b : HasNode one b = omega (arith, node-length nodes a empty_leaf, group_in, first-is) in
      let first : first_at (set_node_at one node.first v) ≡ changed (changed (first_at nodes) a none) b swept.head =
      ap (λ (p : ℕ). first_at (set_node_at one p v)) first-is ∙ first-set one b v in_b ∙ ap (λ h. changed h b swept.head) (first-set nodes a empty_leaf in-a) in
      let stays = changed_other (count_at nodes) a 0 b (λ x. apart (sym x)) ∙ count_0 e in
      let count : count_at (set_node_at one node.first v) ≡ changed (count_at nodes) a 0 =
      ap (λ (p : ℕ). count_at (set_node_at one p v)) first-is ∙ count_set one b v in_b ∙ ap (λ h. changed h b 0) (count_set nodes a empty_leaf in-a)
      ∙ sym (changed-by (changed (count_at nodes) a 0) (changed (count_at nodes) a 0) b 0 stays (λ p ne. refl)) in
      let head = first-is in
      λ i. record { mem = record { first = first i; count = count i; dot = dot_at dots rects; next = next_at dots }; head = head i }

  turned-one : empty_group nodes node.first ≡ true
      → Cleaned nodes dots rects swept (clean_words (branch g f) a) (turned (branch g f))
      (turned_nodes nodes a node.first swept.head) (record { head = node.first; turned = swept.turned + 1 })
  turned-one t =
      let e : all_empty f ≡ true = sym empty-same ∙ t in
      let all : clean_words (branch g f) a (walk_of nodes dots rects swept.head) ≡ collapse a g (walk_of nodes dots rects swept.head) = rw e refl in
      let many : turned (branch g f) ≡ 1 = rw e refl in
      record { walk = turned_walk e ∙ sym all; more = ap (λ (n : ℕ). swept.turned + n) (sym many) }

  -- ---- or hands its group on

  children-stand : ChildrenAndFree g f 5 (walk_of nodes dots rects swept.head) free
  children-stand = record { once = λ j. omega (arith, k.stands.0 j); represented = k.stands.1.2; groups = k.stands.2 }

  handed-on : (nodes' : List ℕ) (r : Swept) → empty_group nodes node.first ≡ false
      → Cleaned nodes dots rects swept (clean_children g f 5) (sum_below 5 (λ j. turned (f j))) nodes' r
      → Cleaned nodes dots rects swept (clean_words (branch g f) a) (turned (branch g f)) nodes' r
  handed-on nodes' r t c =
      let e : all_empty f ≡ false = sym empty-same ∙ t in
      let all : clean_words (branch g f) a (walk_of nodes dots rects swept.head) ≡ clean_children g f 5 (walk_of nodes dots rects swept.head) = rw e refl in
      let many : turned (branch g f) ≡ sum_below 5 (λ j. turned (f j)) = rw e refl in
      record { walk = c.walk ∙ sym all; more = c.more ∙ ap (λ (n : ℕ). swept.turned + n) (sym many) }

-- ---- a node, by what the code reads of it

pub walked_in : {nodes : List ℕ} {swept : Swept} {a levels : ℕ} → NodeToClean nodes swept a levels → HasNode nodes a
walked_in {nodes} {swept} {a} w = node_in-row nodes a w.tree w.fits.nodes_in

module _ (nodes : List ℕ) (swept : Swept) (a levels : ℕ) {node : Node} {b : Bool}
    (words : node ≡ node_at nodes a) (told : b ≡ eqb node.count branch_mark) where
  pub leaf-cleaned : not b ≡ true → NodeCleaned nodes swept a levels nodes swept
  unfolding NodeCleaned
  leaf-cleaned n dots rects (leaf chain) free w s = record { walk = refl; more = omega arith }
  leaf-cleaned n dots rects (branch g f) free w s = absurd (not-branch nodes a words told n w.1.0)

  module _ (n : not b ≡ false) where
    mark : count_at nodes a ≡ branch_mark
    mark = is-branch nodes a words told n

    -- what the walk of a branch asks
    record ToClean : Type 0 where
      pub in_row : HasGroup nodes node.first
      pub level : 1 ≤ levels
      pub room : swept.turned + 1 ≤ 81921
      pub group : GroupToClean nodes swept node.first (levels - 1) 5

    asked : NodeToClean nodes swept a levels → ToClean
    asked w = go w.tree w.stands w.fits w.small
      where
        go : (t : Tree) → TreeAndFree t a (walk_of nodes w.dots w.rects swept.head) w.free → Fits nodes levels a t
            → swept.turned + node_total t ≤ 81921 → ToClean
        go (leaf chain) stands fits small = absurd (mark-no_leaf chain fits.few stands.1.0 mark)
        go (branch g f) stands fits small =
            let k : Branch nodes swept a levels node w.dots w.rects w.free g f = record { words = words; stands = stands; fits = fits } in
            record {
              in_row = group_in k;
              level = (shallow-branch levels g f fits.shallow).0;
              room = omega arith;
              group = record {
                dots = w.dots;
                rects = w.rects;
                group = g;
                children = f;
                free = w.free;
                head = first-is k;
                most = omega arith;
                stands = children-stand k;
                fits = child_fits k;
                small = omega arith;
              };
            }

    module _ (w : NodeToClean nodes swept a levels) where
      pub branch_in : HasGroup nodes node.first
      branch_in = (asked w).in_row

      pub branch-first : HasNode nodes node.first
      branch-first = omega (arith, branch_in)

      pub branch-level : 1 ≤ levels
      branch-level = (asked w).level

      pub branch-group : GroupToClean nodes swept node.first (levels - 1) 5
      branch-group = (asked w).group

    pub turned-cleaned : {empty : Bool} (nodes' : List ℕ) → empty ≡ empty_group nodes node.first → empty ≡ true
        → nodes' ≡ turned_nodes nodes a node.first swept.head
        → NodeCleaned nodes swept a levels nodes' (record { head = node.first; turned = swept.turned + 1 })
    unfolding NodeCleaned
    turned-cleaned nodes' test taken stored dots rects (leaf chain) free w s = absurd (mark-no_leaf chain s.few w.1.0 mark)
    turned-cleaned nodes' test taken stored dots rects (branch g f) free w s =
        let k : Branch nodes swept a levels node dots rects free g f = record { words = words; stands = w; fits = s } in
        rw stored (turned-one k (sym test ∙ taken))

    pub branch-cleaned : {empty : Bool} (nodes' : List ℕ) (r : Swept) → empty ≡ empty_group nodes node.first → empty ≡ false
        → GroupCleaned nodes swept node.first (levels - 1) 5 nodes' r → NodeCleaned nodes swept a levels nodes' r
    unfolding NodeCleaned GroupCleaned
    branch-cleaned nodes' r test left c dots rects (leaf chain) free w s = absurd (mark-no_leaf chain s.few w.1.0 mark)
    branch-cleaned nodes' r test left c dots rects (branch g f) free w s =
        let k : Branch nodes swept a levels node dots rects free g f = record { words = words; stands = w; fits = s } in
        handed-on k nodes' r (sym test ∙ left) (c dots rects g f free (first-is k) (children-stand k) (child_fits k))
