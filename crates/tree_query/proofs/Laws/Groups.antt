-- The query's walk of a group, child by child, by what the code reads of each.
--     opens_bit                    whether the code opens a child
--     group-none                   no child is left
--     group-others, group_skips    a child that is not opened: what the others' walk asks, and gives
--     group-node, group-rest, group_gives      one that is opened: what its walk asks; what the others' walk asks; both together
--     Ahead        the loop over the children: what it has left to do leads to the whole
--     ahead-child, ahead-next, ahead-skip, ahead_end       a child's walk; its turns; its end
use Rattle.std.specs.Prelude.{◌≡◌, List, [], ◌++◌, Bool, true, false, cond, ◌||◌, ℕ, ◌+◌, ◌-◌, ◌≤◌, ◌<◌, ℤ, eqb}
use Rattle.std.proofs.Math.Path.{refl, ap, sym}
use Rattle.std.proofs.Common.{◌∙◌, subst, arith}
use Rattle.arithmetic.specs.Bits.{bit_at}
use Rattle.geometry.specs.declared.aabb.AABB.{AABB}
use Rattle.geometry.specs.declared.centered_aabb.CenteredAABB.{CenteredAABB}
use Rattle.geometry.specs.declared.node_data.NodeData.{NodeData}
use Rattle.geometry.specs.declared.quadrants.Quadrants.{Quadrants}
use Rattle.geometry.specs.Cells.{child_cell, child_data, cell_code, opens_cell, opens, InRange}
use Rattle.geometry.proofs.Laws.Codes.{opens-code}
use Rattle.geometry.proofs.Laws.Ranges.{child-range}
use Rattle.model.specs.declared.Window.{Window}
use Rattle.model.specs.Trees.{Tree, child_node, size}
use Rattle.model.specs.Query.{hits, opened}
use Rattle.model.specs.declared.answers.Found.{Found}
use Rattle.memory.specs.Lent.{holding}
use Rattle.tree.specs.Trees.{node_total, TreeStands}
use Rattle.tree.proofs.Laws.Trees.{sum_step}
use Rattle.tree_query.specs.Walks.{group_hits, group_opened, after, Left, NodeWalk, NodeWalked, GroupWalk, GroupWalked}
use Rattle.tree.proofs.Laws.Children.{join_step}
use Rattle.tree_query.proofs.Laws.Found.{left-none, left_then, hits-size, opened_total}

-- §8.2, by the code's bits
abbrev pub opens_bit : ℕ → ℕ → Bool
opens_bit code i = eqb i 0 || bit_at code i

-- the first child of those left, and the others
module _ (q : Window) (n : NodeData) (f : ℕ → Tree) (left : ℕ) (some : 1 ≤ left) where
  hits-step : group_hits q n f left ≡ cond (opens q.rect n (5 - left)) (hits q (child_data n (5 - left)) (f (5 - left))) [] ++ group_hits q n f (left - 1)
  hits-step = join_step (λ i. cond (opens q.rect n i) (hits q (child_data n i) (f i)) []) left some

  opened-step : group_opened q.rect n f left
      ≡ cond (opens q.rect n (5 - left)) (opened q.rect (child_data n (5 - left)) (f (5 - left))) 0 + group_opened q.rect n f (left - 1)
  opened-step = sum_step (λ i. cond (opens q.rect n i) (opened q.rect (child_data n i) (f i)) 0) left some

-- §8.2, by the code's bits: child 0, and of 1 to 4 those with both tests true
opens-bit : (q : AABB) (cell : CenteredAABB) (quadrants : Quadrants) (i : ℕ) → quadrants.code ≡ cell_code cell q
    → (n : NodeData) → n.cell ≡ cell → opens_bit quadrants.code i ≡ opens q n i
unfolding opens
opens-bit q cell quadrants i e n c =
    ap (λ (k : ℕ). opens_bit k i) e ∙ opens-code cell q i ∙ ap (λ (d : CenteredAABB). opens_cell d q i) (sym c)

module _ {q : Window} {cell : CenteredAABB} {quadrants : Quadrants} {nodes dots : List ℕ} {rects : List ℤ}
    (row : List ℕ) {found : Found} {first levels left : ℕ} (some : left ≡ 0 → ⊥)
    (w : GroupWalk q cell quadrants (holding nodes dots rects) found first levels left) where
  least : 1 ≤ left
  least = omega (arith, some)

  abbrev child : ℕ
  child = 5 - left

  abbrev tree : Tree
  tree = w.children child

  child-stands : TreeStands nodes dots rects levels (child_node w.group child) tree
  child-stands = w.stands child (omega (arith, w.small)) (omega (arith, least))

  -- what the code's bit says of the child
  opens-child : {shown : Bool} → opens_bit quadrants.code child ≡ shown → (n : NodeData) → n.cell ≡ cell → opens q.rect n child ≡ shown
  opens-child told n e = sym (opens-bit q.rect cell quadrants child w.code n e) ∙ told

  -- the children that are left after the first
  rest : (f : Found) → f.hits ≤ found.hits + size tree → f.opened ≤ found.opened + node_total tree
      → GroupWalk q cell quadrants (holding nodes dots rects) f first levels (left - 1)
  rest f h o =
      record {
        group = w.group;
        children = w.children;
        head = w.head;
        small = omega (arith, w.small);
        stands = λ i low b. w.stands i (omega arith) b;
        grows = record {
          hits = omega (arith, w.grows.hits, sum_step (λ i. size (w.children i)) left least);
          opened = omega (arith, w.grows.opened, sum_step (λ i. node_total (w.children i)) left least);
        };
        cell_fits = w.cell_fits;
        code = w.code;
      }

  -- ---- the child is not opened

  pub group-others : GroupWalk q cell quadrants (holding nodes dots rects) found first levels (left - 1)
  group-others = rest found (omega arith) (omega arith)

  skipped : ((n : NodeData) → n.cell ≡ cell → opens q.rect n child ≡ false) → (row' : List ℕ) (r : Found)
      → GroupWalked q cell (holding nodes dots rects) row found first levels (left - 1) row' r
      → GroupWalked q cell (holding nodes dots rects) row found first levels left row' r
  unfolding GroupWalked
  skipped shut row' r g = λ group f n h s e.
      let l = g group f n h (λ i low b. s i (omega arith) b) e in
      rw (hits-step q n f left least, opened-step q n f left least, shut n e)
      (subst (λ (k : ℕ). Left row found (group_hits q n f (left - 1)) k row' r) (omega arith) l)

  pub group_skips : opens_bit quadrants.code child ≡ false → (row' : List ℕ) (r : Found)
      → GroupWalked q cell (holding nodes dots rects) row found first levels (left - 1) row' r
      → GroupWalked q cell (holding nodes dots rects) row found first levels left row' r
  group_skips told row' r g = skipped (opens-child told) row' r g

  -- ---- the child is opened

  pub group-node : (below : CenteredAABB) → below ≡ child_cell cell child → NodeWalk below (holding nodes dots rects) found (first + child) levels
  group-node below e =
      let node : first + child ≡ child_node w.group child = omega (arith, w.head) in
      record {
        tree = tree;
        stands = subst (λ (a : ℕ). TreeStands nodes dots rects levels a tree) (sym node) child-stands;
        grows = record {
          hits = omega (arith, w.grows.hits, sum_step (λ i. size (w.children i)) left least);
          opened = omega (arith, w.grows.opened, sum_step (λ i. node_total (w.children i)) left least);
        };
        cell_fits = subst InRange (sym e) (child-range cell child w.cell_fits);
      }

  module _ {below : CenteredAABB} (b : below ≡ child_cell cell child) (row₁ : List ℕ) (f₁ : Found)
      (node : NodeWalked q below (holding nodes dots rects) row found (first + child) levels row₁ f₁) where
    -- what the child's walk leaves, for the children of any tree that stands there
    child-left : (g : ℕ) (f : ℕ → Tree) (n : NodeData) → first ≡ child_node g 0 → TreeStands nodes dots rects levels (child_node g child) (f child)
        → n.cell ≡ cell → Left row found (hits q (child_data n child) (f child)) (opened q.rect (child_data n child) (f child)) row₁ f₁
    unfolding NodeWalked child_data
    child-left g f n h s e =
        let at : first + child ≡ child_node g child = omega (arith, h) in
        node (f child) (child_data n child) (subst (λ (a : ℕ). TreeStands nodes dots rects levels a (f child)) (sym at) s)
        (ap (λ (d : CenteredAABB). child_cell d child) e ∙ sym b)

    some_data : NodeData
    some_data = record { cell = cell; depth = 0; is_child_0 = false }

    pub group-rest : GroupWalk q cell quadrants (holding nodes dots rects) f₁ first levels (left - 1)
    unfolding some_data after
    group-rest =
        let n = child_data some_data child in
        let l = child-left w.group w.children some_data w.head child-stands refl in
        rest f₁
        (omega (arith, ap (λ (f : Found). f.hits) l.answer, hits-size q n tree))
        (omega (arith, ap (λ (f : Found). f.opened) l.answer, opened_total q.rect n tree))

    walked : ((n : NodeData) → n.cell ≡ cell → opens q.rect n child ≡ true) → (row₂ : List ℕ) (f₂ : Found)
        → GroupWalked q cell (holding nodes dots rects) row₁ f₁ first levels (left - 1) row₂ f₂
        → GroupWalked q cell (holding nodes dots rects) row found first levels left row₂ f₂
    unfolding GroupWalked
    walked shown row₂ f₂ g = λ group f n h s e.
        let one = child-left group f n h (s child (omega (arith, w.small)) (omega (arith, least))) e in
        rw (hits-step q n f left least, opened-step q n f left least, shown n e)
        (left_then one (g group f n h (λ j low b. s j (omega arith) b) e))

    pub group_gives : opens_bit quadrants.code child ≡ true → (row₂ : List ℕ) (f₂ : Found)
        → GroupWalked q cell (holding nodes dots rects) row₁ f₁ first levels (left - 1) row₂ f₂
        → GroupWalked q cell (holding nodes dots rects) row found first levels left row₂ f₂
    group_gives shown row₂ f₂ g = walked (opens-child shown) row₂ f₂ g

pub group-none : (q : Window) (cell : CenteredAABB) (nodes dots : List ℕ) (rects : List ℤ) (row : List ℕ) (found : Found) (first levels left : ℕ)
    → left ≡ 0 → GroupWalked q cell (holding nodes dots rects) row found first levels left row found
unfolding GroupWalked
group-none q cell nodes dots rects row found first levels left z = λ g f n h s e.
    subst (λ (k : ℕ). Left row found (group_hits q n f k) (group_opened q.rect n f k) row found) (sym z) (left-none row found)

-- ---- the loop, before a child

pub record Ahead (q : Window) (cell : CenteredAABB) (quadrants : Quadrants) (nodes dots : List ℕ) (rects : List ℤ) (row₀ : List ℕ) (found₀ : Found)
    (first levels : ℕ) (row : List ℕ) (found : Found) (child : ℕ) : Type 0 where
  pub asks : GroupWalk q cell quadrants (holding nodes dots rects) found first levels (5 - child)
  pub whole : (row' : List ℕ) (r : Found) → GroupWalked q cell (holding nodes dots rects) row found first levels (5 - child) row' r
      → GroupWalked q cell (holding nodes dots rects) row₀ found₀ first levels 5 row' r

module _ {q : Window} {cell : CenteredAABB} {quadrants : Quadrants} {nodes dots : List ℕ} {rects : List ℤ} {row₀ : List ℕ} {found₀ : Found}
    {first levels : ℕ} {row : List ℕ} {found : Found} {child : ℕ}
    (a : Ahead q cell quadrants nodes dots rects row₀ found₀ first levels row found child) where
  module _ (more : child < 5) where
    this : 5 - (5 - child) ≡ child
    this = omega arith

    others : (5 - child) - 1 ≡ 5 - (child + 1)
    others = omega arith

    some : 5 - child ≡ 0 → ⊥
    some z = omega arith

    told-here : {shown : Bool} → opens_bit quadrants.code child ≡ shown → opens_bit quadrants.code (5 - (5 - child)) ≡ shown
    told-here e = ap (opens_bit quadrants.code) this ∙ e

    pub ahead-skip : opens_bit quadrants.code child ≡ false → Ahead q cell quadrants nodes dots rects row₀ found₀ first levels row found (child + 1)
    ahead-skip told =
        record {
          asks = subst (GroupWalk q cell quadrants (holding nodes dots rects) found first levels) others (group-others row some a.asks);
          whole = λ row' r g. a.whole row' r
              (group_skips row some a.asks (told-here told) row' r
              (subst (λ (k : ℕ). GroupWalked q cell (holding nodes dots rects) row found first levels k row' r) (sym others) g));
        }

    module _ {below : CenteredAABB} (e : below ≡ child_cell cell child) where
      its : below ≡ child_cell cell (5 - (5 - child))
      its = e ∙ ap (child_cell cell) (sym this)

      pub ahead-child : NodeWalk below (holding nodes dots rects) found (first + child) levels
      ahead-child =
          subst (λ (k : ℕ). NodeWalk below (holding nodes dots rects) found (first + k) levels) this (group-node row some a.asks below its)

      pub ahead-next : opens_bit quadrants.code child ≡ true → {row₁ : List ℕ} {f₁ : Found}
          → NodeWalked q below (holding nodes dots rects) row found (first + child) levels row₁ f₁
          → Ahead q cell quadrants nodes dots rects row₀ found₀ first levels row₁ f₁ (child + 1)
      ahead-next told {row₁} {f₁} walk =
          let node = subst (λ (k : ℕ). NodeWalked q below (holding nodes dots rects) row found (first + k) levels row₁ f₁) (sym this) walk in
          record {
            asks = subst (GroupWalk q cell quadrants (holding nodes dots rects) f₁ first levels) others (group-rest row some a.asks its row₁ f₁ node);
            whole = λ row' r g. a.whole row' r
                (group_gives row some a.asks its row₁ f₁ node (told-here told) row' r
                (subst (λ (k : ℕ). GroupWalked q cell (holding nodes dots rects) row₁ f₁ first levels k row' r) (sym others) g));
          }

  pub ahead_end : 5 ≤ child → GroupWalked q cell (holding nodes dots rects) row₀ found₀ first levels 5 row found
  ahead_end z = a.whole row found (group-none q cell nodes dots rects row found first levels (5 - child) (omega arith))
