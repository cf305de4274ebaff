-- Leaves of a memory that is a tree: a law for each way through the code.
--     leaf-settings        the settings of a tree are in range
--     root-leaves, leaves-met      the walk from the root
--     leaves-fit   there are few
--     leaves-many, leaves-listed   refusal 8, and the numbers listed
use Rattle.std.specs.Prelude.{◌≡◌, List, true, ℕ, ◌+◌, ◌*◌, ◌/◌, ◌≤◌, ◌<◌, ℤ, replicate}
use Rattle.std.proofs.Math.Path.{ap}
use Rattle.std.proofs.Common.{◌∙◌, lt-ltb, le-ltb}
use native.Mathlib.Omega.{arith}
use Rattle.std.proofs.Math.ListN.{length}
use Rattle.geometry.specs.declared.node_data.NodeData.{NodeData}
use Rattle.geometry.specs.Settings.{in_range, D}
use Rattle.geometry.specs.Cells.{root_data}
use Rattle.geometry.proofs.Laws.Ranges.{accepted, root-range}
use Rattle.geometry.proofs.Laws.Reach.{deepest-within}
use Rattle.model.specs.declared.State.{State}
use Rattle.model.specs.Trees.{Tree, leaf, branch, child_node}
use Rattle.model.specs.Query.{leaves_of}
use Rattle.model.specs.Shapes.{Shape, root, leaves, leaf_number}
use Rattle.model.specs.Layout.{world, cleared}
use Rattle.model.specs.Memory.{read, Represents}
use Rattle.model.specs.Calls.{too_many, answered, exit, leaves_rule}
use Rattle.model.proofs.Laws.Query.{leaves-length}
use Rattle.model.proofs.Laws.Layout.{holds-settings}
use Rattle.tree.specs.Operations.{HasTree}
use Rattle.tree.specs.Trees.{TreeStands}
use Rattle.tree.proofs.Laws.Trees.{root_stands, root_total}
use Rattle.std.proofs.lemmas.List.Edits.{sets}
use Rattle.tree_query.specs.Leaves.{Shaped, LeafStands, LeafWalk, LeafWalked}
use Rattle.tree_query.specs.Answers.{LeavesMet, LeavesListed}
use Rattle.tree.proofs.Laws.Rows.{sets_whole}
use Rattle.tree.proofs.Laws.Operations.{tree-settings}
use Rattle.tree_query.proofs.Laws.LeafGroups.{words_total}

shaped : (nodes dots : List ℕ) (rects : List ℤ) (a : ℕ) (t : Tree) → Represents (read nodes dots rects) a t → Shaped nodes a t
shaped nodes dots rects a (leaf chain) r = r.0
shaped nodes dots rects a (branch g f) r = (r.0, r.1, λ i b. shaped nodes dots rects (child_node g i) (f i) (r.2 i b))

leaf-stands : (nodes dots : List ℕ) (rects : List ℤ) (levels a : ℕ) (t : Tree) → TreeStands nodes dots rects levels a t → LeafStands nodes levels a t
leaf-stands nodes dots rects levels a t s =
    record { shaped = shaped nodes dots rects a t s.represents; shallow = s.shallow; nodes_in = s.nodes_in; few = s.few }

module _ (s : State) (nodes : List ℕ) where
  pub leaf-settings : HasTree s nodes → in_range s.settings ≡ true
  leaf-settings h = tree-settings h.tree

  pub root-leaves : {n : NodeData} {levels : ℕ} → HasTree s nodes → n ≡ root_data s.settings → levels ≡ D s.settings → LeafWalk n nodes 0 0 levels
  unfolding root_data
  root-leaves {n = n} {levels = levels} h e deep =
      let t = h.tree in
      let x = t.shape in
      let within = deepest-within s.settings (leaf-settings h) in
      let depth : n.depth ≡ 0 = ap (λ (m : NodeData). m.depth) e in
      let stands = root_stands s nodes h.dots h.rects t.marks x t.holds in
      record {
        tree = x.tree;
        stands = leaf-stands nodes h.dots h.rects levels 0 x.tree (rw deep stands);
        small = omega (arith, root_total s nodes h.dots h.rects t.marks x t.holds);
        cell_fits = rw e (root-range s.settings (accepted s.settings (leaf-settings h)).root);
        deep = omega (arith, within, depth);
      }

  pub leaves-met : (row : List ℤ) {n : NodeData} {levels : ℕ} (row' : List ℤ) (r : ℕ)
      → n ≡ root_data s.settings → levels ≡ D s.settings
      → LeafWalked n nodes row 0 0 levels row' r → LeavesMet s nodes row row' r
  unfolding LeafWalked LeavesMet leaves
  leaves-met row {n} {levels} row' r e deep w = λ dots rects marks x h.
      let same : n ≡ root x = e ∙ ap root_data (holds-settings (world s nodes dots rects marks) x h) in
      let stands = root_stands s nodes dots rects marks x h in
      let l = w x.tree (leaf-stands nodes dots rects levels 0 x.tree (rw deep stands)) in
      let words = ap (λ (m : NodeData). leaves_of m x.tree) same in
      let many : 0 + length (leaves_of n x.tree) ≡ length (leaves_of (root x) x.tree) = omega (arith, ap length words) in
      (l.position ∙ many, l.written ∙ ap (sets row 0) words)

  -- ---- how many there are

  six : (x : Shape) → length (leaves x) ≡ 6 * leaf_number x
  unfolding leaves leaf_number
  six x = leaves-length (root x) x.tree

  pub leaves-fit : (row row' : List ℤ) (r : ℕ) → HasTree s nodes → LeavesMet s nodes row row' r → r ≤ 1000000
  unfolding LeavesMet leaves
  leaves-fit row row' r h m =
      let t = h.tree in
      let x = t.shape in
      omega (
        arith,
        (m h.dots h.rects t.marks x t.holds).0,
        words_total (root x) x.tree,
        root_total s nodes h.dots h.rects t.marks x t.holds,
      )

  -- ---- the answer

  module _ (other other' : List ℤ) (r : ℕ) (count : LeavesMet s nodes other other' r) (row : List ℤ) where
    pub leaves-many : length row < r → LeavesListed s nodes row row (too_many (r / 6))
    unfolding LeavesMet LeavesListed leaves_rule cleared
    leaves-many short = λ dots rects marks x h.
        let many : r ≡ 6 * leaf_number x = (count dots rects marks x h).0 ∙ six x in
        let number : r / 6 ≡ leaf_number x = omega (arith, many) in
        rw (lt-ltb (length row) (6 * leaf_number x) (omega (arith, many)))
        (ap (λ (n : ℕ). exit (world s nodes dots rects (replicate (length marks) 0)) row (too_many n)) number)

    pub leaves-listed : (row' : List ℤ) (k : ℕ) → r ≤ length row → LeavesMet s nodes row row' k
        → LeavesListed s nodes row row' (answered (r / 6))
    unfolding LeavesMet LeavesListed leaves_rule cleared
    leaves-listed row' k fits m = λ dots rects marks x h.
        let many : r ≡ 6 * leaf_number x = (count dots rects marks x h).0 ∙ six x in
        let number : r / 6 ≡ leaf_number x = omega (arith, many) in
        let long : length (leaves x) ≤ length row = omega (arith, six x, many) in
        let written = (m dots rects marks x h).1 ∙ sets_whole row (leaves x) long in
        let words = h.words in
        rw (le-ltb (length row) (6 * leaf_number x) (omega (arith, many)))
        (λ i. exit (words i) (written i) (answered (number i)))
