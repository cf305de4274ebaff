-- Queries on a memory that is a tree: a law for each way through the code.
--     tree-root    the root of a tree is in range
--     root-walk, root-met  the walk from the root
--     met-counted          a walk counts
--     room-live, room-counted      there is room for all that is listed
--     queried_many, queried_listed     refusal 8, and the ids listed
use Rattle.std.specs.Prelude.{◌≡◌, List, true, ℕ, ◌+◌, ◌≤◌, ◌<◌, ℤ, replicate}
use Rattle.std.proofs.Math.Path.{ap, sym}
use Rattle.std.proofs.Common.{◌∙◌, lt-ltb, le-ltb}
use native.Mathlib.Omega.{arith}
use Rattle.std.proofs.Math.ListN.{length}
use Rattle.geometry.specs.declared.centered_aabb.CenteredAABB.{CenteredAABB}
use Rattle.geometry.specs.Settings.{root_fits, D}
use Rattle.geometry.specs.Cells.{root_cell, root_data}
use Rattle.geometry.proofs.Laws.Ranges.{accepted, root-range}
use Rattle.model.specs.declared.Window.{Window}
use Rattle.model.specs.declared.State.{State}
use Rattle.model.specs.Trees.{Placed}
use Rattle.model.specs.Query.{hits, opened}
use Rattle.model.specs.Shapes.{Shape, root, listed, opens_for}
use Rattle.model.specs.Layout.{world, cleared, Holds}
use Rattle.model.specs.Calls.{too_many, answered, exit, query_rule}
use Rattle.model.proofs.Laws.Layout.{holds-settings}
use Rattle.model.proofs.Laws.Memory.{holds-represented}
use Rattle.model.proofs.Laws.Lists.{length-map}
use Rattle.model.proofs.Laws.Listing.{listed_le}
use Rattle.memory.specs.Lent.{holding}
use Rattle.tree.specs.Operations.{IsTree}
use Rattle.tree.proofs.Laws.Operations.{tree-settings}
use Rattle.tree.proofs.Laws.Trees.{root_stands, root_total}
use Rattle.model.specs.declared.answers.Found.{Found}
use Rattle.tree_query.specs.Walks.{ids, after, row_after, NodeWalk, NodeWalked}
use Rattle.tree_query.specs.Answers.{Met, Counted, Queried}
use Rattle.tree.proofs.Laws.Rows.{sets_whole}

module _ (s : State) (nodes dots : List ℕ) (rects : List ℤ) where
  pub tree-root : IsTree s (holding nodes dots rects) → root_fits s.settings ≡ true
  tree-root t = (accepted s.settings (tree-settings t)).root

  -- ---- the walk

  -- nothing has been found yet
  abbrev start : Found
  start = record { hits = 0; opened = 0 }

  pub root-walk : {cell : CenteredAABB} {levels : ℕ} → IsTree s (holding nodes dots rects) → cell ≡ root_cell s.settings → levels ≡ D s.settings
      → NodeWalk cell (holding nodes dots rects) start 0 levels
  root-walk t e deep =
      let stands = root_stands s nodes dots rects t.marks t.shape t.holds in
      record {
        tree = t.shape.tree;
        stands = rw deep stands;
        grows = record { hits = omega (arith, stands.few); opened = omega (arith, root_total s nodes dots rects t.marks t.shape t.holds) };
        cell_fits = rw e (root-range s.settings (tree-root t));
      }

  pub root-met : (q : Window) (row : List ℕ) {cell : CenteredAABB} {levels : ℕ} (row' : List ℕ) (r : Found)
      → cell ≡ root_cell s.settings → levels ≡ D s.settings → NodeWalked q cell (holding nodes dots rects) row start 0 levels row' r
      → Met s q (holding nodes dots rects) row row' r
  unfolding NodeWalked Met after row_after listed opens_for root_data
  root-met q row row' r e deep walked = λ marks x h.
      let n = root x in
      let same = holds-settings (world s nodes dots rects marks) x h in
      let stands = root_stands s nodes dots rects marks x h in
      let l = walked x.tree n (rw deep stands) (ap root_cell (sym same) ∙ sym e) in
      let found = hits q n x.tree in
      let many : 0 + length found ≡ length (ids found) = omega (arith, length-map (λ (d : Placed). d.dot.id) found) in
      let nodes-opened : 0 + opened q.rect n x.tree ≡ opened q.rect n x.tree = omega arith in
      (l.answer ∙ (λ i. record { hits = many i; opened = nodes-opened i }), l.written)

  pub met-counted : (q : Window) (row row' : List ℕ) (r : Found) → Met s q (holding nodes dots rects) row row' r → Counted s q (holding nodes dots rects) r
  unfolding Met Counted
  met-counted q row row' r m = λ marks x h. (m marks x h).0

  -- ---- how many there are

  counted-hits : (q : Window) (r : Found) → Counted s q (holding nodes dots rects) r
      → (marks : List ℕ) (x : Shape) → Holds (world s nodes dots rects marks) x → r.hits ≡ length (listed q x)
  unfolding Counted
  counted-hits q r c marks x h = ap (λ (f : Found). f.hits) (c marks x h)

  -- ---- the answer

  -- refusal 8: the ids outnumber the row, and nothing is changed
  pub queried_many : (q : Window) (row : List ℕ) (r : Found) → Counted s q (holding nodes dots rects) r → length row < r.hits
      → Queried s q (holding nodes dots rects) row row (too_many r.hits)
  unfolding Queried query_rule cleared
  queried_many q row r c short = λ marks x h.
      let many = counted-hits q r c marks x h in
      rw (lt-ltb (length row) (length (listed q x)) (omega (arith, many)))
      (ap (λ (n : ℕ). exit (world s nodes dots rects (replicate (length marks) 0)) row (too_many n)) many)

  -- there is room for all that is listed: for every live dot, or for those that were counted
  abbrev Fits : Window → ℕ → Type 0
  Fits q room = (marks : List ℕ) (x : Shape) → Holds (world s nodes dots rects marks) x → length (listed q x) ≤ room

  pub room-live : (q : Window) (room : ℕ) → s.live ≤ room → Fits q room
  room-live q room l marks x h = omega (arith, listed_le q x h.valid, (holds-represented (world s nodes dots rects marks) x h).live)

  pub room-counted : (q : Window) (room : ℕ) (r : Found) → Counted s q (holding nodes dots rects) r → r.hits ≤ room → Fits q room
  room-counted q room r c l marks x h = omega (arith, counted-hits q r c marks x h)

  -- the row begins with the ids and keeps its tail
  pub queried_listed : (q : Window) (row row' : List ℕ) (r : Found) → Met s q (holding nodes dots rects) row row' r
      → Fits q (length row) → Queried s q (holding nodes dots rects) row row' (answered r)
  unfolding Met Queried query_rule cleared
  queried_listed q row row' r m fits = λ marks x h.
      let found = m marks x h in
      let written = found.1 ∙ sets_whole row (listed q x) (fits marks x h) in
      let words = h.words in
      rw (le-ltb (length row) (length (listed q x)) (fits marks x h)) (λ i. exit (words i) (written i) (answered (found.0 i)))
