-- All on a memory that is a tree: a law for each way through the code.
--     all-asks     the walk from the root
--     all-many, all_listed     refusal 8, and the ids listed
use Rattle.std.specs.Prelude.{◌≡◌, List, ◌++◌, ℕ, ◌≤◌, ◌<◌, ℤ, replicate}
use Rattle.std.proofs.Math.Path.{ap}
use Rattle.std.proofs.Common.{sym, ◌∙◌, lt-ltb, le-ltb}
use native.Mathlib.Omega.{arith}
use Rattle.std.proofs.Math.ListN.{length, drop}
use Rattle.geometry.specs.Settings.{D}
use Rattle.model.specs.declared.State.{State}
use Rattle.model.specs.Shapes.{Shape, all_ids}
use Rattle.model.specs.Layout.{world, cleared, Holds}
use Rattle.model.specs.Calls.{too_many, answered, exit, all_rule}
use Rattle.model.proofs.Laws.Memory.{holds-represented}
use Rattle.model.proofs.Laws.Listing.{all-length}
use Rattle.tree.specs.Operations.{HasDots}
use Rattle.tree.proofs.Laws.Trees.{root_stands}
use Rattle.tree.proofs.Laws.Rows.{sets_whole}
use Rattle.tree_all.specs.Walks.{TreeInRows, NodeList, NodeListed, AllListed}

module _ (s : State) (nodes dots : List ℕ) where
  root : (rects : List ℤ) (marks : List ℕ) (x : Shape) → Holds (world s nodes dots rects marks) x → {levels : ℕ} → levels ≡ D s.settings
      → TreeInRows nodes dots levels 0 x.tree
  root rects marks x h deep = record { rects = rects; tree = rw deep (root_stands s nodes dots rects marks x h) }

  -- as many as are live
  number : (rects : List ℤ) (marks : List ℕ) (x : Shape) → Holds (world s nodes dots rects marks) x → length (all_ids x) ≡ s.live
  number rects marks x h = omega (arith, all-length x, (holds-represented (world s nodes dots rects marks) x h).live)

  pub all-asks : (row : List ℕ) {levels : ℕ} → HasDots s nodes dots → s.live ≤ length row → levels ≡ D s.settings → NodeList nodes dots row 0 0 levels
  all-asks row h long deep =
      let t = h.tree in
      let x = t.shape in
      let stands = root h.rects t.marks x t.holds deep in
      let live = (holds-represented (world s nodes dots h.rects t.marks) x t.holds).live in
      record { tree = x.tree; stands = stands; fits = record { room = omega (arith, live, long); small = omega (arith, stands.tree.few) } }

  -- ---- the answer

  module _ (row : List ℕ) where
    pub all-many : length row < s.live → AllListed s nodes dots row row (too_many s.live)
    unfolding AllListed all_rule cleared
    all-many short = λ rects marks x h.
        let many = number rects marks x h in
        rw (lt-ltb (length row) (length (all_ids x)) (omega (arith, many)))
        (ap (λ (n : ℕ). exit (world s nodes dots rects (replicate (length marks) 0)) row (too_many n)) (sym many))

    -- the row begins with the ids and keeps its tail
    pub all_listed : {levels : ℕ} → s.live ≤ length row → levels ≡ D s.settings → (row' : List ℕ) (r : ℕ)
        → NodeListed nodes dots row 0 0 levels row' r → AllListed s nodes dots row row' (answered s.live)
    unfolding AllListed NodeListed all_rule all_ids cleared
    all_listed long deep row' r walked = λ rects marks x h.
        let many = number rects marks x h in
        let fits : length (all_ids x) ≤ length row = omega (arith, many) in
        let written : row' ≡ all_ids x ++ drop (length (all_ids x)) row =
        (walked x.tree (root rects marks x h deep)).written ∙ sets_whole row (all_ids x) fits in
        let words = h.words in
        rw (le-ltb (length row) (length (all_ids x)) (omega (arith, many))) (λ i. exit (words i) (written i) (answered (sym many i)))
