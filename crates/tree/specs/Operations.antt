-- What the single operations, which make no check, ask and leave.
--     IsTree       the words are those of a tree, whatever the marks
--     HasTree, HasDots, HasRects   the nodes are, with some dots; nodes and dots, with some rectangles; the rectangles, with some nodes and dots
--     CarriedOut   what an operation that follows a rule leaves
use Rattle.std.specs.Prelude.{◌≡◌, List, [], ℕ, ℤ, length, replicate}
use Rattle.model.specs.declared.State.{State}
use Rattle.model.specs.Shapes.{Shape}
use Rattle.model.specs.Layout.{Holds}
use Rattle.model.specs.Calls.{Reply, Verdict, exit, carried_out}
use Rattle.memory.specs.Lent.{Held, holding, world_of}

pub record IsTree (s : State) (h : Held) : Type 0 where
  pub marks : List ℕ
  pub shape : Shape
  pub holds : Holds (world_of s h marks) shape

-- the nodes are those of a tree, with some dots
pub record HasTree (s : State) (nodes : List ℕ) : Type 0 where
  pub dots : List ℕ
  pub rects : List ℤ
  pub tree : IsTree s (holding nodes dots rects)

-- the nodes and the dots' ids, links and inks are those of a tree, with some rectangles
pub record HasDots (s : State) (nodes dots : List ℕ) : Type 0 where
  pub rects : List ℤ
  pub tree : IsTree s (holding nodes dots rects)

-- the rectangles are those of a tree, with some nodes, ids and inks
pub record HasRects (s : State) (rects : List ℤ) : Type 0 where
  pub nodes : List ℕ
  pub dots : List ℕ
  pub tree : IsTree s (holding nodes dots rects)

-- for every marks and every shape that the words hold
abbrev pub CarriedOut : {A : Type 0} → (Shape → Verdict ℕ A) → State → Held → State → Held → Reply A → Type 0
CarriedOut rule s h s' h' reply =
    (marks : List ℕ) (x : Shape) → Holds (world_of s h marks) x
    → exit (world_of s' h' (replicate (length marks) 0)) [] reply ≡ carried_out (world_of s h marks) [] (rule x)
