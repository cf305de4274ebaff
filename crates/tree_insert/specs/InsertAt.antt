-- The insert at the leaf that its dot routes to.
--     Starts, CanInsert    what an insert that is not refused begins with
use Rattle.std.specs.Prelude.{◌≡◌, List, true, ℕ, ◌≤◌, length}
use Rattle.model.specs.declared.State.{State}
use Rattle.model.specs.declared.Dot.{Dot}
use Rattle.model.specs.Dots.{acceptable_dot}
use Rattle.model.specs.Shapes.{Shape, splits_needed}
use Rattle.model.specs.Layout.{Holds}
use Rattle.model.specs.Calls.{can_count}
use Rattle.memory.specs.Lent.{Held, world_of}
use Rattle.tree.specs.declared.find.Leaf.{Leaf}
use Rattle.tree.specs.Routes.{LeadsTo}

pub record Starts (s : State) (dot : Dot) (h : Held) (l : Leaf) (splits : ℕ) (marks : List ℕ) (x : Shape) : Type 0 where
  pub holds : Holds (world_of s h marks) x
  pub leads : LeadsTo s.settings h.nodes dot.rect l
  pub fits : acceptable_dot x.settings dot ≡ true
  pub room : 1 ≤ length x.free_places
  pub needed : splits ≡ splits_needed dot x
  pub enough : splits ≤ length x.free_groups
  pub counts : can_count s 1 ≡ true

pub record CanInsert (s : State) (dot : Dot) (h : Held) (l : Leaf) (splits : ℕ) : Type 0 where
  pub marks : List ℕ
  pub shape : Shape
  pub starts : Starts s dot h l splits marks shape
