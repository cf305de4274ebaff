-- Where an insert ends, told before anything is stored.
--     Landed       of a shape: the rule's refusal, or what the insert begins with
--     Lands        of every shape that the words hold
use Rattle.std.specs.Prelude.{◌≡◌, List, [], ℕ, Result, Ok, Err}
use Rattle.model.specs.declared.State.{State}
use Rattle.model.specs.declared.Dot.{Dot}
use Rattle.model.specs.Shapes.{Shape, inserted}
use Rattle.model.specs.Layout.{Holds}
use Rattle.model.specs.declared.refusal.Refusal.{Refusal}
use Rattle.model.specs.Calls.{accept, insert_rule}
use Rattle.model.specs.Refusals.{refuses}
use Rattle.memory.specs.Lent.{Held, world_of}
use Rattle.tree_insert.specs.declared.landing.Landing.{Landing}
use Rattle.tree_insert.specs.InsertAt.{Starts}

abbrev pub Landed : State → Dot → Held → List ℕ → Shape → Result Landing Refusal → Type 0
Landed s dot h marks x (Err e) = insert_rule dot x ≡ refuses e
Landed s dot h marks x (Ok l) =
    Starts s dot h l.leaf l.splits marks x × (insert_rule dot x ≡ accept (inserted dot x) [] l.splits)

abbrev pub Lands : State → Dot → Held → Result Landing Refusal → Type 0
Lands s dot h r =
    (marks : List ℕ) (x : Shape) → Holds (world_of s h marks) x → Landed s dot h marks x r
