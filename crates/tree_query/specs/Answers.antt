-- What the reading calls leave, for every marks and every shape that the words hold.
--     Met, Counted what the walk of the whole tree lists and counts (§8.4)
--     Queried      what a query leaves, by its rule
--     LeavesMet, LeavesListed  the same of the leaves (§9.2), for which the nodes are enough
use Rattle.std.specs.Prelude.{◌≡◌, List, ℕ, ℤ, length, replicate}
use Rattle.model.specs.declared.Window.{Window}
use Rattle.model.specs.declared.State.{State}
use Rattle.model.specs.Shapes.{Shape, listed, leaves}
use Rattle.model.specs.Layout.{world, Holds}
use Rattle.model.specs.declared.answers.Found.{Found}
use Rattle.model.specs.Calls.{Reply, exit, carried_out, found_in, query_rule, leaves_rule}
use Rattle.std.proofs.lemmas.List.Edits.{sets}
use Rattle.memory.specs.Lent.{Held, world_of}

unfoldable pub Met : State → Window → Held → List ℕ → List ℕ → Found → Type 0
Met s q h row row' r =
    (marks : List ℕ) (x : Shape) → Holds (world_of s h marks) x → (r ≡ found_in q x) × (row' ≡ sets row 0 (listed q x))

unfoldable pub Counted : State → Window → Held → Found → Type 0
Counted s q h r = (marks : List ℕ) (x : Shape) → Holds (world_of s h marks) x → r ≡ found_in q x

unfoldable pub Queried : State → Window → Held → List ℕ → List ℕ → Reply Found → Type 0
Queried s q h row row' reply =
    (marks : List ℕ) (x : Shape) → Holds (world_of s h marks) x
    → exit (world_of s h (replicate (length marks) 0)) row' reply ≡ carried_out (world_of s h marks) row (query_rule q (length row) x)

-- ---- leaves

unfoldable pub LeavesMet : State → List ℕ → List ℤ → List ℤ → ℕ → Type 0
LeavesMet s nodes row row' r =
    (dots : List ℕ) (rects : List ℤ) (marks : List ℕ) (x : Shape) → Holds (world s nodes dots rects marks) x
    → (r ≡ length (leaves x)) × (row' ≡ sets row 0 (leaves x))

unfoldable pub LeavesListed : State → List ℕ → List ℤ → List ℤ → Reply ℕ → Type 0
LeavesListed s nodes row row' reply =
    (dots : List ℕ) (rects : List ℤ) (marks : List ℕ) (x : Shape) → Holds (world s nodes dots rects marks) x
    → exit (world s nodes dots rects (replicate (length marks) 0)) row' reply ≡ carried_out (world s nodes dots rects marks) row (leaves_rule (length row) x)
