-- Whether a patch can be laid.
--     GoesTold     it is told for every marks and every shape that the words hold
use Rattle.std.specs.Prelude.{◌≡◌, List, Bool, true, ℕ, ◌↔◌}
use Rattle.model.specs.declared.State.{State}
use Rattle.model.specs.declared.patch.Patch.{Patch}
use Rattle.model.specs.Shapes.{Shape}
use Rattle.model.specs.Layout.{Holds}
use Rattle.model.specs.Patch.{PatchGoes}
use Rattle.memory.specs.Lent.{Held, world_of}

pub record GoesTold (s : State) (p : Patch) (h : Held) (goes : Bool) : Type 0 where
  pub exactly : (marks : List ℕ) (x : Shape) → Holds (world_of s h marks) x → (goes ≡ true) ↔ PatchGoes p x
