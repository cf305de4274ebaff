-- What a cleanup leaves, by its rule, whatever the dots.
use Rattle.std.specs.Prelude.{List, ℕ, ℤ, Option, Result}
use Rattle.model.specs.declared.State.{State}
use Rattle.model.specs.declared.refusal.Refusal.{Refusal}
use Rattle.model.specs.Answers.{yes_no_reply, yes_no_state}
use Rattle.model.specs.Calls.{cleanup_rule}
use Rattle.memory.specs.Lent.{holding}
use Rattle.tree.specs.Operations.{CarriedOut}

unfoldable pub CleanedUp : State → List ℕ → List ℕ → Result (Option State) Refusal → Type 0
CleanedUp s nodes nodes' r =
    (dots : List ℕ) (rects : List ℤ) → CarriedOut cleanup_rule s (holding nodes dots rects) (yes_no_state s r) (holding nodes' dots rects) (yes_no_reply r)
