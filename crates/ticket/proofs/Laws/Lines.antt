-- What a later line's call is, where its definition says more than the line does.
--     call-query   a query asks for all inks
use Rattle.std.specs.Prelude.{◌≡◌, List, ℕ}
use Rattle.std.proofs.Common.{subst}
use Rattle.geometry.specs.declared.aabb.AABB.{AABB}
use Rattle.model.specs.Dots.{of_all_inks}
use Rattle.model.specs.declared.Window.{Window}
use Rattle.model.specs.Layout.{World}
use Rattle.lines.specs.Reading.{Output}
use Rattle.lines.specs.declared.line.Call.{Call}
use Rattle.lines.specs.declared.line.Call.TheVariants as call
use Rattle.ticket.specs.Ticket.{QueryLine, Called}

pub call-query : {w w' : World} {row row' : List ℕ} {out : Output} {c : Call} {r : AABB} {q : Window} → c ≡ call.Query r → q ≡ of_all_inks r
    → QueryLine w q row w' row' out → Called w row c w' row' out
call-query {w} {w'} {row} {row'} {out} e all h = rw e (record { answer = subst (λ (x : Window). QueryLine w x row w' row' out) all h })
