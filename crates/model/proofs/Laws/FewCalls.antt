-- §12.12 over whole lists: what is promised of removes and cleanups, where the list with the calls made after it has fewer than 2^64 calls.
--     remove-few   a remove of a live id, made after the list
--     cleanup-few  a cleanup that D came before, made after the list and other quiet calls
use Rattle.std.specs.Prelude.{◌≡◌, List, [], ◌∷◌, ◌++◌, Bool, true, false, ◌≤◌}
use Rattle.std.proofs.Common.{arith}
use Rattle.geometry.specs.declared.settings.Settings.{Settings}
use Rattle.geometry.specs.Settings.{D}
use Rattle.model.specs.declared.Dot.{Dot}
use Rattle.model.specs.Layout.{World}
use Rattle.model.specs.Calls.{Reply, answered, Make, Remove, Cleanup}
use Rattle.model.specs.Book.{Event, remove, cleanup, Run, calls_in, calls, Few, book, Has, Distinct, Quiet, cleanups, Demand3}
use Rattle.model.proofs.Laws.Sums.{sum_over-append}
use Rattle.model.proofs.Laws.Demand.{demand_3}

module _ (lent : World) (s : Settings) (start : World) (m : Make lent s start (answered tt)) (es : List Event) (w : World) (run : Run start es w)
    (distinct : Distinct es) where
  pub remove-few : (d : Dot) (w' : World) (reply : Reply Bool) → Remove w d.id d.rect w' reply → Has d (book es)
      → Few (calls (es ++ remove d.id d.rect reply ∷ [])) → reply ≡ answered true
  unfolding Demand3
  remove-few d w' reply call has few =
      (demand_3 lent s start m es w run distinct).removes_live d w' reply call has
      (omega (arith, few, sum_over-append calls_in es (remove d.id d.rect reply ∷ [])))

  pub cleanup-few : (fs : List Event) (v w' : World) (reply : Reply Bool) → Run w fs v → Quiet fs → D s ≤ cleanups fs → Cleanup v w' reply
      → Few (calls (es ++ (fs ++ cleanup reply ∷ []))) → reply ≡ answered false
  unfolding Demand3
  cleanup-few fs v w' reply after quiet enough call few =
      (demand_3 lent s start m es w run distinct).cleanups_end fs v w' reply after quiet enough call
      (omega (arith, few, sum_over-append calls_in es (fs ++ cleanup reply ∷ []), sum_over-append calls_in fs (cleanup reply ∷ [])))
