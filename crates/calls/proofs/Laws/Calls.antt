-- Each call obeys its statement: a refusal of the check is handed back, else the operation without the check says what is left.
--     insert-refused, insert-answered; ask-refused, ask-answered; place-refused, place-answered
--     remove-refused, remove-answered; cleanup-refused, cleanup-answered
--     query-refused, query-answered; collect_refused, collect_answered; all-refused, all-answered; leaves-refused, leaves-answered
--     references-refused, references-counted; grid_refused, grid_answered_lem
use Rattle.std.specs.Prelude.{◌≡◌, Bool, ℕ, ℤ, length, Result, Ok, Err, Option}
use Rattle.std.proofs.Common.{ap, ◌∙◌, subst}
use mathlib.Core.List.{List, []}
use Rattle.geometry.specs.declared.aabb.AABB.{AABB}
use Rattle.geometry.specs.Settings.{root_rect}
use Rattle.grid.specs.declared.grid.Grid.{Grid}
use Rattle.model.specs.declared.Dot.{Dot}
use Rattle.model.specs.declared.Window.{Window}
use Rattle.model.specs.declared.State.{State}
use Rattle.model.specs.declared.Ticket.{Ticket}
use Rattle.model.specs.declared.answers.Asked.{Asked}
use Rattle.model.specs.declared.answers.Found.{Found}
use Rattle.model.specs.Dots.{of_all_inks}
use Rattle.model.specs.Shapes.{references}
use Rattle.model.specs.Layout.{world, cleared}
use Rattle.model.specs.Answers.{yes_no_reply, yes_no_state}
use Rattle.model.specs.declared.refusal.Refusal.{Refusal}
use Rattle.model.specs.Refusals.{refusal_reply, refusal_number}
use Rattle.model.specs.Calls.{Reply, answered, exit, Query, CollectIds, All, Leaves, References, GridReport, Insert, Remove, Cleanup}
use Rattle.model.specs.Calls.{query_rule, all_rule, leaves_rule, references_rule, grid_rule, insert_rule, remove_rule, cleanup_rule}
use Rattle.model.specs.Tickets.{Ask, Place, ask_rule, place_rule}
use Rattle.model.proofs.Laws.Listing.{collect_query}
use Rattle.model.proofs.Laws.Memory.{holds-represented}
use Rattle.memory.specs.Lent.{holding}
use Rattle.tree_check.specs.Checks.{Checked}
use Rattle.tree.specs.Operations.{CarriedOut}
use Rattle.tree_query.specs.Answers.{Queried, LeavesListed}
use Rattle.tree_all.specs.Walks.{AllListed}
use Rattle.tree_grid.specs.Answers.{Reported}
use Rattle.tree_cleanup.specs.Answers.{CleanedUp}
use Rattle.calls.proofs.Laws.Pattern.{call-refused, call_carried}

module _ {s : State} {nodes dots : List ℕ} {rects : List ℤ} {marks marks' : List ℕ} {checked : Result (Unit {0}) Refusal}
    (c : Checked s (holding nodes dots rects) marks marks' (refusal_number checked)) where
  -- ---- the calls that change the tree, and the ask

  module _ (dot : Dot) where
    pub insert-refused : {e : Refusal} → checked ≡ Err e → Insert (world s nodes dots rects marks) dot (world s nodes dots rects marks') (refusal_reply e)
    unfolding Insert
    insert-refused ne = call-refused c (insert_rule dot) [] ne

    pub insert-answered : {u : Unit {0}} → checked ≡ Ok u → {s' : State} {nodes' dots' : List ℕ} {rects' : List ℤ} {reply : Reply ℕ}
        → CarriedOut (insert_rule dot) s (holding nodes dots rects) s' (holding nodes' dots' rects') reply
        → Insert (world s nodes dots rects marks) dot (world s' nodes' dots' rects' marks') reply
    unfolding Insert
    insert-answered z done = call_carried c (insert_rule dot) [] z done

    pub ask-refused : {e : Refusal} → checked ≡ Err e → Ask (world s nodes dots rects marks) dot (world s nodes dots rects marks') (refusal_reply e)
    unfolding Ask
    ask-refused ne = call-refused c (ask_rule dot) [] ne

    pub ask-answered : {u : Unit {0}} → checked ≡ Ok u → {reply : Reply Asked}
        → CarriedOut (ask_rule dot) s (holding nodes dots rects) s (holding nodes dots rects) reply
        → Ask (world s nodes dots rects marks) dot (world s nodes dots rects marks') reply
    unfolding Ask
    ask-answered z done = call_carried c (ask_rule dot) [] z done

  module _ (t : Ticket) where
    pub place-refused : {e : Refusal} → checked ≡ Err e → Place (world s nodes dots rects marks) t (world s nodes dots rects marks') (refusal_reply e)
    unfolding Place
    place-refused ne = call-refused c (place_rule t) [] ne

    pub place-answered : {u : Unit {0}} → checked ≡ Ok u → {s' : State} {nodes' dots' : List ℕ} {rects' : List ℤ} {reply : Reply ℕ}
        → CarriedOut (place_rule t) s (holding nodes dots rects) s' (holding nodes' dots' rects') reply
        → Place (world s nodes dots rects marks) t (world s' nodes' dots' rects' marks') reply
    unfolding Place
    place-answered z done = call_carried c (place_rule t) [] z done

  module _ (id : ℕ) (r : AABB) where
    pub remove-refused : {e : Refusal} → checked ≡ Err e → Remove (world s nodes dots rects marks) id r (world s nodes dots rects marks') (refusal_reply e)
    unfolding Remove
    remove-refused ne = call-refused c (remove_rule id r) [] ne

    pub remove-answered : {u : Unit {0}} → checked ≡ Ok u → {s' : State} {nodes' dots' : List ℕ} {rects' : List ℤ} {reply : Reply Bool}
        → CarriedOut (remove_rule id r) s (holding nodes dots rects) s' (holding nodes' dots' rects') reply
        → Remove (world s nodes dots rects marks) id r (world s' nodes' dots' rects' marks') reply
    unfolding Remove
    remove-answered z done = call_carried c (remove_rule id r) [] z done

  pub cleanup-refused : {e : Refusal} → checked ≡ Err e → Cleanup (world s nodes dots rects marks) (world s nodes dots rects marks') (refusal_reply e)
  unfolding Cleanup
  cleanup-refused ne = call-refused c cleanup_rule [] ne

  pub cleanup-answered : {u : Unit {0}} → checked ≡ Ok u → (nodes' : List ℕ) (r : Result (Option State) Refusal) → CleanedUp s nodes nodes' r
      → Cleanup (world s nodes dots rects marks) (world (yes_no_state s r) nodes' dots rects marks') (yes_no_reply r)
  unfolding Cleanup CleanedUp
  cleanup-answered z nodes' r done = call_carried c cleanup_rule [] z (done dots rects)

  -- ---- the calls that read it

  module _ (q : Window) (row : List ℕ) where
    pub query-refused : {e : Refusal} → checked ≡ Err e → Query (world s nodes dots rects marks) q row (world s nodes dots rects marks') row (refusal_reply e)
    unfolding Query
    query-refused ne = call-refused c (query_rule q (length row)) row ne

    pub query-answered : {u : Unit {0}} → checked ≡ Ok u → (row' : List ℕ) (reply : Reply Found) → Queried s q (holding nodes dots rects) row row' reply
        → Query (world s nodes dots rects marks) q row (world s nodes dots rects marks') row' reply
    unfolding Query Queried
    query-answered z row' reply done = call_carried c (query_rule q (length row)) row z done

  module _ (row : List ℕ) where
    pub collect_refused : {e : Refusal} → checked ≡ Err e
        → CollectIds (world s nodes dots rects marks) row (world s nodes dots rects marks') row (refusal_reply e)
    collect_refused ne = (collect_query _ _ _ _ _).1 (query-refused (of_all_inks (root_rect s.settings)) row ne)

    pub collect_answered : {u : Unit {0}} → checked ≡ Ok u → {r : AABB} {q : Window} → r ≡ root_rect s.settings → q ≡ of_all_inks r
        → (row' : List ℕ) (reply : Reply Found) → Queried s q (holding nodes dots rects) row row' reply
        → CollectIds (world s nodes dots rects marks) row (world s nodes dots rects marks') row' reply
    collect_answered z e f row' reply done =
        (collect_query _ _ _ _ _).1
        (query-answered (of_all_inks (root_rect s.settings)) row z row' reply
        (subst (λ (q : Window). Queried s q (holding nodes dots rects) row row' reply) (f ∙ ap of_all_inks e) done))

    pub all-refused : {e : Refusal} → checked ≡ Err e → All (world s nodes dots rects marks) row (world s nodes dots rects marks') row (refusal_reply e)
    unfolding All
    all-refused ne = call-refused c (all_rule (length row)) row ne

    pub all-answered : {u : Unit {0}} → checked ≡ Ok u → (row' : List ℕ) (reply : Reply ℕ) → AllListed s nodes dots row row' reply
        → All (world s nodes dots rects marks) row (world s nodes dots rects marks') row' reply
    unfolding All AllListed
    all-answered z row' reply done = call_carried c (all_rule (length row)) row z (done rects)

  module _ (row : List ℤ) where
    pub leaves-refused : {e : Refusal} → checked ≡ Err e → Leaves (world s nodes dots rects marks) row (world s nodes dots rects marks') row (refusal_reply e)
    unfolding Leaves
    leaves-refused ne = call-refused c (leaves_rule (length row)) row ne

    pub leaves-answered : {u : Unit {0}} → checked ≡ Ok u → (row' : List ℤ) (reply : Reply ℕ) → LeavesListed s nodes row row' reply
        → Leaves (world s nodes dots rects marks) row (world s nodes dots rects marks') row' reply
    unfolding Leaves LeavesListed
    leaves-answered z row' reply done = call_carried c (leaves_rule (length row)) row z (done dots rects)

  module _ (g : Grid) (row : List ℕ) where
    pub grid_refused : {e : Refusal} → checked ≡ Err e
        → GridReport (world s nodes dots rects marks) g row (world s nodes dots rects marks') row (refusal_reply e)
    unfolding GridReport
    grid_refused ne = call-refused c (grid_rule g (length row)) row ne

    pub grid_answered_lem : {u : Unit {0}} → checked ≡ Ok u → (row' : List ℕ) (reply : Reply ℕ) → Reported s rects g row row' reply
        → GridReport (world s nodes dots rects marks) g row (world s nodes dots rects marks') row' reply
    unfolding GridReport Reported
    grid_answered_lem z row' reply done = call_carried c (grid_rule g (length row)) row z (done nodes dots)

  pub references-refused : {e : Refusal} → checked ≡ Err e → References (world s nodes dots rects marks) (world s nodes dots rects marks') (refusal_reply e)
  unfolding References
  references-refused ne = call-refused c references_rule [] ne

  -- the dots in all leaves are the live number
  pub references-counted : {u : Unit {0}} → checked ≡ Ok u → References (world s nodes dots rects marks) (world s nodes dots rects marks') (answered s.live)
  unfolding References references_rule references cleared
  references-counted z =
      call_carried c references_rule [] z
      (λ m x h.
      let live = (holds-represented (world s nodes dots rects m) x h).live in
      λ i. exit (h.words i) [] (answered (live i)))
