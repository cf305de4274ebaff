-- What each exported call leaves in the rows that it is lent, by the model's statement of the call (§18).
--     Lent         the rows: state, nodes, dots, rectangles, marks, answer
--     Exported     THE PATTERN: refusal 1 where the host's own rows don't fit, else the call
--     Inserts, Asks, Places, Removes, CleansUp, Queries, CollectsIds, ListsAll, ListsLeaves, CountsDots, Reports, Batches, LaysPatch, Makes, Checks
use Rattle.std.specs.Prelude.{◌≡◌, List, [], Bool, true, false, ℕ, ℤ, length, Result}
use Rattle.geometry.specs.declared.aabb.AABB.{AABB}
use Rattle.grid.specs.declared.grid.Grid.{Grid}
use Rattle.model.specs.declared.Dot.{Dot}
use Rattle.model.specs.declared.State.{State}
use Rattle.model.specs.declared.patch.Patch.{Patch}
use Rattle.model.specs.declared.Window.{Window}
use Rattle.model.specs.Layout.{World, world}
use Rattle.model.specs.declared.answers.Asked.{Asked}
use Rattle.model.specs.declared.answers.Found.{Found}
use Rattle.model.specs.Calls.{Reply}
use Rattle.model.specs.Calls.{Insert, Remove, Cleanup, Query, CollectIds, All, Leaves, References, GridReport, Make, Batch}
use Rattle.model.specs.Patch.{patch_fits, LayPatch}
use Rattle.model.specs.Tickets.{Ask, Place}
use Rattle.model.specs.declared.refusal.Refusal.{Refusal}
use Rattle.model.specs.Answers.{make_reply, make_state}
use Rattle.memory.specs.Lent.{holding}
use Rattle.tree_check.specs.Checks.{Checked}
use Rattle.host_rows.specs.Rows.{settings_in, state_in, rows_fit}
use Rattle.host_rows.specs.Tickets.{ticket_in, ticket_row, ticket_fits}
use Rattle.host_rows.specs.Records.{records_in, batch_fits}
use Rattle.host_rows.specs.Answers.{result_of, state_row, number, yes_or_no, splits_told, hits_opened, wide, Out, made_row}

pub record Lent : Type 0 where
  pub state : List ℕ
  pub nodes : List ℕ
  pub dots : List ℕ
  pub rects : List ℤ
  pub marks : List ℕ
  pub answer : List ℕ

abbrev pub lent : List ℕ → List ℕ → List ℕ → List ℤ → List ℕ → List ℕ → Lent
lent state nodes dots rects marks answer = record { state = state; nodes = nodes; dots = dots; rects = rects; marks = marks; answer = answer }

abbrev pub world_of : State → Lent → World
world_of s l = world s l.nodes l.dots l.rects l.marks

-- says: the call, from the world and its row of answers before to those after, with its reply
pub record Exported {B A : Type 0} (fits : Bool) (words : A → List ℕ) (says : World → List B → World → List B → Reply A → Type 0)
    (l : Lent) (row : List B) (l' : Lent) (row' : List B) (result : ℕ) : Type 0 where
  pub other_length : fits ≡ false → (l' ≡ l) × (row' ≡ row) × (result ≡ 1)
  pub carried_out : fits ≡ true
      → (s : State) × (reply : Reply A) × says (world_of (state_in l.state) l) row (world_of s l') row' reply
      × (l'.state ≡ state_row s l.state reply) × Out words reply l.answer l'.answer result

-- ---- the calls

abbrev pub Inserts : Dot → Lent → Lent → ℕ → Type 0
Inserts dot l l' result =
    Exported (rows_fit l.state l.answer) number (λ (w : World) (row : List ℕ) (w' : World) (row' : List ℕ)
    (reply : Reply ℕ). Insert w dot w' reply) l [] l' [] result

abbrev pub Removes : ℕ → AABB → Lent → Lent → ℕ → Type 0
Removes id r l l' result =
    Exported (rows_fit l.state l.answer) yes_or_no (λ (w : World) (row : List ℕ) (w' : World) (row' : List ℕ)
    (reply : Reply Bool). Remove w id r w' reply) l [] l' [] result

abbrev pub CleansUp : Lent → Lent → ℕ → Type 0
CleansUp l l' result =
    Exported (rows_fit l.state l.answer) yes_or_no (λ (w : World) (row : List ℕ) (w' : World) (row' : List ℕ)
    (reply : Reply Bool). Cleanup w w' reply) l [] l' [] result

-- the row is the ticket's
abbrev pub Asks : Dot → Lent → List ℕ → Lent → List ℕ → ℕ → Type 0
Asks dot l row l' row' result =
    Exported (ticket_fits l.state l.answer row) splits_told (λ (w : World) (ticket : List ℕ) (w' : World) (ticket' : List ℕ)
    (reply : Reply Asked). Ask w dot w' reply × (ticket' ≡ ticket_row reply ticket)) l row l' row' result

abbrev pub Places : List ℕ → Lent → Lent → ℕ → Type 0
Places ticket l l' result =
    Exported (ticket_fits l.state l.answer ticket) number (λ (w : World) (row : List ℕ) (w' : World) (row' : List ℕ)
    (reply : Reply ℕ). Place w (ticket_in ticket) w' reply) l [] l' [] result

abbrev pub CountsDots : Lent → Lent → ℕ → Type 0
CountsDots l l' result =
    Exported (rows_fit l.state l.answer) number (λ (w : World) (row : List ℕ) (w' : World) (row' : List ℕ)
    (reply : Reply ℕ). References w w' reply) l [] l' [] result

abbrev pub Queries : Window → Lent → List ℕ → Lent → List ℕ → ℕ → Type 0
Queries q l row l' row' result =
    Exported (rows_fit l.state l.answer) hits_opened (λ (w : World) (ids : List ℕ) (w' : World) (ids' : List ℕ)
    (reply : Reply Found). Query w q ids w' ids' reply) l row l' row' result

abbrev pub CollectsIds : Lent → List ℕ → Lent → List ℕ → ℕ → Type 0
CollectsIds l row l' row' result = Exported (rows_fit l.state l.answer) hits_opened CollectIds l row l' row' result

abbrev pub ListsAll : Lent → List ℕ → Lent → List ℕ → ℕ → Type 0
ListsAll l row l' row' result = Exported (rows_fit l.state l.answer) number All l row l' row' result

abbrev pub ListsLeaves : Lent → List ℤ → Lent → List ℤ → ℕ → Type 0
ListsLeaves l row l' row' result = Exported (rows_fit l.state l.answer) number Leaves l row l' row' result

-- the row is the counts'
abbrev pub Reports : Grid → Lent → List ℕ → Lent → List ℕ → ℕ → Type 0
Reports g l row l' row' result =
    Exported (rows_fit l.state l.answer) wide (λ (w : World) (counts : List ℕ) (w' : World) (counts' : List ℕ)
    (reply : Reply ℕ). GridReport w g counts w' counts' reply) l row l' row' result

-- the row is the answers'; the batch has no answer row beside it
abbrev pub Batches : List ℕ → Lent → List ℕ → Lent → List ℕ → ℕ → Type 0
Batches records l answers l' answers' result =
    Exported (batch_fits l.state records) (λ (done : Unit {0}). [])
    (λ (w : World) (row : List ℕ) (w' : World) (row' : List ℕ) (reply : Reply (Unit {0})). Batch w (records_in records) row w' row' reply) l answers l'
    answers' result

-- refusal 13 comes ahead of 1 (§20.5)
pub record LaysPatch (p : Patch) (l l' : Lent) (result : ℕ) : Type 0 where
  pub bad_patch : patch_fits p ≡ false → (l' ≡ l) × (result ≡ 13)
  pub good_patch : patch_fits p ≡ true
      → Exported (rows_fit l.state l.answer) number (λ (w : World) (row : List ℕ) (w' : World) (row' : List ℕ)
      (reply : Reply ℕ). LayPatch w p w' reply) l [] l' [] result

-- ---- make, which has no answer row, and the check alone

pub record Makes (row nodes dots : List ℕ) (rects : List ℤ) (marks row' nodes' dots' : List ℕ) (rects' : List ℤ) (marks' : List ℕ) (result : ℕ) : Type 0 where
  pub other_length : (length row ≡ 12 → ⊥) → (result ≡ 1) × (row' ≡ row) × (nodes' ≡ nodes) × (dots' ≡ dots) × (rects' ≡ rects) × (marks' ≡ marks)
  pub carried_out : length row ≡ 12
      → (m : Result State Refusal) × ((before : State) → Make (world before nodes dots rects marks) (settings_in row)
      (world (make_state before m) nodes' dots' rects' marks') (make_reply m))
      × (result ≡ result_of (make_reply m)) × (row' ≡ made_row m row)

pub record Checks (row nodes dots : List ℕ) (rects : List ℤ) (marks marks' : List ℕ) (result : ℕ) : Type 0 where
  pub other_length : (length row ≡ 12 → ⊥) → (result ≡ 1) × (marks' ≡ marks)
  pub carried_out : length row ≡ 12 → Checked (state_in row) (holding nodes dots rects) marks marks' result
