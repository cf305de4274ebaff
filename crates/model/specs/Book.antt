-- What is promised of every list of calls (§12), over exactly the statements of Calls: a run is a list of calls with their replies, each world related to
-- the next by the call's own statement.
--     Event        a call with its arguments, its row and its reply
--     Run          a list of events from one world to another
--     book         the ledger of §12.3: the live dots, told arguments, accepted and yes alone
--     Distinct     no accepted insert or placing, and no dot of an accepted patch, names an id then live
--     Quiet        no accepted insert or placing, no patch that laid a dot, no remove that said yes
--     calls, Few   how many calls a list has; fewer than 2^64
--     Promise, Demand3     THE STATEMENT: what holds after the list
--     TicketsHold  THE STATEMENT on tickets: a placing after the list by a ticket of an ask in it
use Rattle.std.specs.Prelude.{◌≡◌, ◌⊎◌, List, [], ◌∷◌, ◌++◌, Bool, true, false, cond, ℕ, ◌+◌, ◌*◌, ◌≤◌, ◌<◌, eqb, length, take}
use Rattle.geometry.specs.declared.aabb.AABB.{AABB}
use Rattle.geometry.specs.declared.settings.Settings.{Settings}
use Rattle.model.specs.Sums.{sum_over}
use Rattle.model.specs.Lists.{count, filter}
use Rattle.geometry.specs.Settings.{D}
use Rattle.model.specs.declared.Dot.{Dot}
use Rattle.model.specs.declared.Window.{Window}
use Rattle.model.specs.declared.Ticket.{Ticket}
use Rattle.model.specs.declared.patch.Patch.{Patch}
use Rattle.model.specs.Dots.{is_hit, any_dot}
use Rattle.model.specs.Layout.{World}
use Rattle.model.specs.declared.answers.Asked.{Asked}
use Rattle.model.specs.declared.answers.Found.{Found}
use Rattle.model.specs.Calls.{Reply, refused, too_many, answered, Make, Insert, Remove, Cleanup, Query, All}
use Rattle.model.specs.Patch.{patch_dots, LayPatch}
use Rattle.model.specs.Tickets.{Ask, Place}

-- ---- calls and their replies

pub data Event : Type 0 where
  insert : Dot → Reply ℕ → Event
  remove : ℕ → AABB → Reply Bool → Event
  cleanup : Reply Bool → Event
  query : Window → List ℕ → List ℕ → Reply Found → Event
  all : List ℕ → List ℕ → Reply ℕ → Event
  patch : Patch → Reply ℕ → Event
  ask : Dot → Reply Asked → Event
  place : Ticket → Reply ℕ → Event

-- §12.1: the event can happen: the call, given the world w and its arguments, may leave w' and give this reply
abbrev pub Happens : World → Event → World → Type 0
Happens w (insert dot reply) w' = Insert w dot w' reply
Happens w (remove id r reply) w' = Remove w id r w' reply
Happens w (cleanup reply) w' = Cleanup w w' reply
Happens w (query q row row' reply) w' = Query w q row w' row' reply
Happens w (all row row' reply) w' = All w row w' row' reply
Happens w (patch p reply) w' = LayPatch w p w' reply
Happens w (ask dot reply) w' = Ask w dot w' reply
Happens w (place t reply) w' = Place w t w' reply

-- §12.2: each call gets what the one before left
abbrev pub Run : World → List Event → World → Type 0
Run w [] w' = w ≡ w'
Run w (e ∷ es) w' = (v : World) × Happens w e v × Run v es w'

-- §12.12: how many calls a list has, a patch counted by its dots
abbrev pub calls_in : Event → ℕ
calls_in (insert dot reply) = 1
calls_in (remove id r reply) = 1
calls_in (cleanup reply) = 1
calls_in (query q row row' reply) = 1
calls_in (all row row' reply) = 1
calls_in (patch p reply) = length (patch_dots p)
calls_in (ask dot reply) = 1
calls_in (place t reply) = 1

abbrev pub calls : List Event → ℕ
calls es = sum_over calls_in es

-- §12.12: fewer than 2^64
abbrev pub Few : ℕ → Type 0
Few n = n < 18446744073709551616

-- ---- the book

-- §12.4: the two facts of an answer that the book is told
abbrev pub accepted : {A : Type 0} → Reply A → Bool
accepted (refused k) = false
accepted (too_many n) = false
accepted (answered a) = true

abbrev pub said_yes : Reply Bool → Bool
said_yes (refused k) = false
said_yes (too_many n) = false
said_yes (answered yes?) = yes?

-- §12.3: the book without the entries that have the id
abbrev pub without : ℕ → List Dot → List Dot
without id [] = []
without id (d ∷ ds) = cond (eqb id d.id) (without id ds) (d ∷ without id ds)

-- §12.3, §12.4: the book after an event. An entry, an id with a rectangle and an ink, is a dot.
abbrev pub entered : List Dot → Event → List Dot
entered b (insert dot reply) = cond (accepted reply) (dot ∷ b) b
entered b (remove id r reply) = cond (said_yes reply) (without id b) b
entered b (cleanup reply) = b
entered b (query q row row' reply) = b
entered b (all row row' reply) = b
entered b (patch p reply) = cond (accepted reply) (patch_dots p ++ b) b
entered b (ask dot reply) = b
entered b (place t reply) = cond (accepted reply) (t.dot ∷ b) b

abbrev pub book_after : List Dot → List Event → List Dot
book_after b [] = b
book_after b (e ∷ es) = book_after (entered b e) es

-- §12.3: the book of a list is the ledger of its live dots; it starts empty
abbrev pub book : List Event → List Dot
book es = book_after [] es

-- the book has the dot as an entry
abbrev pub Has : Dot → List Dot → Type 0
Has d [] = ⊥
Has d (e ∷ es) = (e ≡ d) ⊎ Has d es

-- §12.5: n is `length b`
abbrev pub Live : ℕ → List Dot → Type 0
Live id b = (d : Dot) × Has d b × (d.id ≡ id)

-- §12.6, §20.6, §21.5: an accepted insert or placing has an id that is not live then; so has each dot of an accepted patch
abbrev pub Fine : List Dot → Event → Type 0
Fine b (insert dot reply) = accepted reply ≡ true → ¬ Live dot.id b
Fine b (remove id r reply) = Unit {0}
Fine b (cleanup reply) = Unit {0}
Fine b (query q row row' reply) = Unit {0}
Fine b (all row row' reply) = Unit {0}
Fine b (patch p reply) = accepted reply ≡ true → (d : Dot) → Has d (patch_dots p) → ¬ Live d.id b
Fine b (ask dot reply) = Unit {0}
Fine b (place t reply) = accepted reply ≡ true → ¬ Live t.dot.id b

abbrev pub DistinctFrom : List Dot → List Event → Type 0
DistinctFrom b [] = Unit {0}
DistinctFrom b (e ∷ es) = Fine b e × DistinctFrom (entered b e) es

abbrev pub Distinct : List Event → Type 0
Distinct es = DistinctFrom [] es

-- ---- after the list

-- §20.4: how many dots a patch laid
abbrev pub laid_by : Reply ℕ → ℕ
laid_by (refused k) = 0
laid_by (too_many n) = 0
laid_by (answered number) = number

-- §12.10, §20.6, §21.5: no accepted insert or placing, no remove that says yes; each dot of a patch counts as an insert
abbrev pub Still : Event → Type 0
Still (insert dot reply) = accepted reply ≡ false
Still (remove id r reply) = said_yes reply ≡ false
Still (cleanup reply) = Unit {0}
Still (query q row row' reply) = Unit {0}
Still (all row row' reply) = Unit {0}
Still (patch p reply) = laid_by reply ≡ 0
Still (ask dot reply) = Unit {0}
Still (place t reply) = accepted reply ≡ false

abbrev pub Quiet : List Event → Type 0
Quiet [] = Unit {0}
Quiet (e ∷ es) = Still e × Quiet es

abbrev pub cleanups : List Event → ℕ
cleanups [] = 0
cleanups (insert dot reply ∷ es) = cleanups es
cleanups (remove id r reply ∷ es) = cleanups es
cleanups (cleanup reply ∷ es) = 1 + cleanups es
cleanups (query q row row' reply ∷ es) = cleanups es
cleanups (all row row' reply ∷ es) = cleanups es
cleanups (patch p reply ∷ es) = cleanups es
cleanups (ask dot reply ∷ es) = cleanups es
cleanups (place t reply ∷ es) = cleanups es

-- ---- the demand

-- §12.7, §12.13: the ids of all dots of the book that pass the test, no others, none twice
pub record Exactly (test : Dot → Bool) (b : List Dot) (listed : List ℕ) : Type 0 where
  pub once : (id : ℕ) → count id listed ≤ 1
  pub only_those : (id : ℕ) → 1 ≤ count id listed → (d : Dot) × Has d b × (d.id ≡ id) × (test d ≡ true)
  pub all_those : (d : Dot) → Has d b → test d ≡ true → 1 ≤ count d.id listed

-- the dots of the book that a query with q lists: those of its inks that intersect
abbrev pub meeting : Window → List Dot → List Dot
meeting q b = filter (is_hit q) b

-- What is promised of a world w after a list of `made` calls whose book is b. Where refusal 16 could be in the way, the calls are few (§12.12).
pub record Promise (s : Settings) (made : ℕ) (w : World) (b : List Dot) : Type 0 where
  -- §12.7: the row has a word for each id to be listed, and then begins with the ids, as many as the answer reports
  pub lists : (q : Window) (row row' : List ℕ) (w' : World) (reply : Reply Found) → Query w q row w' row' reply → length (meeting q b) ≤ length row
      → (a : Found) × (reply ≡ answered a) × Exactly (is_hit q) b (take a.hits row')
  -- §12.13: the row has a word for each live dot, and then begins with their ids
  pub lists_all : (row row' : List ℕ) (w' : World) (reply : Reply ℕ) → All w row w' row' reply → length b ≤ length row
      → (reply ≡ answered (length b)) × Exactly any_dot b (take (length b) row')
  -- §12.8: a live id, by the rectangle of its insert: yes
  pub removes_live : (d : Dot) (w' : World) (reply : Reply Bool) → Remove w d.id d.rect w' reply → Has d b → Few (made + 1)
      → reply ≡ answered true
  -- §12.9: any other id, by any rectangle: no
  pub keeps_others : (id : ℕ) (r : AABB) (w' : World) (reply : Reply Bool) → Remove w id r w' reply → ¬ Live id b → reply ≡ answered false
  -- §12.10: a cleanup that D cleanups came before says no
  pub cleanups_end : (es : List Event) (v w' : World) (reply : Reply Bool) → Run w es v → Quiet es → D s ≤ cleanups es → Cleanup v w' reply
      → Few (made + calls es + 1) → reply ≡ answered false
  -- §12.11: once a cleanup has said no
  pub opens_few : (es fs : List Event) (v w' : World) → Run w (es ++ cleanup (answered false) ∷ fs) v → Quiet es → Quiet fs
      → (q : Window) (row row' : List ℕ) (a : Found) → Query v q row w' row' (answered a) → a.opened ≤ 1 + 5 * D s * length b

-- §12.1, §12.6: every list from a tree that an accepted make left fresh, in any lent memory
unfoldable pub Demand3 : Type 0
Demand3 = (lent : World) (s : Settings) (start : World) → Make lent s start (answered tt)
    → (es : List Event) (w : World) → Run start es w → Distinct es → Promise s (calls es) w (book es)

-- ---- tickets

-- the event is an ask that told n splits and handed back the ticket t
abbrev pub Tells : Ticket → ℕ → Event → Type 0
Tells t n (insert dot reply) = ⊥
Tells t n (remove id r reply) = ⊥
Tells t n (cleanup reply) = ⊥
Tells t n (query q row row' reply) = ⊥
Tells t n (all row row' reply) = ⊥
Tells t n (patch p reply) = ⊥
Tells t n (ask dot reply) = reply ≡ answered (record { splits = n; ticket = t })
Tells t n (place u reply) = ⊥

-- an ask of the list did
abbrev pub Gave : Ticket → ℕ → List Event → Type 0
Gave t n [] = ⊥
Gave t n (e ∷ es) = Tells t n e ⊎ Gave t n es

-- §21.6: a placing after the list by such a ticket is refused 15, or it is an accepted insert of the ticket's dot with the splits that were told
unfoldable pub TicketsHold : Type 0
TicketsHold = (lent : World) (s : Settings) (start : World) → Make lent s start (answered tt)
    → (es : List Event) (w : World) → Run start es w
    → (t : Ticket) (n : ℕ) → Gave t n es → (w' : World) (reply : Reply ℕ) → Place w t w' reply
    → (reply ≡ refused 15) ⊎ ((reply ≡ answered n) × Insert w t.dot w' (answered n))
