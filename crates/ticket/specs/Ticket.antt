-- The answer to a later line (§13.6): the call that the line is, and its answer's line.
--     refusal_line, reply_line       a refusal and a reply as a line
--     InsertLine, RemoveLine, CleanupLine, QueryLine       a call and the line of its reply
--     plain_dot     what an insert without an ink puts in
--     CallLine, Called             a call and its line, by the call
--     Answered                     a later line
use Rattle.std.specs.Prelude.{◌≡◌, List, [], ◌∷◌, Bool, ℕ, take, Option, Some, None}
use Rattle.geometry.specs.declared.aabb.AABB.{AABB}
use Rattle.model.specs.declared.Dot.{Dot}
use Rattle.model.specs.declared.Window.{Window}
use Rattle.model.specs.Dots.{of_all_inks}
use Rattle.model.specs.Layout.{World}
use Rattle.model.specs.declared.answers.Found.{Found}
use Rattle.model.specs.Calls.{Reply, refused, too_many, answered, yes_no, Insert, Remove, Cleanup, Query}
use Rattle.lines.specs.Text.{answer}
use Rattle.lines.specs.Reading.{Output, Written}
use Rattle.lines.specs.Lines.{LineOf}
use Rattle.lines.specs.declared.line.Call.{Call}
use Rattle.lines.specs.declared.line.Call.TheVariants as call

-- §13.6: `E,` and the refusal
abbrev pub refusal_line : ℕ → List ℕ
refusal_line k = answer 69 (k ∷ [])

abbrev pub reply_line : {A : Type 0} → (A → List ℕ) → Reply A → List ℕ
reply_line f (refused k) = refusal_line k
reply_line f (too_many n) = refusal_line 8
reply_line f (answered a) = f a

-- §13.6: `I,id,splits`
pub record InsertLine (w : World) (dot : Dot) (w' : World) (out : Output) : Type 0 where
  pub reply : Reply ℕ
  pub call : Insert w dot w' reply
  pub line : Written out (reply_line (λ splits. answer 73 (dot.id ∷ splits ∷ [])) reply)

-- §13.6: `D,id,1` or `D,id,0`
pub record RemoveLine (w : World) (id : ℕ) (r : AABB) (w' : World) (out : Output) : Type 0 where
  pub reply : Reply Bool
  pub call : Remove w id r w' reply
  pub line : Written out (reply_line (λ yes?. answer 68 (id ∷ yes_no yes? ∷ [])) reply)

-- §13.6: `C,1` or `C,0`
pub record CleanupLine (w : World) (w' : World) (out : Output) : Type 0 where
  pub reply : Reply Bool
  pub call : Cleanup w w' reply
  pub line : Written out (reply_line (λ yes?. answer 67 (yes_no yes? ∷ [])) reply)

-- §13.6: `Q,opened,hits` and the ids
abbrev pub listing : List ℕ → Found → List ℕ
listing row l = answer 81 (l.opened ∷ l.hits ∷ take l.hits row)

pub record QueryLine (w : World) (q : Window) (row : List ℕ) (w' : World) (row' : List ℕ) (out : Output) : Type 0 where
  pub reply : Reply Found
  pub call : Query w q row w' row' reply
  pub line : Written out (reply_line (listing row') reply)

-- an unreadable line or a second `S`: refusal 9, and nothing is changed
abbrev pub Nine : World → List ℕ → World → List ℕ → Output → Type 0
Nine w row w' row' out = (w' ≡ w) × (row' ≡ row) × Written out (refusal_line 9)

-- §13.6: an insert whose ink was not written has ink 0
abbrev pub plain_dot : ℕ → AABB → Dot
plain_dot id r = record { id = id; rect = r; ink = 0 }

-- a call's answer; the row is a query's
abbrev pub CallLine : World → List ℕ → Call → World → List ℕ → Output → Type 0
CallLine w row (call.Settings s) w' row' out = Nine w row w' row' out
CallLine w row (call.Insert id r) w' row' out = (row' ≡ row) × InsertLine w (plain_dot id r) w' out
CallLine w row (call.InsertInk dot) w' row' out = (row' ≡ row) × InsertLine w dot w' out
CallLine w row (call.Remove id r) w' row' out = (row' ≡ row) × RemoveLine w id r w' out
CallLine w row call.Cleanup w' row' out = (row' ≡ row) × CleanupLine w w' out
CallLine w row (call.Query r) w' row' out = QueryLine w (of_all_inks r) row w' row' out

-- the answer of the call that c is
pub record Called (w : World) (row : List ℕ) (c : Call) (w' : World) (row' : List ℕ) (out : Output) : Type 0 where
  pub answer : CallLine w row c w' row' out

abbrev pub LineAnswer : World → List ℕ → Option Call → World → List ℕ → Output → Type 0
LineAnswer w row (Some c) w' row' out = Called w row c w' row' out
LineAnswer w row None w' row' out = Nine w row w' row' out

-- THE STATEMENT for a later line: what it says, and the answer to that
pub record Answered (w : World) (row input : List ℕ) (w' : World) (row' : List ℕ) (out : Output) : Type 0 where
  pub says : Option Call
  pub is : LineOf input says
  pub answer : LineAnswer w row says w' row' out
