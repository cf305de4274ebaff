-- Laws of the exported calls.
--     exported_other       rows of another length
--     exported_changed, exported_read      THE PATTERN: a call that may change the state, and one that reads
--     patch_bad, patch-good        refusal 13, and any other patch
--     check_other, check_row, check_refused, make_other, make-row      the same for the check and make
use Rattle.std.specs.Prelude.{◌≡◌, refl, List, [], Bool, true, false, not, ℕ, ◌≤◌, ℤ, length, Result}
use Rattle.std.proofs.Common.{sym, ◌∙◌, subst, inl, inr, arith}
use Rattle.arithmetic.proofs.Laws.Tests.{by_bool, true_false}
use Rattle.geometry.specs.Settings.{in_range}
use Rattle.geometry.specs.declared.settings.Settings.{Settings}
use Rattle.model.specs.declared.State.{State}
use Rattle.model.specs.declared.patch.Patch.{Patch}
use Rattle.model.specs.Patch.{patch_fits, LayPatch}
use Rattle.model.specs.declared.refusal.Refusal.{Refusal}
use Rattle.model.specs.declared.refusal.Refusal.TheVariants.{ShortRow}
use Rattle.model.specs.Refusals.{number_of}
use Rattle.model.specs.Answers.{make_reply, make_state}
use Rattle.model.specs.Layout.{World, world, lengths_right}
use Rattle.model.specs.Calls.{Reply, Make}
use Rattle.memory.specs.Lent.{Held, holding}
use Rattle.tree_check.specs.Checks.{Checked}
use Rattle.host_rows.specs.Rows.{CountFits, settings_in, state_in, rows_fit}
use Rattle.host_rows.specs.Answers.{refused_result, result_of, state_row, number, Out, made_row}
use Rattle.host_rows.proofs.Laws.Rows.{unfit, fit, kept_row}
use Rattle.krakvinge.specs.Exports.{Lent, world_of, Exported, LaysPatch, Makes, Checks}

-- the rows that were lent on for a change end as they were left
pub record EndsAs (l : Lent) (h : Held) : Type 0 where
  pub nodes : l.nodes ≡ h.nodes
  pub dots : l.dots ≡ h.dots
  pub rects : l.rects ≡ h.rects

module _ {B A : Type 0} {fits : Bool} {words : A → List ℕ} {says : World → List B → World → List B → Reply A → Type 0} where
  pub exported_other : {l : Lent} {row : List B} {b : Bool} → b ≡ fits → not b ≡ true → Exported fits words says l row l row 1
  exported_other test n = record { other_length = λ _. (refl, refl, refl); carried_out = λ e. true_false (sym e ∙ unfit test n) }

  module _ {l l' : Lent} {row row' : List B} {result : ℕ} {s : State} {b : Bool} where
    -- next: the state after the call, by the state before; h: what the rows hold then, which end so
    pub exported_changed : (next : State → State) (reply : Reply A)
        → b ≡ fits → not b ≡ false → s ≡ state_in l.state
        → {h : Held} → says (world_of s l) row (world (next s) h.nodes h.dots h.rects l'.marks) row' reply → EndsAs l' h
        → l'.state ≡ state_row (next (state_in l.state)) l.state reply → Out words reply l.answer l'.answer result
        → Exported fits words says l row l' row' result
    exported_changed next reply test n e {h} said ends state out =
        let same : world (next s) h.nodes h.dots h.rects l'.marks ≡ world_of (next s) l' =
        λ i. world (next s) (sym ends.nodes i) (sym ends.dots i) (sym ends.rects i) l'.marks in
        let done = subst (λ (w : World). says (world_of s l) row w row' reply) same said in
        record {
          other_length = λ f. true_false (sym (fit test n) ∙ f);
          carried_out = λ _.
              (next (state_in l.state), reply, subst (λ (t : State). says (world_of t l) row (world_of (next t) l') row' reply) e done, state, out);
        }

    pub exported_read : (reply : Reply A)
        → b ≡ fits → not b ≡ false → (s ≡ state_in l.state) × CountFits l.state 10
        → says (world_of s l) row (world_of s l') row' reply
        → l'.state ≡ l.state → Out words reply l.answer l'.answer result
        → Exported fits words says l row l' row' result
    exported_read reply test n read said state out =
        exported_changed (λ t. t) reply test n read.0 said (record { nodes = refl; dots = refl; rects = refl }) (state ∙ kept_row l.state read.1 reply) out

-- ---- the patch

module _ {p : Patch} {l : Lent} {b : Bool} (test : b ≡ patch_fits p) where
  pub patch_bad : not b ≡ true → LaysPatch p l l 13
  patch_bad n = record { bad_patch = λ _. (refl, refl); good_patch = λ e. true_false (sym e ∙ unfit test n) }

  pub patch-good : not b ≡ false → {l' : Lent} {result : ℕ}
      → Exported (rows_fit l.state l.answer) number (λ (w : World) (row : List ℕ) (w' : World) (row' : List ℕ)
      (reply : Reply ℕ). LayPatch w p w' reply) l [] l' [] result
      → LaysPatch p l l' result
  patch-good n done = record { bad_patch = λ e. true_false (sym (fit test n) ∙ e); good_patch = λ _. done }

-- ---- the check and make

-- the check never answers a short row, so what is returned is the refusal's number
check_few : {s : State} {h : Held} {marks marks' : List ℕ} {answer : ℕ} → Checked s h marks marks' answer → answer ≤ 3
check_few {s} {h} {marks} c =
    by_bool (lengths_right (world s h.nodes h.dots h.rects marks))
    (λ long.
    by_bool (in_range s.settings)
    (λ accepted. elim (c.checked long accepted).1 [ inl is_tree ↦ omega (arith, is_tree.0) | inr no_tree ↦ omega (arith, no_tree.0) ])
    (λ accepted. omega (arith, c.bad_settings long accepted)))
    (λ long. omega (arith, c.bad_length long))

few_told : (e : Refusal) → number_of e ≤ 3 → refused_result e ≡ number_of e
few_told (ShortRow n) few = absurd (omega arith)
few_told _ few = refl

module _ (row nodes dots : List ℕ) (rects : List ℤ) (marks : List ℕ) where
  pub check_other : (length row ≡ 12 → ⊥) → Checks row nodes dots rects marks marks 1
  check_other ne = record { other_length = λ _. (refl, refl); carried_out = λ e. absurd (ne e) }

  pub check_row : (s : State) (marks' : List ℕ) (result : ℕ) → length row ≡ 12 → s ≡ state_in row → Checked s (holding nodes dots rects) marks marks' result
      → Checks row nodes dots rects marks marks' result
  check_row s marks' result twelve e c =
      record { other_length = λ ne. absurd (ne twelve); carried_out = λ _. subst (λ (t : State). Checked t (holding nodes dots rects) marks marks' result) e c }

  pub check_refused : (s : State) (marks' : List ℕ) (e : Refusal) (result : ℕ) → length row ≡ 12 → s ≡ state_in row
      → Checked s (holding nodes dots rects) marks marks' (number_of e) → result ≡ refused_result e → Checks row nodes dots rects marks marks' result
  check_refused s marks' e result twelve is c told =
      check_row s marks' result twelve is (rw (told ∙ few_told e (check_few c)) c)

  pub make_other : (length row ≡ 12 → ⊥) → Makes row nodes dots rects marks row nodes dots rects marks 1
  make_other ne = record { other_length = λ _. (refl, refl, refl, refl, refl, refl); carried_out = λ e. absurd (ne e) }

  pub make-row : (s : Settings) (row' nodes' dots' : List ℕ) (rects' : List ℤ) (marks' : List ℕ) (result : ℕ) (m : Result State Refusal) → length row ≡ 12
      → s ≡ settings_in row
      → {h : Held}
      → ((before : State) → Make (world before nodes dots rects marks) s (world (make_state before m) h.nodes h.dots h.rects marks') (make_reply m))
      → nodes' ≡ h.nodes → dots' ≡ h.dots → rects' ≡ h.rects
      → result ≡ result_of (make_reply m) → row' ≡ made_row m row → Makes row nodes dots rects marks row' nodes' dots' rects' marks' result
  make-row s row' nodes' dots' rects' marks' result m twelve e made en ed er same written =
      record {
        other_length = λ ne. absurd (ne twelve);
        carried_out = λ _. (
          m,
          (λ before. subst (λ (t : Settings). Make (world before nodes dots rects marks) t
              (world (make_state before m) nodes' dots' rects' marks') (make_reply m)) e
              (subst (λ (w : World). Make (world before nodes dots rects marks) s w (make_reply m))
              (λ i. world (make_state before m) (sym en i) (sym ed i) (sym er i) marks') (made before))),
          same,
          written,
        );
      }
