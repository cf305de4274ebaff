-- One dot more is laid.
--     next_fits, next-number       the numbers of the next dot fit
--     lay_refused, lay_laid        its insert is not refused, and after it one dot more is laid
use Rattle.std.specs.Prelude.{◌≡◌, refl, Bool, true, false, not, ◌&&◌, ℕ, suc, ◌+◌, ◌≤◌, ◌<◌, ℤ, pos, negsuc, replicate, leb, Result, Ok, Err}
use Rattle.std.proofs.Math.Path.{ap, sym, subst}
use Rattle.std.proofs.Common.{◌∙◌, SFits, leb-true}
use mathlib.Core.List.{List, [], ◌∷◌, ◌++◌}
use native.Mathlib.Omega.{arith}
use Rattle.std.specs.Int.Signed.{le_z}
use Rattle.std.proofs.Math.ListN.{length, length-append}
use Rattle.std.specs.Int.{w32}
use Rattle.arithmetic.proofs.Laws.Linear.{ints, fits32, and_t}
use Rattle.arithmetic.proofs.Laws.Tests.{true_false}
use Rattle.geometry.specs.Rectangles.{near, far_out}
use Rattle.model.specs.declared.Dot.{Dot}
use Rattle.model.specs.declared.State.{State}
use Rattle.model.specs.declared.refusal.Refusal.{Refusal}
use Rattle.model.specs.declared.patch.Patch.{Patch}
use Rattle.model.specs.Lists.{All}
use Rattle.model.specs.Dots.{acceptable_dot}
use Rattle.model.specs.Shapes.{Shape, inserted, splits_made}
use Rattle.model.specs.Layout.{world, layout, cleared, Holds, same_settings}
use Rattle.model.specs.Calls.{answered, accept, exit, carried_out, counted, insert_rule}
use Rattle.model.specs.Answers.{change_state, change_reply}
use Rattle.model.specs.Book.{accepted}
use Rattle.model.specs.Laying.{laid, CanLay}
use Rattle.model.specs.Patch.{numbered, patch_dots, ids_fit}
use Rattle.model.proofs.Laws.Dots.{dot-upright}
use Rattle.model.proofs.Laws.Refusals.{refused-accepted}
use Rattle.model.proofs.Laws.Layout.{same-settings, holds-settings}
use Rattle.model.proofs.Laws.Calls.{counted_low, world_of_lem, reply_of}
use Rattle.model.proofs.Laws.Patch.{numbered-length}
use Rattle.model.proofs.Laws.Laying.{FirstLaid, can_lay-first, can_lay-append, laid-changes, laid-append}
use Rattle.memory.specs.Lent.{holding}
use Rattle.tree.specs.Operations.{CarriedOut}
use Rattle.tint.proofs.Laws.Within.{sides}
use Rattle.model.specs.declared.answers.Changed.{Changed}
use Rattle.tree_patch.specs.Laid.{rects_before, dots_before, DotAt, patch_dot, DotFits, Progress}
use Rattle.tree_patch.proofs.Laws.Order.{here-laid, numbered-append, patch-parts}

-- ---- one of the dots

all_middle : (P : Dot → Type 0) (before : List Dot) (d : Dot) (after : List Dot) → All P (before ++ d ∷ after) → P d
all_middle P [] d after a = a.0
all_middle P (e ∷ before) d after a = all_middle P before d after a.1

ids-middle : (before : List Dot) (d : Dot) (after : List Dot) → ids_fit (before ++ d ∷ after) ≡ true → d.id ≤ 4294967295
ids-middle [] d after e = leb-true d.id 4294967295 (and_t (leb d.id 4294967295) (ids_fit after) e).0
ids-middle (b ∷ before) d after e =
    ids-middle before d after (and_t (leb b.id 4294967295) (ids_fit (before ++ d ∷ after)) e).1

-- ---- a coordinate in range

near_fits : (z : ℤ) → near z ≡ true → SFits w32 z
unfolding near
near_fits z e =
    let p = and_t (le_z (negsuc 1073741823) z) (le_z z (pos 1073741823)) e in
    fits32 z (omega (arith, ints, p.0), omega (arith, ints, p.1))

all-four : (a b c d : Bool) → not (a && b && c && d) ≡ false → (a ≡ true) × (b ≡ true) × (c ≡ true) × (d ≡ true)
all-four true true true true e = (refl, refl, refl, refl)
all-four true true true false e = true_false e
all-four true true false d e = true_false e
all-four true false c d e = true_false e
all-four false b c d e = true_false e

module _ {p : Patch} {column row : ℕ} {l : Changed} {nodes dots : List ℕ} {rects : List ℤ} where
  module _ (at : DotAt p column row) where
    -- with the dots before it laid
    module _ {marks : List ℕ} {x : Shape} (g : Progress p column row l (holding nodes dots rects) marks x) where
      abbrev dot : Dot
      dot = patch_dot p column row l.number

      abbrev before : Shape
      before = laid (dots_before p column row) x

      parts : (after : List Dot) × (patch_dots p ≡ dots_before p column row ++ dot ∷ after)
      parts = subst (λ (n : ℕ). (after : List Dot) × (patch_dots p ≡ dots_before p column row ++ patch_dot p column row n ∷ after)) (sym g.number)
          (patch-parts p column row at.in_row at.in_patch at.there)

      first : FirstLaid dot parts.0 before
      first =
          let two = can_lay-append (dots_before p column row) (dot ∷ parts.0) x g.valid (subst (λ ds. CanLay ds x) parts.1 g.goes.can) in
          can_lay-first dot parts.0 before two.0 two.1

      pub next_fits : DotFits p column row l.number
      unfolding far_out
      next_fits =
          let ok = all_middle (λ d. acceptable_dot x.settings d ≡ true) (dots_before p column row) dot parts.0
          (subst (λ ds. All (λ d. acceptable_dot x.settings d ≡ true) ds) parts.1 g.goes.can.acceptable_dots) in
          let r = dot.rect in
          let inside = all-four (near r.x1) (near r.y1) (near r.x2) (near r.y2) (dot-upright x.settings dot ok).1 in
          let few = sides p g.fits in
          record {
            column_fits = omega (arith, few.few_columns, at.in_row);
            row_fits = omega (arith, few.few_rows, at.in_patch);
            left = near_fits r.x1 inside.0;
            top = near_fits r.y1 inside.1;
            right = near_fits r.x2 inside.2;
            bottom = near_fits r.y2 inside.3;
            id = ids-middle (dots_before p column row) dot parts.0 (ap ids_fit (sym parts.1) ∙ g.goes.ids);
          }

      -- there is a place for it
      pub next-number : l.number < 65536
      next-number =
          omega (
            arith,
            g.number,
            numbered-length p.first_id (rects_before p column row),
            length-append (dots_before p column row) (dot ∷ parts.0),
            ap length parts.1,
            g.goes.can.places_enough,
            g.valid.places_fit,
          )

      -- its insert goes, and can be counted
      inserts : insert_rule dot before ≡ accept (inserted dot before) [] (splits_made dot before)
      unfolding insert_rule inserted
      inserts =
          ap counted first.goes
          ∙ counted_low (inserted dot before) [] (splits_made dot before)
          (omega (
            arith,
            g.counts,
            laid-changes (dots_before p column row) x,
            length-append (dots_before p column row) (dot ∷ parts.0),
            ap length parts.1,
          ))

      one_more : rects_before p (suc column) row ≡ rects_before p column row ++ dot.rect ∷ []
      one_more = here-laid p column row at.there

      laid_next : laid (dots_before p (suc column) row) x ≡ inserted dot before
      laid_next =
          ap (λ rs. laid (numbered p.first_id rs) x) one_more
          ∙ ap (λ ds. laid ds x) (numbered-append p.first_id (rects_before p column row) (dot.rect ∷ []))
          ∙ laid-append (dots_before p column row) (patch_dot p column row (length (rects_before p column row)) ∷ []) x
          ∙ ap (λ (n : ℕ). inserted (patch_dot p column row n) before) (sym g.number)

    module _ {d : Dot} (is : d ≡ patch_dot p column row l.number) (a : Result Changed Refusal) {nodes' dots' : List ℕ} {rects' : List ℤ}
        (done : CarriedOut (insert_rule d) l.state (holding nodes dots rects) (change_state l.state a) (holding nodes' dots' rects') (change_reply a)) where
      left : {marks : List ℕ} {x : Shape} (g : Progress p column row l (holding nodes dots rects) marks x)
          → exit {B = ℕ} (world (change_state l.state a) nodes' dots' rects' (replicate (length marks) 0)) [] (change_reply a)
          ≡ exit (layout (inserted (dot g) (before g))) [] (answered (splits_made (dot g) (before g)))
      left {marks} g =
          done marks (before g) g.holds
          ∙ ap (carried_out (world l.state nodes dots rects marks) []) (ap (λ (d : Dot). insert_rule d (before g)) is ∙ inserts g)

      pub lay_refused : {e : Refusal} → a ≡ Err e → {marks : List ℕ} {x : Shape} → Progress p column row l (holding nodes dots rects) marks x → ⊥
      lay_refused {e} refusal g =
          true_false
          (sym (ap accepted (reply_of (left g))) ∙ ap (λ (b : Result Changed Refusal). accepted (change_reply b)) refusal ∙ refused-accepted ℕ e)

      -- the settings are kept
      pub lay_laid : {c : Changed} {u : State} → a ≡ Ok c → u ≡ same_settings l.state c.state
          → {marks : List ℕ} {x : Shape} → Progress p column row l (holding nodes dots rects) marks x
          → Progress p (suc column) row (record { state = u; number = l.number + 1 }) (holding nodes' dots' rects') marks x
      unfolding cleared inserted
      lay_laid {c} {u} told changed {marks} {x} g =
          let s' = c.state in
          let after = ap (change_state l.state) told in
          let holds : Holds (world s' nodes' dots' rects' marks) (inserted (dot g) (before g)) =
          record {
            valid = (first g).valid;
            words = (λ i. world (sym after i) nodes' dots' rects' (replicate (length marks) 0)) ∙ world_of_lem (left g);
          } in
          let settings : s'.settings ≡ l.state.settings =
          holds-settings (world s' nodes' dots' rects' marks) (inserted (dot g) (before g)) holds
          ∙ sym (holds-settings (world l.state nodes dots rects marks) (before g) g.holds) in
          let same : s' ≡ same_settings l.state s' = same-settings l.state s' settings in
          record {
            fits = g.fits;
            valid = g.valid;
            goes = g.goes;
            counts = g.counts;
            holds =
                subst (λ (y : Shape). Holds (world u nodes' dots' rects' marks) y) (sym (laid_next g))
                (subst (λ (s : State). Holds (world s nodes' dots' rects' marks) (inserted (dot g) (before g))) (same ∙ sym changed) holds);
            number = omega (arith, g.number, ap length (one_more g), length-append (rects_before p column row) ((dot g).rect ∷ []));
          }
