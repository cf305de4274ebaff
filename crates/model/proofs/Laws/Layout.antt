-- Laws of the layout and of the calls' pattern.
--     layout-lengths, holds-lengths, holds-settings        a world that is a tree passes refusals 1 and 2
--     layout-holds, cleared-holds  what a call leaves is a tree again
--     obeys-tree   of a call on a tree, the rule says all
use Rattle.std.specs.Prelude.{◌≡◌, refl, List, [], ◌∷◌, true, ◌&&◌, ℕ, ◌+◌, ◌*◌, ◌≤◌, length, replicate, eqb, leb}
use Rattle.std.proofs.Common.{ap, sym, ◌∙◌, arith, leb-true, le-leb, eq-eqb}
use Rattle.std.proofs.lemmas.List.{length-replicate}
use Rattle.arithmetic.proofs.Laws.Linear.{and_t}
use Rattle.model.proofs.Laws.Lists.{length-join_below}
use Rattle.arithmetic.proofs.Laws.Tests.{by_bool}
use Rattle.geometry.specs.Settings.{in_range}
use Rattle.model.specs.Shapes.{Shape, Valid}
use Rattle.model.specs.declared.State.{State}
use Rattle.model.specs.Layout.{same_settings, dots_for, World, groups_of, places_of, nodes_right, dots_right, marks_right, lengths_right, NodeEntry, PlaceEntry}
use Rattle.model.specs.Layout.{node_entries, place_entries, node_words, dot_words, place_rect, state_of, layout, cleared, Holds}
use Rattle.model.specs.Calls.{Verdict, Exit, carried_out, Obeys}

-- ---- lengths

pub two-node : (es : List NodeEntry) (k : ℕ) → length (node_words es k) ≡ 2
two-node [] k = refl
two-node (e ∷ es) k = by_bool (eqb k e.node) (λ t. rw t refl) (λ t. rw t (two-node es k))

pub three-dot : (es : List PlaceEntry) (k : ℕ) → length (dot_words es k) ≡ 3
three-dot [] k = refl
three-dot (e ∷ es) k = by_bool (eqb k e.place) (λ t. rw t refl) (λ t. rw t (three-dot es k))

pub four-rect : (es : List PlaceEntry) (k : ℕ) → length (place_rect es k) ≡ 4
four-rect [] k = refl
four-rect (e ∷ es) k = by_bool (eqb k e.place) (λ t. rw t refl) (λ t. rw t (four-rect es k))

-- the four lengths of a layout
pub record Lengths (x : Shape) (w : World) : Type 0 where
  pub nodes : length w.nodes ≡ 2 + 10 * x.groups
  pub dots : length w.dots ≡ dots_for x.places
  pub rects : length w.rects ≡ 4 * x.places
  pub marks : length w.marks ≡ x.places + x.groups

pub layout-lengths : (x : Shape) → Lengths x (layout x)
unfolding layout
layout-lengths x =
    record {
      nodes = omega (arith, length-join_below (1 + 5 * x.groups) 2 (node_words (node_entries x)) (two-node (node_entries x)));
      dots = omega (arith, length-join_below x.places 3 (dot_words (place_entries x)) (three-dot (place_entries x)));
      rects = omega (arith, length-join_below x.places 4 (place_rect (place_entries x)) (four-rect (place_entries x)));
      marks = length-replicate (x.places + x.groups) 0;
    }

right : (x : Shape) (w : World) → Valid x → Lengths x w → lengths_right w ≡ true
unfolding lengths_right
right x w v l =
    let g : groups_of w ≡ x.groups = omega (arith, l.nodes) in
    let p : places_of w ≡ x.places = omega (arith, l.dots) in
    rw (
      eq-eqb (length w.nodes) (2 * (1 + 5 * groups_of w)) (omega (arith, l.nodes, g)),
      le-leb (groups_of w) 16384 (omega (arith, g, v.groups_fit)),
      eq-eqb (length w.dots) (dots_for (places_of w)) (omega (arith, l.dots, p)),
      le-leb (places_of w) 65536 (omega (arith, p, v.places_fit)),
      eq-eqb (length w.rects) (4 * places_of w) (omega (arith, l.rects, p)),
      eq-eqb (length w.marks) (places_of w + groups_of w) (omega (arith, l.marks, p, g)),
    ) refl

-- G and N are in range where the lengths are of the stated form
pub right-fits : (w : World) → lengths_right w ≡ true → (groups_of w ≤ 16384) × (places_of w ≤ 65536)
unfolding lengths_right
right-fits w e =
    let n = eqb (length w.nodes) (2 * (1 + 5 * groups_of w)) in
    let d = eqb (length w.dots) (dots_for (places_of w)) in
    let r = eqb (length w.rects) (4 * places_of w) in
    let both = and_t (nodes_right w) (dots_right w) (and_t (nodes_right w && dots_right w) (marks_right w) e).0 in
    let dots = and_t (d && leb (places_of w) 65536) r both.1 in
    (leb-true (groups_of w) 16384 (and_t n (leb (groups_of w) 16384) both.0).1, leb-true (places_of w) 65536 (and_t d (leb (places_of w) 65536) dots.0).1)

cleared-marks : (w : World) → length (cleared w).marks ≡ length w.marks
unfolding cleared
cleared-marks w = length-replicate (length w.marks) 0

pub holds-all : (w : World) (x : Shape) → Holds w x → Lengths x w
unfolding cleared
holds-all w x h =
    let l = layout-lengths x in
    record {
      nodes = ap (λ (v : World). length v.nodes) h.words ∙ l.nodes;
      dots = ap (λ (v : World). length v.dots) h.words ∙ l.dots;
      rects = ap (λ (v : World). length v.rects) h.words ∙ l.rects;
      marks = sym (cleared-marks w) ∙ ap (λ (v : World). length v.marks) h.words ∙ l.marks;
    }

pub holds-lengths : (w : World) (x : Shape) → Holds w x → lengths_right w ≡ true
holds-lengths w x h = right x w h.valid (holds-all w x h)

pub holds-settings : (w : World) (x : Shape) → Holds w x → w.state.settings ≡ x.settings
unfolding cleared layout state_of
holds-settings w x h = ap (λ (v : World). v.state.settings) h.words

-- a state whose settings are kept
pub same-settings : (s t : State) → t.settings ≡ s.settings → t ≡ same_settings s t
same-settings s t e =
    λ i. record { settings = e i; free_group = t.free_group; free_place = t.free_place; live = t.live; changes = t.changes }

pub holds-changes : (w : World) (x : Shape) → Holds w x → w.state.changes ≡ x.changes
unfolding cleared layout state_of
holds-changes w x h = ap (λ (v : World). v.state.changes) h.words

-- ---- a tree again

pub cleared-layout : (x : Shape) → cleared (layout x) ≡ layout x
unfolding cleared layout
cleared-layout x =
    let e = ap (λ (n : ℕ). replicate {A = ℕ} n 0) (length-replicate {A = ℕ} (x.places + x.groups) 0) in
    let w = layout x in
    λ i. record { state = w.state; nodes = w.nodes; dots = w.dots; rects = w.rects; marks = e i }

pub layout-holds : (x : Shape) → Valid x → Holds (layout x) x
layout-holds x v = record { valid = v; words = cleared-layout x }

pub cleared-holds : (w : World) (x : Shape) → Holds w x → Holds (cleared w) x
unfolding cleared
cleared-holds w x h =
    let e = ap (λ (n : ℕ). replicate {A = ℕ} n 0) (length-replicate {A = ℕ} (length w.marks) 0) in
    let again : cleared (cleared w) ≡ cleared w =
    λ i. record { state = w.state; nodes = w.nodes; dots = w.dots; rects = w.rects; marks = e i } in
    record { valid = h.valid; words = again ∙ h.words }

-- ---- the pattern

module _ {B A : Type 0} (rule : Shape → Verdict B A) (w : World) (row : List B) (e : Exit B A) where
  pub obeys-tree : Obeys true rule w row e → (x : Shape) → Holds w x → e ≡ carried_out w row (rule x)
  obeys-tree o x h =
      o.tree (rw (holds-lengths w x h) refl) (ap in_range (holds-settings w x h) ∙ h.valid.settings_fit) x h
