-- What refusal 1's test says.
--     lengths-same     the test on the lengths is that of the definitions
--     lengths-stated   what it says; nodes-stated, places-stated: of the nodes, of the places
--     many-groups, many-places     it fails where G or N is too large
use Rattle.std.specs.Prelude.{◌≡◌, List, true, false, ◌&&◌, ℕ, ◌+◌, ◌*◌, ◌≤◌, ◌<◌, ℤ, eqb, length}
use Rattle.std.proofs.Math.Path.{refl}
use Rattle.std.proofs.Math.Bool.{and-false}
use Rattle.std.proofs.Math.Dec.{leb}
use borrow.Author.Tests.{eqb-true, leb-true, lt-leb}
use Rattle.arithmetic.proofs.Laws.Linear.{and_t}
use Rattle.model.specs.declared.State.{State}
use Rattle.model.specs.Layout.{dots_for, world, groups_in, places_in, lengths_right}
use Rattle.memory.specs.Lengths.{lengths_fit, Stated}

pub lengths-same : (s : State) (nodes dots : List ℕ) (rects : List ℤ) (marks : List ℕ)
    → lengths_fit (length nodes) (length dots) (length rects) (length marks) ≡ lengths_right (world s nodes dots rects marks)
unfolding lengths_fit lengths_right
lengths-same s nodes dots rects marks = refl

pub lengths-stated : (nodes dots rects marks : ℕ) → lengths_fit nodes dots rects marks ≡ true → Stated nodes dots rects marks
unfolding lengths_fit
lengths-stated nodes dots rects marks e =
    let node-length = eqb nodes (2 * (1 + 5 * groups_in nodes)) in
    let few-groups = leb (groups_in nodes) 16384 in
    let dot-length = eqb dots (dots_for (places_in dots)) in
    let few-places = leb (places_in dots) 65536 in
    let rect-length = eqb rects (4 * places_in dots) in
    let all = and_t ((node-length && few-groups) && (dot-length && few-places && rect-length)) (eqb marks (places_in dots + groups_in nodes)) e in
    let both = and_t (node-length && few-groups) (dot-length && few-places && rect-length) all.0 in
    let node = and_t node-length few-groups both.0 in
    let place = and_t (dot-length && few-places) rect-length both.1 in
    let dot = and_t dot-length few-places place.0 in
    record {
      nodes_length = eqb-true _ _ node.0;
      dots_length = eqb-true _ _ dot.0;
      rects_length = eqb-true _ _ place.1;
      marks_length = eqb-true _ _ all.1;
      groups_fit = leb-true _ _ node.1;
      places_fit = leb-true _ _ dot.1;
    }

-- what the loops of the fresh tree ask, of G and N as they were read
pub nodes-stated : (nodes dots rects marks : ℕ) {groups : ℕ} → lengths_fit nodes dots rects marks ≡ true → groups ≡ groups_in nodes
    → (groups ≤ 16384) × (nodes ≡ 2 * (1 + 5 * groups))
nodes-stated nodes dots rects marks e read = let stated = lengths-stated nodes dots rects marks e in rw read (stated.groups_fit, stated.nodes_length)

pub places-stated : (nodes dots rects marks : ℕ) {places : ℕ} → lengths_fit nodes dots rects marks ≡ true → places ≡ places_in dots
    → (places ≤ 65536) × (dots ≡ dots_for places) × (rects ≡ 4 * places)
places-stated nodes dots rects marks e read =
    let stated = lengths-stated nodes dots rects marks e in rw read (stated.places_fit, stated.dots_length, stated.rects_length)

module _ (nodes dots rects marks : ℕ) where
  pub many-groups : 16384 < groups_in nodes → false ≡ lengths_fit nodes dots rects marks
  unfolding lengths_fit
  many-groups h = rw (lt-leb (groups_in nodes) 16384 h, and-false (eqb nodes (2 * (1 + 5 * groups_in nodes)))) refl

  pub many-places : 65536 < places_in dots → false ≡ lengths_fit nodes dots rects marks
  unfolding lengths_fit
  many-places h =
      rw (
        lt-leb (places_in dots) 65536 h,
        and-false (eqb dots (dots_for (places_in dots))),
        and-false (eqb nodes (2 * (1 + 5 * groups_in nodes)) && leb (groups_in nodes) 16384),
      ) refl
