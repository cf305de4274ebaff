-- An insert's refusals in their order, and the insert that is not refused.
--     not_4, not_10, not_5, not_6  what each test told that was passed
--     refuse_4, refuse_10, refuse_5 .. refuse_7, refuse_16  what the rule then says
--     lands        what is left to do, where none refuses
use Rattle.std.specs.Prelude.{◌≡◌, ◌||◌, true, Bool, not, ℕ, ◌+◌, ◌≤◌, ◌<◌, ℤ, eqb, Option, Some, None}
use Rattle.std.proofs.Math.Path.{refl, ap, sym}
use Rattle.std.proofs.Common.{◌∙◌, arith}
use Rattle.std.proofs.Math.Bool.{false}
use mathlib.Core.List.{List, []}
use Rattle.std.proofs.Math.Decide.{dec_le}
use Rattle.std.proofs.Math.ListN.{length}
use Rattle.std.proofs.Math.Dec.{ltb}
use borrow.Author.Tests.{not-false, eq-eqb, ne_eqb, lt-ltb, le-ltb, not-true}
use Rattle.geometry.specs.Rectangles.{inverted, far_out}
use Rattle.geometry.specs.Settings.{root_of, contains, acceptable}
use Rattle.geometry.specs.declared.quad_rect.QuadRect.{QuadRect}
use Rattle.geometry.specs.declared.settings.Settings.{Settings}
use Rattle.model.specs.declared.Dot.{Dot}
use Rattle.model.specs.declared.State.{State}
use Rattle.model.proofs.Laws.Sums.{by_dec}
use Rattle.model.specs.Dots.{good_ink, acceptable_dot}
use Rattle.model.specs.Trees.{size}
use Rattle.model.specs.Shapes.{Shape, splits_needed, splits_made, inserted}
use Rattle.model.specs.Layout.{world, places_in, Holds}
use Rattle.model.specs.Calls.{refuse, accept, counted, can_count, insert_verdict, insert_rule}
use Rattle.model.proofs.Laws.Calls.{counted-fits, counted_past}
use Rattle.model.proofs.Laws.Shapes.{live-and_free}
use Rattle.model.proofs.Laws.Splitting.{made-needed}
use Rattle.model.proofs.Laws.Layout.{holds-settings, holds-changes}
use Rattle.model.proofs.Laws.Memory.{holds-represented}
use Rattle.memory.specs.declared.node.Node.{Node}
use Rattle.memory.specs.Nodes.{node_at}
use Rattle.memory.specs.Lent.{holding}
use Rattle.tree.specs.declared.find.Leaf.{Leaf}
use Rattle.tree.specs.Routes.{LeadsTo}
use Rattle.tree_insert.specs.SplitsNeeded.{needed_of, SplitsTold}
use Rattle.tree_insert.proofs.Laws.SplitsNeeded.{told-short, told-enough}
use Rattle.tree_insert.proofs.Laws.Leaf.{needed-is}
use Rattle.tree_insert.specs.InsertAt.{Starts}

-- what the tests told before the one that refuses: not 4; not 10; not 5; not 6
pub record Not4 (dot : Dot) : Type 0 where
  pub near : inverted dot.rect || far_out dot.rect ≡ false

pub record Not10 (dot : Dot) : Type 0 where
  pub near : inverted dot.rect || far_out dot.rect ≡ false
  pub ink : good_ink dot ≡ true

pub record Not5 (s : State) (dot : Dot) : Type 0 where
  pub near : inverted dot.rect || far_out dot.rect ≡ false
  pub ink : good_ink dot ≡ true
  pub inside : contains (root_of s.settings) dot.rect ≡ true

pub record Not6 (s : State) (dots : List ℕ) (dot : Dot) : Type 0 where
  pub near : inverted dot.rect || far_out dot.rect ≡ false
  pub ink : good_ink dot ≡ true
  pub inside : contains (root_of s.settings) dot.rect ≡ true
  pub room : s.live + 1 ≤ places_in (length dots)

pub not_4 : {dot : Dot} {a b : Bool} → a ≡ inverted dot.rect → b ≡ far_out dot.rect → a || b ≡ false → Not4 dot
not_4 p q n = record { near = (λ i. sym p i || sym q i) ∙ n }

pub not_10 : {dot : Dot} {b : Bool} → Not4 dot → b ≡ good_ink dot → not b ≡ false → Not10 dot
not_10 {b = b} p q n = record { near = p.near; ink = sym q ∙ not-false b n }

pub not_5 : {s : State} {dot : Dot} {r : QuadRect} {b : Bool} → Not10 dot → r ≡ root_of s.settings → b ≡ contains r dot.rect → not b ≡ false → Not5 s dot
not_5 {dot = dot} {b = b} p e q n = record { near = p.near; ink = p.ink; inside = sym (q ∙ ap (λ (r : QuadRect). contains r dot.rect) e) ∙ not-false b n }

pub not_6 : {s : State} {dots : List ℕ} {dot : Dot} {places : ℕ} → Not5 s dot → places ≡ places_in (length dots) → s.live + 1 ≤ places → Not6 s dots dot
not_6 p q r = record { near = p.near; ink = p.ink; inside = p.inside; room = omega (arith, q, r) }

-- what was told at the leaf
pub record Counted (s : State) (nodes dots : List ℕ) (rects : List ℤ) (dot : Dot) (l : Leaf) (needed : Option ℕ) : Type 0 where
  pub tests : Not6 s dots dot
  pub leads : LeadsTo s.settings nodes dot.rect l
  pub node : Node
  pub words : node ≡ node_at nodes l.node
  pub tells : SplitsTold s.settings (holding nodes dots rects) node l.node_data dot.rect s.free_group needed

module _ {s : State} {nodes dots : List ℕ} {rects : List ℤ} {marks : List ℕ} {x : Shape} (h : Holds (world s nodes dots rects marks) x) (dot : Dot) where
  abbrev Refuses : ℕ → Type 0
  Refuses k = insert_rule dot x ≡ refuse k

  contains-same : contains (root_of x.settings) dot.rect ≡ contains (root_of s.settings) dot.rect
  contains-same = ap (λ (y : Settings). contains (root_of y) dot.rect) (sym (holds-settings (world s nodes dots rects marks) x h))

  live-is : (s.live ≡ size x.tree) × (places_in (length dots) ≡ x.places)
  live-is = let rep = holds-represented (world s nodes dots rects marks) x h in (rep.live, omega (arith, rep.dots))

  room-is : s.live + 1 ≤ places_in (length dots) → eqb (size x.tree) x.places ≡ false
  room-is r = ne_eqb (size x.tree) x.places (λ e. omega (arith, live-is.0, live-is.1))

  pub refuse_4 : {a b : Bool} → a ≡ inverted dot.rect → b ≡ far_out dot.rect → a || b ≡ true → Refuses 4
  unfolding insert_rule insert_verdict
  refuse_4 p q t = rw ((λ i. sym p i || sym q i) ∙ t) refl

  pub refuse_10 : {b : Bool} → Not4 dot → b ≡ good_ink dot → not b ≡ true → Refuses 10
  unfolding insert_rule insert_verdict
  refuse_10 {b = b} p q t = rw (p.near, sym q ∙ not-true b t) refl

  pub refuse_5 : {r : QuadRect} {b : Bool} → Not10 dot → r ≡ root_of s.settings → b ≡ contains r dot.rect → not b ≡ true → Refuses 5
  unfolding insert_rule insert_verdict
  refuse_5 {b = b} p e q t =
      rw (p.near, p.ink, contains-same ∙ sym (q ∙ ap (λ (r : QuadRect). contains r dot.rect) e) ∙ not-true b t) refl

  pub refuse_6 : {places : ℕ} → Not5 s dot → places ≡ places_in (length dots) → places < s.live + 1 → Refuses 6
  unfolding insert_rule insert_verdict
  refuse_6 p q e =
      let full : size x.tree ≡ x.places = omega (arith, q, live-is.0, live-is.1, live-and_free x h.valid) in
      rw (p.near, p.ink, contains-same ∙ p.inside, eq-eqb (size x.tree) x.places full) refl

  -- for every shape that the words hold
  module _ {l : Leaf} {needed : Option ℕ} (c : Counted s nodes dots rects dot l needed) where
    p : Not6 s dots dot
    p = c.tests

    told : needed ≡ needed_of (splits_needed dot x) (length x.free_groups)
    told = needed-is h dot c.leads c.words c.tells

    pub refuse_7 : needed ≡ None → Refuses 7
    unfolding insert_rule insert_verdict
    refuse_7 t =
        let short : length x.free_groups < splits_needed dot x = told-short (splits_needed dot x) (length x.free_groups) (sym t ∙ told) in
        rw (p.near, p.ink, contains-same ∙ p.inside, room-is p.room, lt-ltb (length x.free_groups) (splits_needed dot x) short) refl

    module _ {splits : ℕ} (t : needed ≡ Some splits) {fits : Bool} (count : fits ≡ can_count s 1) where
      enough : (splits ≡ splits_needed dot x) × (splits ≤ length x.free_groups)
      enough = told-enough (splits_needed dot x) (length x.free_groups) (sym t ∙ told)

      -- but for 16
      verdict : insert_verdict dot x ≡ accept (inserted dot x) [] splits
      unfolding insert_verdict
      verdict =
          let made : splits_made dot x ≡ splits = (made-needed dot x (omega (arith, enough.0, enough.1))).0 ∙ sym enough.0 in
          let few : ltb (length x.free_groups) (splits_needed dot x) ≡ false =
          le-ltb (length x.free_groups) (splits_needed dot x) (omega (arith, enough.0, enough.1)) in
          rw (p.near, p.ink, contains-same ∙ p.inside, room-is p.room, few) (ap (accept (inserted dot x) []) made)

      more : (inserted dot x).changes ≡ s.changes + 1
      unfolding inserted
      more = ap (λ (n : ℕ). n + 1) (sym (holds-changes (world s nodes dots rects marks) x h))

      pub refuse_16 : not fits ≡ true → Refuses 16
      unfolding insert_rule
      refuse_16 n = ap counted verdict ∙ counted_past (inserted dot x) [] splits s 1 count more (not-true fits n)

      pub lands : not fits ≡ false → Starts s dot (holding nodes dots rects) l splits marks x × (insert_rule dot x ≡ accept (inserted dot x) [] splits)
      unfolding acceptable_dot acceptable insert_rule
      lands n = (
        record {
          holds = h;
          leads = c.leads;
          fits = rw (p.near, p.ink, contains-same ∙ p.inside) refl;
          room =
              by_dec (dec_le 1 (length x.free_places)) (λ r. r)
              (λ m. absurd (omega (arith, p.room, live-is.0, live-is.1, live-and_free x h.valid)));
          needed = enough.0;
          enough = enough.1;
          counts = sym count ∙ not-false fits n;
        },
        ap counted verdict ∙ counted-fits (inserted dot x) [] splits s 1 count more (not-false fits n),
      )
