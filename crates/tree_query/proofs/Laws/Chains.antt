-- The walk of a chain: what is left to list, at each turn of the loop.
--     dot-unreached, dot-missed, dot-hit   one dot
--     Rest         what has been listed and what is left make the whole
--     rest-start, rest-turn, rest_end      the loop's three steps
--     has-chain    the chain can be walked
--     rest-place   what a turn asks: the place that it reads is in the rows
use Rattle.std.specs.Prelude.{◌≡◌, Bool, not, ℕ, ◌+◌, ◌-◌, ◌≤◌, ◌<◌, set}
use Rattle.std.proofs.Math.Path.{refl, ap, sym, subst}
use Rattle.std.proofs.Common.{◌∙◌, add-one}
use mathlib.Core.List.{List, [], ◌∷◌}
use Rattle.std.proofs.Math.Bool.{true, false}
use native.Mathlib.Omega.{arith}
use Rattle.std.proofs.Math.ListN.{length}
use borrow.Author.Tests.{not-true, not-false}
use Rattle.arithmetic.proofs.Laws.Tests.{by_bool}
use Rattle.geometry.specs.Rectangles.{reaches}
use Rattle.geometry.proofs.Laws.Geometry.{unreached}
use Rattle.model.specs.declared.Window.{Window}
use Rattle.model.specs.declared.Dot.{Dot}
use Rattle.model.specs.Lists.{All}
use Rattle.model.specs.Dots.{is_hit}
use Rattle.model.specs.Trees.{Placed}
use Rattle.model.specs.Layout.{none}
use Rattle.model.specs.Memory.{next_at, dot_at, Chained}
use Rattle.memory.specs.Lent.{Held, mem_of}
use Rattle.memory.specs.Rows.{HasPlace, HasRect}
use Rattle.memory.specs.Chains.{HasChain, Passed}
use Rattle.tree.specs.Trees.{InRows}
use Rattle.tree.proofs.Laws.Chains.{chain_rows, chain_has}
use Rattle.model.specs.declared.answers.Found.{Found}
use Rattle.std.proofs.lemmas.List.Edits.{sets}
use Rattle.tree_query.specs.Walks.{ids, chain_hits, hits_after, row_with, after, row_after, Left, ChainWalk, ChainWalked}

-- ---- one dot

module _ (q : Window) (d : Dot) (row : List ℕ) (at : ℕ) where
  missed : is_hit q d ≡ false → (at ≡ hits_after q d at) × (row ≡ row_with q d row at)
  unfolding hits_after row_with
  missed e = (rw e refl, rw e refl)

  pub dot-unreached : {b : Bool} → b ≡ reaches q.rect d.rect → not b ≡ true → (at ≡ hits_after q d at) × (row ≡ row_with q d row at)
  unfolding is_hit
  dot-unreached {b} test n = missed (rw (unreached q.rect d.rect (sym test ∙ not-true b n)) refl)

  pub dot-missed : {b : Bool} → b ≡ is_hit q d → not b ≡ true → (at ≡ hits_after q d at) × (row ≡ row_with q d row at)
  dot-missed {b} test n = missed (sym test ∙ not-true b n)

  pub dot-hit : {b : Bool} → b ≡ is_hit q d → not b ≡ false → (row' : List ℕ) → row' ≡ set row at d.id
      → (at + 1 ≡ hits_after q d at) × (row' ≡ row_with q d row at)
  unfolding hits_after row_with
  dot-hit {b} test n row' k = let e = sym test ∙ not-false b n in (rw e refl, rw e k)

-- ---- the loop

module _ (q : Window) (h : Held) where
  abbrev Chain : ℕ → List Placed → Type 0
  Chain head chain = Chained (mem_of h) head chain none

  -- of the whole chain, from the position at₀ of row₀, this is left
  pub record RestOf (row₀ : List ℕ) (at₀ : ℕ) (whole : List Placed) (row : List ℕ) (at place left : ℕ) : Type 0 where
    pub chain : List Placed
    pub stands : Chain place chain
    pub long : length chain ≡ left
    pub in_rows : All (InRows h.dots h.rects) whole → All (InRows h.dots h.rects) chain
    pub listed : at + length (chain_hits q chain) ≡ at₀ + length (chain_hits q whole)
    pub written : sets row at (ids (chain_hits q chain)) ≡ sets row₀ at₀ (ids (chain_hits q whole))

  pub record Rest (row₀ : List ℕ) (at₀ head count : ℕ) (row : List ℕ) (at place left : ℕ) : Type 0 where
    pub bound : at + left ≤ 65536
    pub rest : (whole : List Placed) → Chain head whole → length whole ≡ count → RestOf row₀ at₀ whole row at place left

  pub rest-start : {row : List ℕ} {at head count : ℕ} → at + count ≤ 65536 → Rest row at head count row at head count
  rest-start few =
      record {
        bound = few;
        rest = λ whole s l. record { chain = whole; stands = s; long = l; in_rows = λ a. a; listed = refl; written = refl };
      }

  module _ {row₀ : List ℕ} {at₀ head count : ℕ} {row : List ℕ} {at place left : ℕ} (inv : Rest row₀ at₀ head count row at place left) where
    turn_of : (whole : List Placed) → RestOf row₀ at₀ whole row at place left → 0 < left
        → RestOf row₀ at₀ whole (row_with q (dot_at h.dots h.rects place) row at) (hits_after q (dot_at h.dots h.rects place) at)
        (next_at h.dots place) (left - 1)
    unfolding hits_after row_with
    turn_of whole r some = go r.chain r.stands r.long r.in_rows r.listed r.written
      where
        go : (chain : List Placed) → Chain place chain → length chain ≡ left → (All (InRows h.dots h.rects) whole → All (InRows h.dots h.rects) chain)
            → at + length (chain_hits q chain) ≡ at₀ + length (chain_hits q whole)
            → sets row at (ids (chain_hits q chain)) ≡ sets row₀ at₀ (ids (chain_hits q whole))
            → RestOf row₀ at₀ whole (row_with q (dot_at h.dots h.rects place) row at) (hits_after q (dot_at h.dots h.rects place) at)
            (next_at h.dots place) (left - 1)
        go [] s l i c w = absurd (omega (arith, l))
        go (d ∷ ds) s l i c w =
            let at_place : dot_at h.dots h.rects place ≡ d.dot = ap (dot_at h.dots h.rects) s.0 ∙ s.1 in
            let next : Chain (next_at h.dots place) ds = subst (λ (p : ℕ). Chain (next_at h.dots p) ds) (sym s.0) s.2 in
            let long : length ds ≡ left - 1 = omega (arith, l) in
            by_bool (is_hit q d.dot)
            (λ e.
            let hit : is_hit q (dot_at h.dots h.rects place) ≡ true = ap (is_hit q) at_place ∙ e in
            rw hit
            (record {
              chain = ds;
              stands = next;
              long = long;
              in_rows = λ a. (i a).1;
              listed = omega (arith, rw e at c);
              written = ap (λ (x : Dot). sets (set row at x.id) (at + 1) (ids (chain_hits q ds))) at_place
                  ∙ ap (λ (k : ℕ). sets (set row at d.dot.id) k (ids (chain_hits q ds))) (add-one at) ∙ (rw e at w);
            }))
            (λ e.
            let miss : is_hit q (dot_at h.dots h.rects place) ≡ false = ap (is_hit q) at_place ∙ e in
            rw miss
            (record { chain = ds; stands = next; long = long; in_rows = λ a. (i a).1; listed = rw e at c; written = rw e at w }))

    at_most : hits_after q (dot_at h.dots h.rects place) at ≤ at + 1
    unfolding hits_after
    at_most = by_bool (is_hit q (dot_at h.dots h.rects place)) (λ e. rw e (omega arith)) (λ e. rw e (omega arith))

    turned : 0 < left → Rest row₀ at₀ head count (row_with q (dot_at h.dots h.rects place) row at) (hits_after q (dot_at h.dots h.rects place) at)
        (next_at h.dots place) (left - 1)
    turned some = record { bound = omega (arith, inv.bound, at_most); rest = λ whole s l. turn_of whole (inv.rest whole s l) some }

    module _ {p place' left' : ℕ} (t : Passed h.dots place left p place' left') where
      -- a turn, by what its calls ensure
      pub rest-turn : {d : Dot} {row' : List ℕ} {at' : ℕ} → d ≡ dot_at h.dots h.rects p → at' ≡ hits_after q d at → row' ≡ row_with q d row at
          → Rest row₀ at₀ head count row' at' place' left'
      rest-turn e k r = rw (r, k, e, t.here, t.next, t.rest) (turned t.some)

      -- the place that a turn reads
      pub rest-place : {found : Found} → ChainWalk h found head count → HasPlace h.dots p × HasRect h.rects p
      rest-place w =
          let r = inv.rest w.chain w.stands w.long in
          subst (λ (k : ℕ). HasPlace h.dots k × HasRect h.rects k) (sym t.here) (go r.chain r.stands r.long (r.in_rows w.dots_in))
        where
          go : (chain : List Placed) → Chain place chain → length chain ≡ left → All (InRows h.dots h.rects) chain
              → HasPlace h.dots place × HasRect h.rects place
          go [] s l a = absurd (omega (arith, l, t.some))
          go (d ∷ ds) s l a = subst (λ (p : ℕ). HasPlace h.dots p × HasRect h.rects p) (sym s.0) a.0

pub has-chain : {h : Held} {found : Found} {head count : ℕ} → ChainWalk h found head count → HasChain h.dots head count
has-chain {h} {head = head} w =
    let bare = chain_rows h.nodes [] h.dots h.rects head w.chain w.stands in
    subst (HasChain h.dots head) w.long (chain_has h.dots h.rects head w.chain bare w.dots_in)

-- nothing is left: the whole chain is listed
module _ (q : Window) (h : Held) {row₀ : List ℕ} (found : Found) {head count : ℕ} {row : List ℕ} {at place left : ℕ} where
  pub rest_end : Rest q h row₀ found.hits head count row at place left → left ≡ 0
      → ChainWalked q h row₀ found head count row (record { hits = at; opened = found.opened })
  unfolding ChainWalked after row_after
  rest_end inv z = λ whole s l.
      let r = inv.rest whole s l in
      go whole r.chain r.long r.listed r.written
    where
      go : (whole chain : List Placed) → length chain ≡ left → at + length (chain_hits q chain) ≡ found.hits + length (chain_hits q whole)
          → sets row at (ids (chain_hits q chain)) ≡ sets row₀ found.hits (ids (chain_hits q whole))
          → Left row₀ found (chain_hits q whole) 0 row (record { hits = at; opened = found.opened })
      go whole [] l c w =
          let hits : at ≡ found.hits + length (chain_hits q whole) = omega (arith, c) in
          let opened : found.opened ≡ found.opened + 0 = omega arith in
          record { answer = λ i. record { hits = hits i; opened = opened i }; written = w }
      go whole (d ∷ ds) l c w = absurd (omega (arith, l))
