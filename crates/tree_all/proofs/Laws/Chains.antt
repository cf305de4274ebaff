-- The loop over a chain: what is left to write, at each turn.
--     has-chain    the chain's places are in the rows
--     Rest         what has been written and what is left make the whole
--     rest-start, rest-turn, rest_end      the loop's three steps
--     rest-place   what a turn asks: the place that it reads is in the rows
use Rattle.std.specs.Prelude.{◌≡◌, refl, ℕ, ◌+◌, ◌-◌, ◌<◌, set}
use Rattle.std.proofs.Common.{ap, sym, ◌∙◌, subst, add-one, arith, length-set}
use mathlib.Core.List.{List, [], ◌∷◌}
use Rattle.std.proofs.Math.ListN.{length}
use Rattle.std.proofs.Math.Seq.{sets}
use Rattle.model.specs.declared.Dot.{Dot}
use Rattle.model.specs.Trees.{Placed}
use Rattle.model.specs.Layout.{none}
use Rattle.model.specs.Memory.{read, id_at, next_at, Chained}
use Rattle.memory.specs.Rows.{HasPlace}
use Rattle.memory.specs.Chains.{HasChain, Passed}
use Rattle.tree.proofs.Laws.Chains.{chain_has}
use Rattle.tree_all.specs.Walks.{ids, Written, ChainInRows, ChainList, ChainListed}

pub has-chain : {dots row : List ℕ} {at head count : ℕ} → ChainList dots row at head count → HasChain dots head count
has-chain {dots} {head = head} w =
    subst (HasChain dots head) w.long (chain_has dots w.stands.rects head w.chain w.stands.stands w.stands.in_rows)

-- of the whole chain, from the position at₀ of row₀, this is left
pub record RestOf (dots row₀ : List ℕ) (at₀ : ℕ) (whole : List Placed) (row : List ℕ) (at place left : ℕ) : Type 0 where
  pub chain : List Placed
  pub stands : ChainInRows dots place chain
  pub long : length chain ≡ left
  pub written : sets row at (ids chain) ≡ sets row₀ at₀ (ids whole)

pub record Rest (dots row₀ : List ℕ) (at₀ head count : ℕ) (row : List ℕ) (at place left : ℕ) : Type 0 where
  pub same : length row ≡ length row₀
  pub position : at + left ≡ at₀ + count
  pub rest : (whole : List Placed) → ChainInRows dots head whole → length whole ≡ count → RestOf dots row₀ at₀ whole row at place left

pub rest-start : {dots row : List ℕ} {at here head count : ℕ} → here ≡ at → Rest dots row at head count row here head count
rest-start e = rw e (record { same = refl; position = refl; rest = λ whole s l. record { chain = whole; stands = s; long = l; written = refl } })

module _ {dots row₀ : List ℕ} {at₀ head count : ℕ} {row : List ℕ} {at place left : ℕ} (inv : Rest dots row₀ at₀ head count row at place left) where
  turn_of : (whole : List Placed) → RestOf dots row₀ at₀ whole row at place left → 0 < left
      → RestOf dots row₀ at₀ whole (set row at (id_at dots place)) (at + 1) (next_at dots place) (left - 1)
  turn_of whole r h = go r.chain r.stands r.long r.written
    where
      go : (chain : List Placed) → ChainInRows dots place chain → length chain ≡ left → sets row at (ids chain) ≡ sets row₀ at₀ (ids whole)
          → RestOf dots row₀ at₀ whole (set row at (id_at dots place)) (at + 1) (next_at dots place) (left - 1)
      go [] s l w = absurd (omega (arith, l))
      go (d ∷ ds) s l w =
          let here = s.stands in
          let id : id_at dots place ≡ d.dot.id = ap (id_at dots) here.0 ∙ ap (λ (x : Dot). x.id) here.1 in
          record {
            chain = ds;
            stands =
                record {
                  rects = s.rects;
                  stands = subst (λ (p : ℕ). Chained (read [] dots s.rects) (next_at dots p) ds none) (sym here.0) here.2;
                  in_rows = s.in_rows.1;
                };
            long = omega (arith, l);
            written = ap (λ (k : ℕ). sets (set row at k) (at + 1) (ids ds)) id ∙ ap (λ (k : ℕ). sets (set row at d.dot.id) k (ids ds)) (add-one at) ∙ w;
          }

  -- a turn, by what its calls ensure
  pub rest-turn : {p place' left' here id at' : ℕ} → Passed dots place left p place' left' → id ≡ id_at dots p → here ≡ at → at' ≡ at + 1
      → Rest dots row₀ at₀ head count (set row here id) at' place' left'
  rest-turn t e here next =
      rw (e ∙ ap (id_at dots) t.here, t.next, t.rest, here, next)
      (record {
        same = length-set row at (id_at dots place) ∙ inv.same;
        position = omega (arith, inv.position);
        rest = λ whole s k. turn_of whole (inv.rest whole s k) t.some;
      })

  module _ (w : ChainList dots row₀ at₀ head count) {p place' left' : ℕ} (t : Passed dots place left p place' left') where
    pub rest-place : HasPlace dots p
    rest-place = let r = inv.rest w.chain w.stands w.long in subst (HasPlace dots) (sym t.here) (go r.chain r.stands r.long)
      where
        go : (chain : List Placed) → ChainInRows dots place chain → length chain ≡ left → HasPlace dots place
        go [] s l = absurd (omega (arith, l, t.some))
        go (d ∷ ds) s l = subst (HasPlace dots) (sym s.stands.0) s.in_rows.0.0

  -- nothing is left: the whole chain is written
  pub rest_end : left ≡ 0 → ChainListed dots row₀ at₀ head count row (at₀ + count)
  unfolding ChainListed
  rest_end z = λ whole s l. let r = inv.rest whole s l in go whole l r.chain r.long r.written
    where
      go : (whole : List Placed) → length whole ≡ count → (chain : List Placed) → length chain ≡ left
          → sets row at (ids chain) ≡ sets row₀ at₀ (ids whole) → Written row₀ at₀ whole row (at₀ + count)
      go whole l [] k w = record { position = omega (arith, l); written = w }
      go whole l (d ∷ ds) k w = absurd (omega (arith, k))
