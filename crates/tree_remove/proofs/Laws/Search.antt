-- The search along a leaf's chain, and the dot that it finds taken out.
--     Searching    the loop's invariant: what is found from here on is what is found from the head
--     search_start, search_here, search_on its begin; the next place is there; a turn
--     search_has   the chain can be walked
--     search_over, search_found    its two ends
use Rattle.std.specs.Prelude.{◌≡◌, refl, List, [], ◌∷◌, Option, Some, None, true, false, ℕ, zero, suc, ◌-◌}
use Rattle.std.proofs.Common.{ap, sym, ◌∙◌, subst, arith, eq-eqb, ne_eqb}
use Rattle.model.specs.declared.Dot.{Dot}
use Rattle.model.specs.Dots.{matches}
use Rattle.model.specs.Trees.{Placed}
use Rattle.model.specs.Memory.{id_at, next_at}
use Rattle.memory.specs.declared.node.Node.{Node}
use Rattle.memory.specs.Rows.{HasPlace, set_node_at, set_next_at}
use Rattle.memory.specs.Chains.{HasChain, Passed}
use Rattle.tree_remove.specs.declared.Hit.{Hit}
use Rattle.tree_remove.specs.Search.{hit_in, Linked, Searchable, unlinked_node, unlinked_dots}

match_same : (id : ℕ) (d : Dot) → id ≡ d.id → matches id d ≡ true
unfolding matches
match_same id d e = eq-eqb id d.id e

match_other : (id : ℕ) (d : Dot) → ¬ (id ≡ d.id) → matches id d ≡ false
unfolding matches
match_other id d ne = ne_eqb id d.id ne

-- ---- the loop

-- the search that began at a head, with so many places, is at a place, with so many left
pub record Searching (dots : List ℕ) (id head : ℕ) (before : Option ℕ) (count at : ℕ) (previous : Option ℕ) (left : ℕ) : Type 0 where
  pub rest : (chain : List Placed) → Linked dots head count chain
      → (ds : List Placed) × Linked dots at left ds × (hit_in id before chain ≡ hit_in id previous ds)

pub search_start : {dots : List ℕ} {id head count : ℕ} {before : Option ℕ} → Searching dots id head before count head before count
search_start = record { rest = λ chain l. (chain, l, refl) }

linked_has : (dots : List ℕ) (at left : ℕ) (ds : List Placed) → Linked dots at left ds → HasChain dots at left
unfolding HasChain
linked_has dots at zero ds k = tt
linked_has dots at (suc left) [] k = absurd (omega (arith, k))
linked_has dots at (suc left) (d ∷ ds) k =
    let less : suc left - 1 ≡ left = omega arith in
    (k.1, linked_has dots (next_at dots at) left ds (subst (λ (n : ℕ). Linked dots (next_at dots at) n ds) less k.4))

pub search_has : {dots : List ℕ} {node : Node} → Searchable dots node → HasChain dots node.first node.count
search_has {dots} {node} s = linked_has dots node.first node.count s.chain s.linked

module _ {dots : List ℕ} {id head count at left : ℕ} {before previous : Option ℕ} (s : Searching dots id head before count at previous left) where
  pub search_over : left ≡ 0 → (chain : List Placed) → Linked dots head count chain → None ≡ hit_in id before chain
  search_over e chain l = go (s.rest chain l).0 (s.rest chain l).1 (s.rest chain l).2
    where
      go : (ds : List Placed) → Linked dots at left ds → hit_in id before chain ≡ hit_in id previous ds → None ≡ hit_in id before chain
      go [] k q = sym q
      go (d ∷ ds) k q = absurd (omega (arith, k.3))

  module _ {place next left' : ℕ} (p : Passed dots at left place next left') where
    pub search_here : {node : Node} → Searchable dots node → head ≡ node.first → count ≡ node.count → HasPlace dots place
    search_here {node} given eh ec = subst (HasPlace dots) (sym p.here) (go from.0 from.1)
      where
        from : (ds : List Placed) × Linked dots at left ds × (hit_in id before given.chain ≡ hit_in id previous ds)
        from = s.rest given.chain (rw (eh, ec) given.linked)

        go : (ds : List Placed) → Linked dots at left ds → HasPlace dots at
        go [] k = absurd (omega (arith, k, p.some))
        go (d ∷ ds) k = k.1

    module _ {found : ℕ} (read : found ≡ id_at dots place) where
      id-here : (d : Placed) → id_at dots at ≡ d.dot.id → found ≡ d.dot.id
      id-here d k = read ∙ ap (id_at dots) p.here ∙ k

      pub search_found : found ≡ id → (chain : List Placed) → Linked dots head count chain
          → Some (record { place = place; previous = previous }) ≡ hit_in id before chain
      search_found e chain l = go (s.rest chain l).0 (s.rest chain l).1 (s.rest chain l).2
        where
          go : (ds : List Placed) → Linked dots at left ds → hit_in id before chain ≡ hit_in id previous ds
              → Some (record { place = place; previous = previous }) ≡ hit_in id before chain
          go [] k q = absurd (omega (arith, k, p.some))
          go (d ∷ ds) k q =
              let same : d.place ≡ place = sym k.0 ∙ sym p.here in
              sym (q ∙ rw (match_same id d.dot (sym e ∙ id-here d k.2)) (λ i. Some (record { place = same i; previous = previous })))

      pub search_on : ¬ (found ≡ id) → Searching dots id head before count next (Some place) left'
      search_on other = rw p.rest (record { rest = λ chain l. go chain (s.rest chain l).0 (s.rest chain l).1 (s.rest chain l).2 })
        where
          go : (chain ds : List Placed) → Linked dots at left ds → hit_in id before chain ≡ hit_in id previous ds
              → (ds : List Placed) × Linked dots next (left - 1) ds × (hit_in id before chain ≡ hit_in id (Some place) ds)
          go chain [] k q = absurd (omega (arith, k, p.some))
          go chain (d ∷ ds) k q =
              let same : d.place ≡ place = sym k.0 ∙ sym p.here in
              let passed : hit_in id previous (d ∷ ds) ≡ hit_in id (Some d.place) ds = rw (match_other id d.dot (λ x. other (id-here d k.2 ∙ sym x))) in
              (ds, subst (λ (y : ℕ). Linked dots y (left - 1) ds) (sym p.next) k.4, q ∙ passed ∙ ap (λ (y : ℕ). hit_in id (Some y) ds) same)
