-- What a chain, a tree and the free groups keep where the words they stand in are kept.
--     chain_frame, tree_frame, free_frame  the same in another memory that agrees where they stand
--     chain-join, chain-cut, chain_push, chain_pop, chain-drop     a chain put together and taken apart, and its three changes
use Rattle.std.specs.Prelude.{◌≡◌, refl, List, [], ◌∷◌, ◌++◌, ℕ, ◌≤◌, ◌+◌, ◌<◌}
use Rattle.std.proofs.Common.{sym, ◌∙◌, subst, arith}
use Rattle.model.specs.Memory.{Mem, Chained, Represents, FreeGroups}
use Rattle.model.specs.Sums.{sum_over, indicator}
use Rattle.model.proofs.Laws.Sums.{indicator-same, sum_below_term}
use Rattle.model.specs.Trees.{Placed, at_place, Tree, leaf, branch, child_node, place_count}
use Rattle.model.specs.Layout.{none}
use Rattle.tree.specs.Trees.{node_count}

-- ---- agreement at a place, at a node

abbrev pub SamePlace : Mem → Mem → ℕ → Type 0
SamePlace m w k = (m.dot k ≡ w.dot k) × (m.next k ≡ w.next k)

abbrev pub SameNode : Mem → Mem → ℕ → Type 0
SameNode m w k = (m.first k ≡ w.first k) × (m.count k ≡ w.count k)

-- ---- the frame of a chain

pub chain_frame : (m w : Mem) (h : ℕ) (ds : List Placed) (e : ℕ) → ((k : ℕ) → 1 ≤ sum_over (at_place k) ds → SamePlace m w k) → Chained m h ds e
    → Chained w h ds e
chain_frame m w h [] e s r = r
chain_frame m w h (d ∷ ds) e s r =
    let p = d.place in
    let q = s p (omega (arith, indicator-same p)) in (
      r.0,
      sym q.0 ∙ r.1,
      chain_frame m w (w.next p) ds e (λ k c. s k (omega arith)) (subst (λ (n : ℕ). Chained m n ds e) q.1 r.2),
    )

-- cut and join
pub chain-join : (m : Mem) (h : ℕ) (xs ys : List Placed) (e f : ℕ) → Chained m h xs e → Chained m e ys f → Chained m h (xs ++ ys) f
chain-join m h [] ys e f a b = subst (λ (n : ℕ). Chained m n ys f) (sym a) b
chain-join m h (d ∷ xs) ys e f a b = (a.0, a.1, chain-join m (m.next d.place) xs ys e f a.2 b)

pub chain-cut : (m : Mem) (h : ℕ) (xs ys : List Placed) (f : ℕ) → Chained m h (xs ++ ys) f → (e : ℕ) × Chained m h xs e × Chained m e ys f
chain-cut m h [] ys f s = (h, refl, s)
chain-cut m h (d ∷ xs) ys f s = let r = chain-cut m (m.next d.place) xs ys f s.2 in (r.0, (s.0, s.1, r.1), r.2)

-- ---- the three changes of a chain

-- push: the place of d holds it, with the old head as its next; nothing else of the chain changes
pub chain_push : (m w : Mem) (h : ℕ) (d : Placed) (ds : List Placed) (e : ℕ) → ((k : ℕ) → 1 ≤ sum_over (at_place k) ds → SamePlace m w k)
    → w.dot d.place ≡ d.dot → w.next d.place ≡ h → Chained m h ds e → Chained w d.place (d ∷ ds) e
chain_push m w h d ds e s i x g = (refl, i, subst (λ (n : ℕ). Chained w n ds e) (sym x) (chain_frame m w h ds e s g))

-- the head goes: the new head is the old head's next
pub chain_pop : (m w : Mem) (h : ℕ) (d : Placed) (ds : List Placed) (e : ℕ) → ((k : ℕ) → 1 ≤ sum_over (at_place k) ds → SamePlace m w k)
    → Chained m h (d ∷ ds) e → Chained w (m.next d.place) ds e
chain_pop m w h d ds e s g = chain_frame m w (m.next d.place) ds e s g.2

-- d goes from behind q: q's next becomes d's next
pub chain-drop : (m w : Mem) (h : ℕ) (xs : List Placed) (q d : Placed) (ys : List Placed) (e : ℕ)
    → ((k : ℕ) → 1 ≤ sum_over (at_place k) xs + sum_over (at_place k) ys → SamePlace m w k)
    → w.dot q.place ≡ m.dot q.place → w.next q.place ≡ m.next d.place
    → Chained m h (xs ++ q ∷ d ∷ ys) e → Chained w h (xs ++ q ∷ ys) e
chain-drop m w h xs q d ys e s i x g =
    let c = chain-cut m h xs (q ∷ d ∷ ys) e g in
    let v = c.2 in
    chain-join w h xs (q ∷ ys) c.0 e
    (chain_frame m w h xs c.0 (λ k b. s k (omega arith)) c.1) (
      v.0,
      i ∙ v.1,
      subst (λ (n : ℕ). Chained w n ys e) (sym x) (chain_frame m w (m.next d.place) ys e (λ k b. s k (omega arith)) v.2.2),
    )

-- ---- the frame of a tree, of the free groups

pub tree_frame : (m w : Mem) (a : ℕ) (t : Tree) → ((k : ℕ) → 1 ≤ node_count k a t → SameNode m w k) → ((k : ℕ) → 1 ≤ place_count k t → SamePlace m w k)
    → Represents m a t → Represents w a t
tree_frame m w a (leaf c) n p r =
    let s = n a (omega (arith, indicator-same a)) in
    (sym s.1 ∙ r.0, subst (λ (x : ℕ). Chained w x c none) s.0 (chain_frame m w (m.first a) c none p r.1))
tree_frame m w a (branch g f) n p r =
    let s = n a (omega (arith, indicator-same a)) in (
      sym s.1 ∙ r.0,
      sym s.0 ∙ r.1,
      λ i b.
          tree_frame m w (child_node g i) (f i)
          (λ k c. n k (omega (arith, sum_below_term 5 (λ j. node_count k (child_node g j) (f j)) i b)))
          (λ k c. p k (omega (arith, sum_below_term 5 (λ j. place_count k (f j)) i b)))
          (r.2 i b),
    )

pub free_frame : (m w : Mem) (h : ℕ) (gs : List ℕ) → ((g i : ℕ) → 1 ≤ sum_over (indicator g) gs → i < 5 → SameNode m w (child_node g i)) → FreeGroups m h gs
    → FreeGroups w h gs
free_frame m w h [] s r = r
free_frame m w h (g ∷ gs) s r =
    let z = s g 0 (omega (arith, indicator-same g)) (omega arith) in (
      r.0,
      sym z.1 ∙ r.1,
      λ i b c. let q = s g i (omega (arith, indicator-same g)) c in (sym q.0 ∙ (r.2 i b c).0, sym q.1 ∙ (r.2 i b c).1),
      free_frame m w (w.first (child_node g 0)) gs (λ k i c b. s k i (omega arith) b) (subst (λ (n : ℕ). FreeGroups m n gs) z.0 r.3),
    )
