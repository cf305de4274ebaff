-- The chain that a deal gives a child.
--     deal-reverse its order: the parent's chain, filtered to the child, in reverse
--     deal_pick    a sum over it is one over the dealt chain
use Rattle.std.specs.Prelude.{◌≡◌, refl, cond, ℕ, ◌+◌, eqb}
use Rattle.std.proofs.Common.{ap, sym, ◌∙◌, arith, eqb-true, eq-eqb, ne_eqb}
use mathlib.Core.List.{List, [], ◌∷◌, reverse, reverse_aux}
use Rattle.std.proofs.lemmas.Bool.{eqb-false}
use Rattle.arithmetic.proofs.Laws.Tests.{by_bool}
use Rattle.geometry.specs.declared.node_data.NodeData.{NodeData}
use Rattle.model.specs.Sums.{sum_over, changed}
use Rattle.model.proofs.Laws.Sums.{changed-same, changed_other, changed-all}
use Rattle.model.specs.Lists.{filter}
use Rattle.model.specs.Trees.{Placed}
use Rattle.model.specs.Insert.{route_dot, deal}

-- the dots of a chain that go to child k, in its order
abbrev pub going_to : NodeData → ℕ → List Placed → List Placed
going_to n k chain = filter (λ d. eqb (route_dot n d) k) chain

deal_onto : (n : NodeData) (k : ℕ) (chains : ℕ → List Placed) (chain : List Placed) → deal n chains chain k ≡ reverse_aux (going_to n k chain) (chains k)
deal_onto n k chains [] = refl
deal_onto n k chains (d ∷ ds) =
    let i = route_dot n d in
    let more = d ∷ chains i in
    deal_onto n k (changed chains i more) ds
    ∙ by_bool (eqb i k)
    (λ e.
    let same = eqb-true i k e in
    rw e (ap (reverse_aux (going_to n k ds)) (ap (changed chains i more) (sym same) ∙ changed-same chains i more ∙ ap (λ (j : ℕ). d ∷ chains j) same)))
    (λ e. rw e (ap (reverse_aux (going_to n k ds)) (changed_other chains i more k (λ x. eqb-false i k e (sym x)))))

pub deal-reverse : (n : NodeData) (k : ℕ) (chain : List Placed) → deal n (λ j. []) chain k ≡ reverse (going_to n k chain)
deal-reverse n k chain = deal_onto n k (λ j. []) chain

-- ---- its sums

pub deal_pick : (n : NodeData) (h : Placed → ℕ) (acc : ℕ → List Placed) (ds : List Placed) (i : ℕ)
    → sum_over h (deal n acc ds i) ≡ sum_over (λ d. cond (eqb (route_dot n d) i) (h d) 0) ds + sum_over h (acc i)
deal_pick n h acc [] i = omega arith
deal_pick n h acc (d ∷ ds) i =
    let j = route_dot n d in
    let here : sum_over h (changed acc j (d ∷ acc j) i) ≡ cond (eqb j i) (h d) 0 + sum_over h (acc i) =
    changed-all (λ (k : ℕ) (l : List Placed). sum_over h l ≡ cond (eqb j k) (h d) 0 + sum_over h (acc k)) acc j (d ∷ acc j) i
    (λ e. rw (eq-eqb j i (sym e)) (ap (λ (k : ℕ). h d + sum_over h (acc k)) (sym e)))
    (λ ne. rw (ne_eqb j i (λ e. ne (sym e))) (omega arith)) in
    omega (arith, deal_pick n h (changed acc j (d ∷ acc j)) ds i, here)
