-- A chain in the rows.
--     stands_here  where places are left, the next one is there
--     chained-stands       a chain of the memory stands in the rows
--     chain_rows   a chain does not stand in the nodes
--     chain_has, stands_has        a chain can be walked
use Rattle.std.specs.Prelude.{◌≡◌, List, [], ◌∷◌, ℕ, zero, suc, ◌-◌, ◌≤◌, ℤ, length}
use Rattle.std.proofs.Common.{ap, sym, ◌∙◌, subst, arith}
use Rattle.model.specs.Sums.{sum_over}
use Rattle.model.proofs.Laws.Sums.{indicator-same}
use Rattle.model.specs.Trees.{Placed, at_place}
use Rattle.model.specs.Layout.{none}
use Rattle.model.specs.Memory.{read, next_at, dot_at, Chained}
use Rattle.model.specs.Lists.{All}
use Rattle.memory.specs.Rows.{HasPlace, HasRect}
use Rattle.memory.specs.Chains.{HasChain}
use Rattle.tree.specs.Trees.{InRows}
use Rattle.tree.specs.Chains.{ChainStands}

pub stands_here : (dots : List ℕ) (rects : List ℤ) (h n : ℕ) (ds : List Placed) → ChainStands dots rects h n ds → 1 ≤ n → HasPlace dots h × HasRect rects h
stands_here dots rects h n [] s some = absurd (omega arith)
stands_here dots rects h n (d ∷ ds) s some = (s.1, s.2)

pub chained-stands : (dots : List ℕ) (rects : List ℤ) (firsts counts : ℕ → ℕ) (h n : ℕ) (ds : List Placed)
    → ((p : ℕ) → 1 ≤ sum_over (at_place p) ds → HasPlace dots p × HasRect rects p) → n ≡ length ds
    → Chained (record { first = firsts; count = counts; dot = dot_at dots rects; next = next_at dots }) h ds none → ChainStands dots rects h n ds
chained-stands dots rects firsts counts h n [] inside e c = e
chained-stands dots rects firsts counts h n (d ∷ ds) inside e c =
    let p = d.place in
    let i = inside p (omega (arith, indicator-same p)) in (
      c.0,
      subst (HasPlace dots) (sym c.0) i.0,
      subst (HasRect rects) (sym c.0) i.1,
      ap (dot_at dots rects) c.0 ∙ c.1,
      omega arith,
      subst (λ (y : ℕ). ChainStands dots rects y (n - 1) ds) (ap (next_at dots) (sym c.0))
          (chained-stands dots rects firsts counts (next_at dots p) (n - 1) ds (λ k b. inside k (omega arith)) (omega arith) c.2),
    )

pub chain_rows : (nodes nodes' dots : List ℕ) (rects : List ℤ) (h : ℕ) (ds : List Placed) → Chained (read nodes dots rects) h ds none
    → Chained (read nodes' dots rects) h ds none
chain_rows nodes nodes' dots rects h [] s = s
chain_rows nodes nodes' dots rects h (d ∷ ds) s = (s.0, s.1, chain_rows nodes nodes' dots rects (next_at dots d.place) ds s.2)

pub chain_has : (dots : List ℕ) (rects : List ℤ) (h : ℕ) (ds : List Placed) → Chained (read [] dots rects) h ds none → All (InRows dots rects) ds
    → HasChain dots h (length ds)
unfolding HasChain
chain_has dots rects h [] s i = tt
chain_has dots rects h (d ∷ ds) s i = (
  subst (HasPlace dots) (sym s.0) i.0.0,
  chain_has dots rects (next_at dots h) ds (subst (λ (p : ℕ). Chained (read [] dots rects) (next_at dots p) ds none) (sym s.0) s.2) i.1,
)

pub stands_has : (dots : List ℕ) (rects : List ℤ) (h n : ℕ) (ds : List Placed) → ChainStands dots rects h n ds → HasChain dots h n
unfolding HasChain
stands_has dots rects h zero ds s = tt
stands_has dots rects h (suc n) [] s = absurd (omega (arith, s))
stands_has dots rects h (suc n) (d ∷ ds) s =
    let less : suc n - 1 ≡ n = omega arith in
    (s.1, stands_has dots rects (next_at dots h) n ds (subst (λ (k : ℕ). ChainStands dots rects (next_at dots h) k ds) less s.5))
