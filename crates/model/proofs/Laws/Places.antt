-- All places of a tree's memory, dots and free ones, read one after another.
--     dots-stand   the words of a dot's place are the dot's
--     places-sum   THE LAW: a weight over all places is one over the dots in the tree, and that of the zero dot once for each free place
--     live_places, live-sum     the places that are not free are those of the dots
use Rattle.std.specs.Prelude.{◌≡◌, refl, List, [], ◌∷◌, map, Bool, cond, ℕ, ◌+◌, ◌*◌, ◌≤◌, length, eqb}
use Rattle.std.proofs.Common.{ap, sym, ◌∙◌, arith, eq-eqb, ne_eqb}
use Rattle.model.specs.declared.Dot.{Dot}
use Rattle.model.specs.Sums.{indicator, sum_over, sum_below}
use Rattle.model.specs.Lists.{All, filter, up_to, count}
use Rattle.model.specs.Dots.{zero_dot}
use Rattle.model.specs.Trees.{Placed, Tree, leaf, branch, child_node, sum_dots, AllDots, dots}
use Rattle.model.specs.Shapes.{Shape, Valid}
use Rattle.model.specs.Layout.{World, none, blank}
use Rattle.model.specs.Memory.{Mem, memory, Chained, Represents, Represented}
use Rattle.model.proofs.Laws.Sums.{indicator-same, sum_over-map, sum_below_ext}
use Rattle.model.proofs.Laws.Lists.{all_map, sum_over-all, sum_over-zero, sum_over-join_below, sum-filter}
use Rattle.model.proofs.Laws.Trees.{sum_dots-dots, all_dots-dots}
use Rattle.model.proofs.Laws.Dots.{on_dot}
use Rattle.model.proofs.Laws.Shapes.{below-le, places_weigh}

chain-stands : (m : Mem) (h : ℕ) (ds : List Placed) (e : ℕ) → Chained m h ds e → All (λ d. m.dot d.place ≡ d.dot) ds
chain-stands m h [] e c = tt
chain-stands m h (d ∷ ds) e c = (c.1, chain-stands m (m.next d.place) ds e c.2)

pub dots-stand : (m : Mem) (a : ℕ) (t : Tree) → Represents m a t → AllDots (λ d. m.dot d.place ≡ d.dot) t
dots-stand m a (leaf chain) r = chain-stands m (m.first a) chain none r.1
dots-stand m a (branch g f) r = λ i b. dots-stand m (child_node g i) (f i) (r.2 i b)

-- the weight of a free place is the zero dot's
free_weigh : (m : Mem) (k : Dot → ℕ) (h : ℕ) (ps : List ℕ) → Chained m h (map blank ps) none → sum_over (λ p. k (m.dot p)) ps ≡ length ps * k zero_dot
free_weigh m k h [] c = omega arith
free_weigh m k h (p ∷ ps) c = omega (arith, ap k c.1, free_weigh m k (m.next p) ps c.2)

pub places-sum : (w : World) (x : Shape) → Valid x → Represented w x → (k : Dot → ℕ)
    → sum_below x.places (λ p. k ((memory w).dot p)) ≡ sum_dots (on_dot k) x.tree + length x.free_places * k zero_dot
places-sum w x v r k =
    let m = memory w in
    let here : Placed → ℕ = λ d. k (m.dot d.place) in
    let live : sum_dots here x.tree ≡ sum_dots (on_dot k) x.tree =
    sym (sum_dots-dots here x.tree)
    ∙ sum_over-all here (on_dot k) (dots x.tree) (λ d e. ap k e)
    (all_dots-dots (λ d. m.dot d.place ≡ d.dot) x.tree (dots-stand m 0 x.tree r.tree))
    ∙ sum_dots-dots (on_dot k) x.tree in
    omega (arith, places_weigh x v (λ p. k (m.dot p)), live, free_weigh m k w.state.free_place x.free_places r.places)

-- ---- the places that are not free

abbrev pub live_places : Shape → List ℕ
live_places x = filter (λ p. eqb (count p x.free_places) 0) (up_to x.places)

-- each element of a list is counted in it
counted-all : (ps : List ℕ) → All (λ p. 1 ≤ count p ps) ps
counted-all [] = tt
counted-all (p ∷ ps) =
    (omega (arith, indicator-same p), all_map (λ k. 1 ≤ count k ps) (λ k. 1 ≤ count k (p ∷ ps)) (λ k c. omega (arith, c)) ps (counted-all ps))

pub live-sum : (x : Shape) → Valid x → (f : ℕ → ℕ) → sum_over f (live_places x) ≡ sum_dots (λ d. f d.place) x.tree
live-sum x v f =
    let free = x.free_places in
    let live : ℕ → Bool = λ p. eqb (count p free) 0 in
    let g : ℕ → ℕ = λ p. cond (live p) (f p) 0 in
    let ps = map (λ d. d.place) (dots x.tree) in
    let weigh : (h : ℕ → ℕ) → sum_over h ps ≡ sum_dots (λ d. h d.place) x.tree =
    λ h. sum_over-map h (λ d. d.place) (dots x.tree) ∙ sum_dots-dots (λ d. h d.place) x.tree in
    let none_free : sum_over g free ≡ 0 =
    sum_over-zero g free
    (all_map (λ p. 1 ≤ count p free) (λ p. g p ≡ 0) (λ p c. rw (ne_eqb (count p free) 0 (λ z. omega (arith, c, z))) refl) free (counted-all free)) in
    let all_live : sum_over g ps ≡ sum_over f ps =
    sum_over-all g f ps
    (λ p c. rw (eq-eqb (count p free) 0 (omega (arith, c, weigh (indicator p), v.places_once p, below-le p x.places))) refl)
    (counted-all ps) in
    omega (
      arith,
      sum-filter f live (up_to x.places),
      sum_over-join_below g x.places (λ k. k ∷ []),
      sum_below_ext x.places (λ k. g k + 0) g (λ k b. omega arith),
      places_weigh x v g,
      none_free,
      weigh g,
      all_live,
      weigh f,
    )
