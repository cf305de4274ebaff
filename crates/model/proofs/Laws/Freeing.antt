-- The order in which a cleanup turns branches and frees their groups.
--     visits       the branches in the order of the walk, each with whether its five children are empty
--     freed_order  the groups of those that are, freed in that order, each to the head
--     turned-count how many they are: cleanup says yes where that is not 0
use Rattle.std.specs.Prelude.{◌≡◌, refl, Bool, true, ℕ, zero, suc, ◌<◌, length}
use Rattle.std.proofs.Common.{ap, ap₂, sym, ◌∙◌, arith, length-append}
use mathlib.Core.List.{List, [], ◌∷◌, ◌++◌, map, reverse, reverse_aux, reverse_aux-append, reverse_aux-eq}
use Rattle.arithmetic.proofs.Laws.Tests.{by_bool}
use Rattle.model.specs.Sums.{sum_below}
use Rattle.model.specs.Lists.{filter}
use Rattle.model.proofs.Laws.Lists.{filter-append, map-append}
use Rattle.model.specs.Trees.{Tree, leaf, branch}
use Rattle.model.specs.Cleanup.{busy, all_empty, down_from, freed_by, turned}
use Rattle.model.proofs.Laws.Cleanup.{zero_is, children-empty}

pub record Visit : Type 0 where
  pub group : ℕ
  pub empty : Bool

-- f (n - 1), then f (n - 2) .. then f 0
abbrev pub join_down {ℓ} : {A : Type ℓ} → ℕ → (ℕ → List A) → List A
join_down zero f = []
join_down (suc n) f = f n ++ join_down n f

-- §7.2: the branches in the order in which they are visited; child 0 is a leaf
abbrev pub visits : Tree → List Visit
visits (leaf chain) = []
visits (branch g f) = record { group = g; empty = all_empty f } ∷ join_down 5 (λ i. visits (f i))

-- §7.3: those of them that are turned
abbrev pub turned_of : List Visit → List ℕ
turned_of vs = map (λ v. v.group) (filter (λ v. v.empty) vs)

turned-append : (vs ws : List Visit) → turned_of (vs ++ ws) ≡ turned_of vs ++ turned_of ws
turned-append vs ws =
    ap (map (λ v. v.group)) (filter-append (λ v. v.empty) vs ws) ∙ map-append (λ v. v.group) (filter (λ v. v.empty) vs) (filter (λ v. v.empty) ws)

down-none : (n : ℕ) (f : ℕ → List Visit) → ((i : ℕ) → i < n → f i ≡ []) → join_down n f ≡ []
down-none zero f z = refl
down-none (suc n) f z = ap₂ (λ (a b : List Visit). a ++ b) (z n (omega arith)) (down-none n f (λ i b. z i (omega arith)))

-- below a branch with five empty children nothing is visited
none_below : (f : ℕ → Tree) → all_empty f ≡ true → join_down 5 (λ i. visits (f i)) ≡ []
none_below f e = down-none 5 (λ i. visits (f i)) (λ i b. ap visits (children-empty f (zero_is (sum_below 5 (λ j. busy (f j))) e) i b))

down-freed : (n : ℕ) (f : ℕ → Tree) → ((i : ℕ) (free : List ℕ) → freed_by (f i) free ≡ reverse_aux (turned_of (visits (f i))) free)
    → (free : List ℕ) → down_from n (λ i already. freed_by (f i) already) free ≡ reverse_aux (turned_of (join_down n (λ i. visits (f i)))) free
down-freed zero f ih free = refl
down-freed (suc n) f ih free =
    ap (λ already. down_from n (λ i already. freed_by (f i) already) already) (ih n free)
    ∙ down-freed n f ih (reverse_aux (turned_of (visits (f n))) free)
    ∙ sym (reverse_aux-append (turned_of (visits (f n))) (turned_of (join_down n (λ i. visits (f i)))) free)
    ∙ ap (λ gs. reverse_aux gs free) (sym (turned-append (visits (f n)) (join_down n (λ i. visits (f i)))))

freed_onto : (t : Tree) (free : List ℕ) → freed_by t free ≡ reverse_aux (turned_of (visits t)) free
freed_onto (leaf chain) free = refl
freed_onto (branch g f) free =
    by_bool (all_empty f)
    (λ e. rw e (ap (λ vs. reverse_aux (turned_of vs) (g ∷ free)) (sym (none_below f e))))
    (λ e. rw e (down-freed 5 f (λ i x. freed_onto (f i) x) free))

-- §2.10: the last group freed is the head
pub freed_order : (t : Tree) (free : List ℕ) → freed_by t free ≡ reverse (turned_of (visits t)) ++ free
freed_order t free = freed_onto t free ∙ reverse_aux-eq (turned_of (visits t)) free

down-count : (n : ℕ) (f : ℕ → Tree) → ((i : ℕ) → turned (f i) ≡ length (turned_of (visits (f i))))
    → sum_below n (λ i. turned (f i)) ≡ length (turned_of (join_down n (λ i. visits (f i))))
down-count zero f ih = refl
down-count (suc n) f ih =
    let rest = join_down n (λ i. visits (f i)) in
    omega (arith, down-count n f ih, ih n, ap length (turned-append (visits (f n)) rest), length-append (turned_of (visits (f n))) (turned_of rest))

pub turned-count : (t : Tree) → turned t ≡ length (turned_of (visits t))
turned-count (leaf chain) = refl
turned-count (branch g f) =
    by_bool (all_empty f)
    (λ e. rw e (ap (λ vs. suc (length (turned_of vs))) (sym (none_below f e))))
    (λ e. rw e (down-count 5 f (λ i. turned-count (f i))))
