-- What a walk has found.
--     left-none, left_then         nothing more; one walk after another
--     hits-size, opened_total      no more dots are listed than there are, and no more nodes opened
use Rattle.std.specs.Prelude.{◌≡◌, refl, List, [], ◌++◌, Bool, cond}
use Rattle.std.proofs.Math.Path.{ap, sym}
use Rattle.std.proofs.Common.{◌∙◌, arith}
use Prim.Native.Nat.{ℕ, ◌+◌, ◌≤◌}
use Rattle.std.proofs.Math.ListN.{length, length-append}
use Rattle.arithmetic.proofs.Laws.Tests.{by_bool}
use Rattle.geometry.specs.declared.aabb.AABB.{AABB}
use Rattle.geometry.specs.declared.node_data.NodeData.{NodeData}
use Rattle.geometry.specs.Cells.{child_data, opens}
use Rattle.model.specs.declared.Window.{Window}
use Rattle.model.proofs.Laws.Sums.{sum_over-one, sum_below-le}
use Rattle.model.specs.Lists.{filter}
use Rattle.model.proofs.Laws.Lists.{map-append, length-map, length-join, filter-le}
use Rattle.model.specs.Dots.{is_hit}
use Rattle.model.specs.Trees.{Placed, Tree, leaf, branch, size}
use Rattle.model.specs.Query.{hits, opened}
use Rattle.model.specs.declared.answers.Found.{Found}
use Rattle.tree.specs.Trees.{node_total}
use Rattle.std.proofs.lemmas.List.Edits.{sets}
use Rattle.tree_query.specs.Walks.{ids, after, row_after, Left}
use Rattle.tree.proofs.Laws.Rows.{sets_append}

pub left-none : (row : List ℕ) (found : Found) → Left row found [] 0 row found
unfolding after row_after
left-none row found =
    let h : found.hits ≡ found.hits + 0 = omega arith in
    let o : found.opened ≡ found.opened + 0 = omega arith in
    record { answer = λ i. record { hits = h i; opened = o i }; written = refl }

module _ {row row₁ row₂ : List ℕ} {found f₁ f₂ : Found} {ds es : List Placed} {j k : ℕ} where
  pub left_then : Left row found ds j row₁ f₁ → Left row₁ f₁ es k row₂ f₂ → Left row found (ds ++ es) (j + k) row₂ f₂
  unfolding after row_after
  left_then a b =
      let at : f₁.hits ≡ found.hits + length ds = ap (λ (f : Found). f.hits) a.answer in
      let o : f₁.opened ≡ found.opened + j = ap (λ (f : Found). f.opened) a.answer in
      let hits : f₂.hits ≡ found.hits + length (ds ++ es) = omega (arith, ap (λ (f : Found). f.hits) b.answer, length-append ds es) in
      let opened : f₂.opened ≡ found.opened + (j + k) = omega (arith, ap (λ (f : Found). f.opened) b.answer) in
      let id_of : Placed → ℕ = λ d. d.dot.id in
      let next : f₁.hits ≡ found.hits + length (ids ds) = omega (arith, length-map id_of ds) in
      record {
        answer = λ i. record { hits = hits i; opened = opened i };
        written = b.written
            ∙ (λ i. sets (a.written i) (next i) (ids es))
            ∙ sym (sets_append row found.hits (ids ds) (ids es))
            ∙ ap (sets row found.hits) (sym (map-append id_of ds es));
      }

module _ (q : Window) where
  pub hits-size : (n : NodeData) (t : Tree) → length (hits q n t) ≤ size t
  hits-size n (leaf chain) =
      let hit : Placed → Bool = λ d. is_hit q d.dot in
      omega (arith, filter-le (λ (d : Placed). 1) hit chain, sum_over-one (filter hit chain))
  hits-size n (branch g f) =
      let H : ℕ → List Placed = λ i. cond (opens q.rect n i) (hits q (child_data n i) (f i)) [] in
      let each : (i : ℕ) → length (H i) ≤ size (f i) = λ i.
      by_bool (opens q.rect n i) (λ e. rw e (hits-size (child_data n i) (f i))) (λ e. rw e (omega arith)) in
      omega (arith, length-join 5 H, sum_below-le 5 (λ i. length (H i)) (λ i. size (f i)) (λ i b. each i))

module _ (q : AABB) where
  pub opened_total : (n : NodeData) (t : Tree) → opened q n t ≤ node_total t
  opened_total n (leaf chain) = omega arith
  opened_total n (branch g f) =
      let O : ℕ → ℕ = λ i. cond (opens q n i) (opened q (child_data n i) (f i)) 0 in
      let each : (i : ℕ) → O i ≤ node_total (f i) = λ i.
      by_bool (opens q n i) (λ e. rw e (opened_total (child_data n i) (f i))) (λ e. rw e (omega arith)) in
      omega (arith, sum_below-le 5 O (λ i. node_total (f i)) (λ i b. each i))
