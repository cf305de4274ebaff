-- The splits of an insert, and refusal 7.
--     needed-count         the splits needed, by the recursion of Laws.Insert
--     splits-enough        any D groups are enough for them
--     needed-le            the splits needed are at most D
--     made-needed          an insert that finds that many groups free makes just them, and takes as many groups
--     made_fewer           one that doesn't makes fewer, so that refusal 7 is told exactly by the insert itself
use Rattle.std.specs.Prelude.{◌≡◌, List, [], ◌∷◌, ℕ, zero, suc, ◌+◌, ◌≤◌, ◌<◌, length}
use Rattle.std.proofs.Math.Path.{sym}
use Rattle.std.proofs.Common.{◌∙◌, arith}
use Rattle.arithmetic.proofs.Laws.Tests.{by_bool}
use Rattle.geometry.specs.declared.settings.Settings.{Settings}
use Rattle.geometry.specs.declared.node_data.NodeData.{NodeData}
use Rattle.geometry.specs.Settings.{D}
use Rattle.geometry.specs.Cells.{child_data}
use Rattle.model.specs.declared.Dot.{Dot}
use Rattle.model.specs.Lists.{up_to}
use Rattle.model.proofs.Laws.Lists.{length-up_to}
use Rattle.model.specs.Trees.{Placed, Tree, leaf, branch}
use Rattle.model.specs.Insert.{route_dot, dealt, must_split, insert_at}
use Rattle.model.specs.Shapes.{Shape, root, grown_by, placed_in, splits_made, splits_needed}
use Rattle.model.proofs.Laws.Insert.{insert-splits, split_count-le}
use Rattle.model.specs.Insert.{split_count}

abbrev counted : Dot → Shape → ℕ
counted dot x = split_count x.settings (D x.settings) (root x) dot.rect x.tree

module _ (dot : Dot) (x : Shape) where
  enough : (many : List ℕ) → D x.settings ≤ length many → (grown_by dot x many).splits ≡ counted dot x
  enough many h =
      let s = x.settings in
      (insert-splits s (D s) (root x) (placed_in dot x) x.tree many (omega (arith, split_count-le s (D s) (root x) dot.rect x.tree))).0

  pub needed-count : splits_needed dot x ≡ counted dot x
  unfolding splits_needed
  needed-count = enough (up_to (D x.settings)) (omega (arith, length-up_to (D x.settings)))

  -- §11.4: with groups enough
  pub splits-enough : (many : List ℕ) → D x.settings ≤ length many → (grown_by dot x many).splits ≡ splits_needed dot x
  splits-enough many h = enough many h ∙ sym needed-count

  pub needed-le : splits_needed dot x ≤ D x.settings
  needed-le = let s = x.settings in omega (arith, needed-count, split_count-le s (D s) (root x) dot.rect x.tree)

  -- it is not refused 7: the answer is the splits needed, and as many groups are taken
  pub made-needed : splits_needed dot x ≤ length x.free_groups
      → (splits_made dot x ≡ splits_needed dot x) × (length (grown_by dot x x.free_groups).free + splits_needed dot x ≡ length x.free_groups)
  unfolding splits_made
  made-needed k =
      let s = x.settings in
      let i = insert-splits s (D s) (root x) (placed_in dot x) x.tree x.free_groups (omega (arith, needed-count)) in
      (i.0 ∙ sym needed-count, omega (arith, i.1, needed-count))

-- each split takes a group, so an insert makes at most as many splits as groups are free
splits-le_free : (s : Settings) (n : ℕ) (c : NodeData) (d : Placed) (t : Tree) (free : List ℕ) → (insert_at s n c d t free).splits ≤ length free
splits-le_free s zero c d (leaf ds) free = omega arith
splits-le_free s zero c d (branch g f) free = omega arith
splits-le_free s (suc n) c d (leaf ds) [] = omega arith
splits-le_free s (suc n) c d (leaf ds) (g ∷ free) =
    let i = route_dot c d in
    by_bool (must_split s c ds) (λ e. rw e (omega (arith, splits-le_free s n (child_data c i) d (dealt c ds i) free))) (λ e. rw e (omega arith))
splits-le_free s (suc n) c d (branch g f) free = let i = route_dot c d in splits-le_free s n (child_data c i) d (f i) free

-- it is refused 7: with the groups that are free it would make fewer splits than it needs
pub made_fewer : (dot : Dot) (x : Shape) → length x.free_groups < splits_needed dot x → splits_made dot x < splits_needed dot x
unfolding splits_made
made_fewer dot x k = let s = x.settings in omega (arith, splits-le_free s (D s) (root x) (placed_in dot x) x.tree x.free_groups)
