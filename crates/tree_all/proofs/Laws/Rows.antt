-- Ids written one after another.
--     written_none, written_then, written_row      nothing more; one walk after another; the row keeps its length
use Rattle.std.specs.Prelude.{◌≡◌, refl, List, [], ◌++◌, ℕ, ◌+◌, length}
use Rattle.std.proofs.Common.{ap, sym, ◌∙◌, arith, length-append}
use Rattle.std.proofs.lemmas.List.Edits.{sets}
use Rattle.std.proofs.Math.Seq.{length-sets}
use Rattle.model.specs.Trees.{Placed, id_of}
use Rattle.model.proofs.Laws.Lists.{map-append, length-map}
use Rattle.tree.proofs.Laws.Rows.{sets_append}
use Rattle.tree_all.specs.Walks.{ids, Written}

pub written_none : (row : List ℕ) (at : ℕ) → Written row at [] row at
written_none row at = record { position = omega arith; written = refl }

module _ {row row₁ row₂ : List ℕ} {at k₁ k₂ : ℕ} {ds es : List Placed} where
  pub written_then : Written row at ds row₁ k₁ → Written row₁ k₁ es row₂ k₂ → Written row at (ds ++ es) row₂ k₂
  written_then a b =
      let after : k₁ ≡ at + length (ids ds) = omega (arith, a.position, length-map id_of ds) in
      record {
        position = omega (arith, a.position, b.position, length-append ds es);
        written = b.written ∙ (λ i. sets (a.written i) (after i) (ids es)) ∙ sym (sets_append row at (ids ds) (ids es))
            ∙ ap (sets row at) (sym (map-append id_of ds es));
      }

pub written_row : {row : List ℕ} {at : ℕ} {ds : List Placed} {row' : List ℕ} {k : ℕ} → Written row at ds row' k → length row' ≡ length row
written_row {row} {at} {ds} w = ap length w.written ∙ length-sets row at (ids ds)
