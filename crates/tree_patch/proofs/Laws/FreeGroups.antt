-- The walk along the free groups as far as a number of them.
--     free-short   it has come to the end
use Rattle.std.specs.Prelude.{◌≡◌, false, List, ℕ, ◌<◌, leb, length}
use Rattle.std.proofs.Common.{sym, arith}
use Rattle.std.proofs.lemmas.Bool.{lt-leb}
use Rattle.model.specs.Layout.{none}
use Rattle.tree_insert.specs.FreeGroups.{FreeIn}
use Rattle.tree_insert.proofs.Laws.FreeGroups.{Walking, walk_end}

module _ {nodes : List ℕ} {head at passed : ℕ} (w : Walking nodes head at passed) (number : ℕ) where
  pub free-short : passed < number → at ≡ none → (free : List ℕ) → FreeIn nodes head free → false ≡ leb number (length free)
  free-short more ended free listed = sym (lt-leb number (length free) (omega (arith, walk_end w ended free listed)))
