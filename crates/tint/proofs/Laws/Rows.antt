-- The search for the next dot of a row.
--     next-found   the first dot in a tile's columns; after as many without one, none has one
use Rattle.std.specs.Prelude.{◌≡◌, true, ℕ, ◌+◌, ◌*◌, ◌-◌, ◌%◌, ◌≤◌, ◌<◌, min, get_or, ltb, Option, None, Some, MatchOption, unwrap_or}
use Rattle.std.proofs.Common.{ap, ◌∙◌, arith}
use Rattle.model.specs.declared.patch.Patch.{Patch}
use Rattle.model.specs.Thresholds.{thresholds, threshold_at}
use Rattle.model.specs.Patch.{has_dot}
use Rattle.tint.specs.Rows.{NoDots, NextDot}

-- columns a tile apart have the same threshold
same-dot : (p : Patch) (row i j : ℕ) → i % 16 ≡ j % 16 → has_dot p i row ≡ has_dot p j row
unfolding threshold_at
same-dot p row i j e = ap (λ (k : ℕ). ltb (get_or thresholds (16 * (row % 16) + k) 0) p.tint) e

-- no dot in the columns of a tile, or the first
module _ {p : Patch} {column row end : ℕ} (fits : column ≤ 16 * p.columns) (e : end ≡ min (16 * p.columns) (column + 16)) where
  none_ahead : NoDots p column end row → NextDot p column row (16 * p.columns)
  none_ahead none =
      record {
        onward = fits;
        within = omega arith;
        none = λ i low high.
            let j = column + (i - column) % 16 in
            same-dot p row i j (omega arith) ∙ none j (omega arith) (omega arith);
        dot = λ more. absurd (omega arith);
      }

  pub next-found : (found : Option ℕ) → MatchOption found (NoDots p column end row)
      (λ i. (column ≤ i) × (i < end) × (has_dot p i row ≡ true) × NoDots p column i row) → NextDot p column row (unwrap_or found (16 * p.columns))
  next-found None none = none_ahead none
  next-found (Some i) (low, high, dot, none) = record { onward = low; within = omega arith; none = none; dot = λ more. dot }
