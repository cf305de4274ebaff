-- The thresholds, quarter by quarter.
--     quarter_most  a quarter adds at most 3
--     by_quarters   four doublings make the table: a test that computes over all entries
use Rattle.std.specs.Prelude.{◌≡◌, refl, true, ℕ, ◌%◌, ◌≤◌, ◌<◌, eqb}
use Rattle.std.proofs.Common.{arith, eqb-true}
use Rattle.arithmetic.proofs.Laws.Cases.{all_below, all-below}
use Rattle.arithmetic.proofs.Laws.Tests.{by_bool}
use Rattle.model.specs.Thresholds.{thresholds, threshold_at}
use Rattle.threshold_table.specs.Quarters.{quarter_of, doubled}

pub quarter_most : (column row : ℕ) → quarter_of column row ≤ 3
quarter_most column row =
    by_bool (eqb (row % 2) 0)
    (λ e. by_bool (eqb (column % 2) 0) (λ f. rw (e, f) (omega arith)) (λ f. rw (e, f) (omega arith)))
    (λ e. by_bool (eqb (column % 2) 0) (λ f. rw (e, f) (omega arith)) (λ f. rw (e, f) (omega arith)))

each : all_below 16 (λ row. all_below 16 (λ column. eqb (doubled column row) (threshold_at column row))) ≡ true
unfolding threshold_at thresholds
each = refl

pub by_quarters : (column row : ℕ) → column < 16 → row < 16 → doubled column row ≡ threshold_at column row
by_quarters column row c r =
    eqb-true (doubled column row) (threshold_at column row)
    (all-below 16 (λ column. eqb (doubled column row) (threshold_at column row))
    (all-below 16 (λ row. all_below 16 (λ column. eqb (doubled column row) (threshold_at column row))) each row r) column c)
