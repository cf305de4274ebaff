-- A batch's records as a row of words (§18.5).
--     record_words  how many words a record has
--     record_in     the record of a place: kind, id, rectangle, ink
--     records_in    the records of a row
--     batch_fits    a state row of twelve words, and whole records
use Rattle.std.specs.Prelude.{List, [], ◌∷◌, Bool, ◌&&◌, ℕ, ◌+◌, ◌*◌, ◌/◌, ◌%◌, eqb, length, get_or}
use Rattle.model.specs.declared.Record.{Record}
use Rattle.model.specs.Lists.{join_below}
use Rattle.host_rows.specs.Rows.{dot_in}

abbrev pub record_words : ℕ
record_words = 7

unfoldable pub record_in : List ℕ → ℕ → Record
record_in row i = record { kind = get_or row (7 * i) 0; dot = dot_in row (7 * i + 1) }

unfoldable pub records_in : List ℕ → List Record
records_in row = join_below (length row / record_words) (λ i. record_in row i ∷ [])

unfoldable pub batch_fits : List ℕ → List ℕ → Bool
batch_fits state records = eqb (length state) 12 && eqb (length records % record_words) 0
