-- Laws of the report's text.
--     field_two                            the field of a number below 100 has three bytes at most
--     put-line, put-total_line             a line from its parts
--     row-none, row_more, row_end          no window's line, one more, where they end at most
--     cut_length                           the counts of a row by themselves
--     rows_none, rows_more, rows_end       the same of rows
--     row_below                            a row's counts lie within those of all rows
--     report-written                       the report from its lines
--     report-length                        how long a report is at most
use Rattle.std.specs.Prelude.{◌≡◌, List, [], ◌∷◌, ◌++◌, ℕ, zero, suc, ◌+◌, ◌*◌, ◌≤◌, ◌<◌, pos, length, get_or, take, drop}
use Rattle.std.proofs.Common.{ap, ◌∙◌, append-nil, suc-mul, mul_comm, mul-le-mul_left, arith, add-one, length-append}
use Rattle.std.proofs.lemmas.List.{get_or-take, get_or-drop, length-take-le, length-drop}
use Rattle.model.proofs.Laws.Lists.{join_below_ext}
use Rattle.lines.specs.Text.{decimal, fields}
use Rattle.lines.specs.Reading.{Put, output, Written}
use Rattle.lines.specs.Report.{window_line, window_row, window_lines, total_line, report}
use Rattle.lines.proofs.Laws.Digits.{digits-length, decimal-two}
use Rattle.lines.proofs.Laws.Rows.{put-none, put_then, put_is, written_all}

-- ---- a line

one_field : (n : ℕ) → fields (pos n ∷ []) ≡ 44 ∷ decimal n
unfolding fields
one_field n = ap (λ (l : List ℕ). 44 ∷ l) (append-nil (decimal n))

pub field_two : (n : ℕ) → n < 100 → length (fields (pos n ∷ [])) ≤ 3
field_two n h = omega (arith, ap length (one_field n), decimal-two n h)

-- the field of a number, as a line has it
put-number : {row₀ row : List ℕ} {at next : ℕ} (n : ℕ) → Put row₀ at (fields (pos n ∷ [])) row next → Put row₀ at (44 ∷ decimal n) row next
put-number n p = put_is (one_field n) p

pub put-line : {out₀ out out' out'' out''' : List ℕ} {at first second end next : ℕ} (column row count : ℕ) → Put out₀ at (decimal column) out first
    → Put out first (fields (pos row ∷ [])) out' second → Put out' second (fields (pos count ∷ [])) out'' end → Put out'' end (10 ∷ []) out''' next
    → Put out₀ at (window_line column row count) out''' next
unfolding window_line
put-line column row count p q r s = put_then (put_then (put_then p (put-number row q)) (put-number count r)) s

pub put-total_line : {out₀ out out' out'' : List ℕ} {at word end next : ℕ} (total : ℕ) → Put out₀ at (116 ∷ 111 ∷ 116 ∷ 97 ∷ 108 ∷ []) out word
    → Put out word (fields (pos total ∷ [])) out' end → Put out' end (10 ∷ []) out'' next → Put out₀ at (total_line total) out'' next
unfolding total_line
put-total_line total p q r = put_then (put_then p (put-number total q)) r

line-length : (column row count : ℕ) → column < 100 → row < 100 → length (window_line column row count) ≤ 17
unfolding window_line
line-length column row count h k =
    let front = decimal column ++ (44 ∷ decimal row) in
    let one = length-append (decimal column) (44 ∷ decimal row) in
    let two = length-append front (44 ∷ decimal count) in
    let three = length-append (front ++ (44 ∷ decimal count)) (10 ∷ []) in
    omega (arith, one, two, three, decimal-two column h, decimal-two row k, digits-length 10 count)

-- ---- a row of windows

pub row-none : (out counts : List ℕ) (at row first : ℕ) → Put out at (window_row 0 row counts first) out at
unfolding window_row
row-none out counts at row first = put-none out at

pub row_more : {out₀ out out' : List ℕ} {at next next' place : ℕ} (column row : ℕ) (counts : List ℕ) (first : ℕ)
    → place ≡ first + column → Put out₀ at (window_row column row counts first) out next
    → Put out next (window_line column row (get_or counts place 0)) out' next' → Put out₀ at (window_row (column + 1) row counts first) out' next'
unfolding window_row
row_more column row counts first e p q = rw add-one (put_then p (rw e at q))

row-length : (columns row : ℕ) (counts : List ℕ) (first : ℕ) → columns ≤ 64 → row < 64 → length (window_row columns row counts first) ≤ 17 * columns
unfolding window_row
row-length zero row counts first h k = omega arith
row-length (suc n) row counts first h k =
    let line = window_line n row (get_or counts (first + n) 0) in
    let both = length-append (window_row n row counts first) line in
    omega (arith, both, row-length n row counts first (omega arith) k, line-length n row (get_or counts (first + n) 0) (omega arith) (omega arith))

pub row_end : {out₀ out : List ℕ} {at next : ℕ} (columns row : ℕ) (counts : List ℕ) (first : ℕ) → columns ≤ 64 → row < 64
    → Put out₀ at (window_row columns row counts first) out next → next ≤ at + 17 * columns
row_end columns row counts first h k p = omega (arith, p.ends, row-length columns row counts first h k)

-- the counts of a row by themselves
row-cut : (columns row first : ℕ) (counts : List ℕ)
    → window_row columns row (take columns (drop first counts)) 0 ≡ window_row columns row counts first
unfolding window_row
row-cut columns row first counts =
    let rest = drop first counts in
    join_below_ext columns (λ column. window_line column row (get_or (take columns rest) (0 + column) 0))
    (λ column. window_line column row (get_or counts (first + column) 0))
    (λ column h.
    let same : first + (0 + column) ≡ first + column = omega arith in
    ap (window_line column row)
    (get_or-take columns rest (0 + column) 0 (omega arith) ∙ get_or-drop first counts (0 + column) 0 ∙ ap (λ i. get_or counts i 0) same))

pub cut_length : (columns first : ℕ) (counts : List ℕ) → first + columns ≤ length counts → length (take columns (drop first counts)) ≡ columns
cut_length columns first counts h = length-take-le columns (drop first counts) (omega (arith, length-drop first counts))

-- ---- the rows

pub rows_none : (out counts : List ℕ) (columns : ℕ) → Put out 0 (window_lines columns 0 counts) out 0
unfolding window_lines
rows_none out counts columns = put-none out 0

pub rows_more : {out₀ out out' : List ℕ} {at next next' first width : ℕ} (columns row : ℕ) (counts : List ℕ) → first ≡ row * columns
    → width ≡ columns → first + columns ≤ length counts
    → Put out₀ at (window_lines columns row counts) out next
    → (let cut = take width (drop first counts) in Put out next (window_row (length cut) row cut 0) out' next')
    → Put out₀ at (window_lines columns (row + 1) counts) out' next'
unfolding window_lines
rows_more {next = next} {first = first} columns row counts e w h p q =
    let alone = put_is (row-cut columns row first counts) (rw (cut_length columns first counts h) at rw w at q) in
    rw add-one (put_then p (rw e at alone))

rows_length : (columns rows : ℕ) (counts : List ℕ) → columns ≤ 64 → rows ≤ 64 → length (window_lines columns rows counts) ≤ 17 * (rows * columns)
unfolding window_lines
rows_length columns zero counts h k = omega arith
rows_length columns (suc n) counts h k =
    let both = length-append (window_lines columns n counts) (window_row columns n counts (n * columns)) in
    omega (arith, both, rows_length columns n counts h (omega arith), row-length columns n counts (n * columns) h (omega arith), suc-mul n columns)

pub rows_end : {out₀ out : List ℕ} {at next : ℕ} (columns rows : ℕ) (counts : List ℕ) → columns ≤ 64 → rows ≤ 64
    → Put out₀ at (window_lines columns rows counts) out next → next ≤ at + 17 * (columns * rows)
rows_end columns rows counts h k p = omega (arith, p.ends, rows_length columns rows counts h k, mul_comm columns rows)

pub row_below : {first : ℕ} (columns rows row : ℕ) → row < rows → first ≡ row * columns → first + columns ≤ columns * rows
row_below columns rows row h e =
    let step : columns * suc row ≤ columns * rows = mul-le-mul_left columns h in
    omega (arith, step, e, suc-mul row columns, mul_comm columns (suc row))

-- ---- all of it

pub report-written : {out₀ out out' : List ℕ} {end next : ℕ} (columns rows : ℕ) (counts : List ℕ) (total : ℕ)
    → Put out₀ 0 (window_lines columns rows counts) out end → Put out end (total_line total) out' next
    → Written (output out₀ out' next) (report columns rows counts total)
report-written columns rows counts total p q = written_all (put_then p q)

total_length : (total : ℕ) → length (total_line total) ≤ 17
unfolding total_line
total_length total = omega (arith, length-append (decimal total) (10 ∷ []), digits-length 10 total)

pub report-length : (columns rows : ℕ) (counts : List ℕ) (total : ℕ) → columns ≤ 64 → rows ≤ 64
    → length (report columns rows counts total) ≤ 17 + 17 * (columns * rows)
report-length columns rows counts total h k =
    let both = length-append (window_lines columns rows counts) (total_line total) in
    omega (arith, both, rows_length columns rows counts h k, total_length total, mul_comm columns rows)
