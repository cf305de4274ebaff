-- Laws of the window grid report. The number of pairs is a sum of 0 and 1 over dots and windows, and two sums may be swapped; a dot's windows are the columns
-- times the rows that it meets, since it meets both by one rule.
--     total_sum, total_counts, total_lines     THE LAW: the total is the sum of the counts, and of the lines
--     count-listed         a window's count is the length of what a query of all inks lists there
--     total_dots           THE LAW: the total, worked out from the dots
--     count_weigh          a window's count, dot by dot: whether its column and its row are met
--     counts-length, counts-cell, counts-at    the counts stand in the row of windows, in order
--     join-windows         lists over all windows, joined
--     count-all, total_all counts and total over other dots that every weight finds in the tree too
--     count-le, total_le   how large the numbers are
use Rattle.std.specs.Prelude.{◌≡◌, refl, List, [], ◌∷◌, ◌++◌, Bool, true, false, cond, ◌&&◌, ℕ, zero, suc, ◌+◌, ◌*◌, ◌-◌, ◌/◌, ◌%◌, ◌≤◌}
use Rattle.std.specs.Prelude.{◌<◌, min, leb, ltb, length, get_or}
use Rattle.std.proofs.Common.{ap, ap₂, sym, ◌∙◌, append-nil, add-one, mul-le-mul_left, mul-suc, suc-mul, mul_comm, mod-lt}
use Rattle.std.proofs.Common.{div-lt_iff_lt-mul, arith, leb-true, leb-false, ltb-true, ltb-false}
use Rattle.std.proofs.Math.Nat.{div-add-mod}
use Rattle.std.proofs.Math.ListN.{get_or-append}
use Rattle.arithmetic.proofs.Laws.Tests.{by_bool}
use Rattle.geometry.specs.Rectangles.{inverted}
use Rattle.grid.specs.declared.grid.Grid.{Grid}
use Rattle.grid.specs.declared.grid.Span.{Span}
use Rattle.grid.specs.Grids.{columns_of, rows_of, window, windows, sizes_fit}
use Rattle.grid.specs.Spans.{in_span, columns_met, rows_met, span_length}
use Rattle.grid.proofs.Laws.Windows.{Sizes, sizes, window_axes, span_met-within}
use Rattle.model.specs.declared.Dot.{Dot}
use Rattle.model.specs.Sums.{sum_over, sum_below}
use Rattle.model.specs.Lists.{join_below, join_over, filter}
use Rattle.model.specs.Dots.{acceptable_dot, good_ink, of_all_inks, is_hit}
use Rattle.model.specs.Trees.{dots, size, sum_dots}
use Rattle.model.specs.Query.{hits}
use Rattle.model.specs.Shapes.{Shape, Valid, root, listed}
use Rattle.model.specs.Grid.{live_dots, meets_window, over_windows, count_of, Pair, pairs, total_of, window_count, grid_total, grid_counts}
use Rattle.model.specs.Grid.{WindowLine, grid_lines, dots_total}
use Rattle.model.proofs.Laws.Sums.{sum_over-one, sum_over-map, sum_below_ext, sum_below-mul, sum_below-zero, sum_below_swap}
use Rattle.model.proofs.Laws.Lists.{join_below_ext, join_over-join_below, length-map, length-join_below, all_map, filter_ext, filter-le, sum-filter}
use Rattle.model.proofs.Laws.Lists.{sum_over-join_below, sum_over-join_over, sum_over-all}
use Rattle.model.proofs.Laws.Trees.{sum_dots-dots, all_dots-dots}
use Rattle.model.proofs.Laws.Dots.{on_dot, dot-upright}
use Rattle.model.proofs.Laws.Query.{hits-filter}
use Rattle.model.proofs.Laws.Shapes.{live-and_free, shape-routed, well_acceptable, good_inks}
use Rattle.model.proofs.Laws.Entries.{get_d_join_below}
use Rattle.model.proofs.Laws.FullMask.{full_hit}

-- ---- sums over windows

abbrev pub bit : Bool → ℕ
bit t = cond t 1 0

abbrev pub sum_windows : Grid → (ℕ → ℕ → ℕ) → ℕ
sum_windows g h = sum_below (rows_of g) (λ row. sum_below (columns_of g) (λ column. h column row))

sum-windows : {A : Type 0} (g : Grid) (h : A → ℕ) (f : ℕ → ℕ → A) → sum_over h (over_windows g f) ≡ sum_windows g (λ column row. h (f column row))
sum-windows g h f =
    sum_over-join_below h (rows_of g) (λ row. join_below (columns_of g) (λ column. f column row ∷ []))
    ∙ sum_below_ext (rows_of g) _ (λ row. sum_below (columns_of g) (λ column. h (f column row))) (λ row b.
    sum_over-join_below h (columns_of g) (λ column. f column row ∷ [])
    ∙ sum_below_ext (columns_of g) (λ column. h (f column row) + 0) (λ column. h (f column row)) (λ column b'. omega arith))

pub join-windows : {A B : Type 0} (g : Grid) (h : A → List B) (f : ℕ → ℕ → A)
    → join_over h (over_windows g f) ≡ join_below (rows_of g) (λ row. join_below (columns_of g) (λ column. h (f column row)))
join-windows g h f =
    join_over-join_below h (rows_of g) (λ row. join_below (columns_of g) (λ column. f column row ∷ []))
    ∙ join_below_ext (rows_of g) _ (λ row. join_below (columns_of g) (λ column. h (f column row))) (λ row b.
    join_over-join_below h (columns_of g) (λ column. f column row ∷ [])
    ∙ join_below_ext (columns_of g) (λ column. h (f column row) ++ []) (λ column. h (f column row)) (λ column b'. append-nil (h (f column row))))

-- how many elements a test is true of
count-filter : {A : Type 0} (p : A → Bool) (xs : List A) → length (filter p xs) ≡ sum_over (λ x. bit (p x)) xs
count-filter p xs = sym (sum_over-one (filter p xs)) ∙ sum-filter (λ x. 1) p xs

-- ---- the total is the sum of the counts

-- 1 where the dot meets the window
abbrev hit : Grid → ℕ → ℕ → Dot → ℕ
hit g column row d = bit (meets_window g column row d)

-- the windows that a dot meets
abbrev windows_of : Grid → Dot → ℕ
windows_of g d = sum_windows g (λ column row. hit g column row d)

pub pairs-sum : (g : Grid) (ds : List Dot) → total_of g ds ≡ sum_over (windows_of g) ds
pairs-sum g ds =
    let met : Pair → Bool = λ p. meets_window g p.column p.row p.dot in
    let of-dot : Dot → List Pair = λ d. over_windows g (λ column row. record { dot = d; column = column; row = row }) in
    count-filter met (pairs g ds)
    ∙ sum_over-join_over (λ p. bit (met p)) of-dot ds
    ∙ sum_over_ext (λ d. sum_over (λ p. bit (met p)) (of-dot d)) (windows_of g) ds
    (λ d. sum-windows g (λ p. bit (met p)) (λ column row. record { dot = d; column = column; row = row }))
  where
    sum_over_ext : {A : Type 0} (h k : A → ℕ) (xs : List A) → ((a : A) → h a ≡ k a) → sum_over h xs ≡ sum_over k xs
    sum_over_ext h k [] e = refl
    sum_over_ext h k (a ∷ xs) e = omega (arith, e a, sum_over_ext h k xs e)

live-pairs : (g : Grid) (x : Shape) → grid_total g x ≡ sum_over (windows_of g) (live_dots x)
unfolding grid_total
live-pairs g x = pairs-sum g (live_dots x)

count-sum : (g : Grid) (x : Shape) (column row : ℕ) → window_count g x column row ≡ sum_over (hit g column row) (live_dots x)
unfolding window_count
count-sum g x column row = count-filter (meets_window g column row) (live_dots x)

pub total_sum : (g : Grid) (x : Shape) → grid_total g x ≡ sum_windows g (window_count g x)
total_sum g x =
    let ds = live_dots x in
    live-pairs g x
    ∙ sym (sum_below_swap (rows_of g) (λ row d. sum_below (columns_of g) (λ column. hit g column row d)) ds)
    ∙ sum_below_ext (rows_of g) _ (λ row. sum_below (columns_of g) (λ column. window_count g x column row)) (λ row b.
    sym (sum_below_swap (columns_of g) (λ column d. hit g column row d) ds)
    ∙ sum_below_ext (columns_of g) _ (λ column. window_count g x column row) (λ column b'. sym (count-sum g x column row)))

pub total_counts : (g : Grid) (x : Shape) → grid_total g x ≡ sum_over (λ n. n) (grid_counts g x)
unfolding grid_counts
total_counts g x = total_sum g x ∙ sym (sum-windows g (λ n. n) (window_count g x))

pub total_lines : (g : Grid) (x : Shape) → grid_total g x ≡ sum_over (λ l. l.count) (grid_lines g x)
unfolding grid_lines
total_lines g x =
    total_sum g x
    ∙ sym (sum-windows g (λ (l : WindowLine). l.count) (λ column row. record { column = column; row = row; count = window_count g x column row }))

-- ---- a window's count is that of its query

pub count-listed : (g : Grid) (x : Shape) → Valid x → (column row : ℕ) → window_count g x column row ≡ length (listed (of_all_inks (window g column row)) x)
unfolding window_count listed
count-listed g x v column row =
    let q = of_all_inks (window g column row) in
    let ds = dots x.tree in
    let same : filter (λ d. is_hit q d.dot) ds ≡ filter (λ d. meets_window g column row d.dot) ds =
    filter_ext (λ d. is_hit q d.dot) (λ d. meets_window g column row d.dot) ds
    (all_map (λ d. good_ink d.dot ≡ true) (λ d. is_hit q d.dot ≡ meets_window g column row d.dot)
    (λ d good. full_hit (window g column row) d.dot good) ds
    (all_dots-dots (λ d. good_ink d.dot ≡ true) x.tree (good_inks x v))) in
    count-filter (meets_window g column row) (live_dots x)
    ∙ sum_over-map (hit g column row) (λ d. d.dot) ds
    ∙ sym (count-filter (λ d. meets_window g column row d.dot) ds)
    ∙ ap length (sym (hits-filter q (root x) x.tree (shape-routed x v) ∙ same))
    ∙ sym (length-map (λ d. d.dot.id) (hits q (root x) x.tree))

-- ---- one dot

-- the numbers below n from lo on and before hi
between-count : (n lo hi : ℕ) → sum_below n (λ k. bit (leb lo k && ltb k hi)) ≡ min hi n - min lo n
between-count zero lo hi = omega arith
between-count (suc n) lo hi =
    by_bool (leb lo n)
    (λ l.
    by_bool (ltb n hi)
    (λ h. rw (l, h) (omega (arith, between-count n lo hi, leb-true lo n l, ltb-true n hi h)))
    (λ h. rw (l, h) (omega (arith, between-count n lo hi, leb-true lo n l, ltb-false n hi h))))
    (λ l. rw l (omega (arith, between-count n lo hi, leb-false lo n l)))

-- a span that ends at n or before
span-count : (n : ℕ) (s : Span) → s.to ≤ n → sum_below n (λ k. bit (in_span s k)) ≡ span_length s
span-count n s h = between-count n s.from s.to ∙ clipped s.from s.to h
  where
    clipped : (lo hi : ℕ) → hi ≤ n → min hi n - min lo n ≡ hi - lo
    clipped lo hi l = omega arith

-- a product of two sums
product : (m n : ℕ) (p q : ℕ → Bool)
    → sum_below m (λ row. sum_below n (λ column. bit (p column && q row))) ≡ sum_below n (λ k. bit (p k)) * sum_below m (λ k. bit (q k))
product m n p q =
    let all = sum_below n (λ k. bit (p k)) in
    sum_below_ext m _ (λ row. all * bit (q row)) (λ row b.
    by_bool (q row)
    (λ e. rw e (sum_below_ext n (λ k. bit (p k && true)) (λ k. bit (p k)) (λ k b'. by_bool (p k) (λ t. rw t refl) (λ t. rw t refl)) ∙ omega arith))
    (λ e. rw e (sum_below-zero n (λ k. bit (p k && false)) (λ k b'. by_bool (p k) (λ t. rw t refl) (λ t. rw t refl)) ∙ omega arith)))
    ∙ sum_below-mul m all (λ k. bit (q k))

-- whether a rectangle meets the column and the row
abbrev pub in_cell : Grid → Dot → ℕ → ℕ → Bool
in_cell g d column row = in_span (columns_met g d.rect) column && in_span (rows_met g d.rect) row

-- the columns that a dot meets times the rows
abbrev pub dot_windows : Grid → Dot → ℕ
dot_windows g d = span_length (columns_met g d.rect) * span_length (rows_met g d.rect)

dot-windows : (g : Grid) → Sizes g → (d : Dot) → inverted d.rect ≡ false → windows_of g d ≡ dot_windows g d
dot-windows g fits d fine =
    let r = d.rect in
    sum_below_ext (rows_of g) _ (λ row. sum_below (columns_of g) (λ column. bit (in_cell g d column row)))
    (λ row b. sum_below_ext (columns_of g) _ _ (λ column b'. ap bit (window_axes g fits r fine column row b' b)))
    ∙ product (rows_of g) (columns_of g) (in_span (columns_met g r)) (in_span (rows_met g r))
    ∙ ap₂ ◌*◌
    (span-count (columns_of g) (columns_met g r) (span_met-within _ _ _ _ _ _).0)
    (span-count (rows_of g) (rows_met g r) (span_met-within _ _ _ _ _ _).0)

-- ---- all dots

-- two weights that agree on the dots that an insert takes
weights_agree : (x : Shape) → Valid x → (h k : Dot → ℕ) → ((d : Dot) → acceptable_dot x.settings d ≡ true → h d ≡ k d)
    → sum_over h (live_dots x) ≡ sum_dots (on_dot k) x.tree
weights_agree x v h k same =
    let ds = dots x.tree in
    sum_over-map h (λ d. d.dot) ds
    ∙ sum_over-all (on_dot h) (on_dot k) ds (λ d e. same d.dot e)
    (all_dots-dots (λ d. acceptable_dot x.settings d.dot ≡ true) x.tree (well_acceptable x.settings (root x) x.tree v.well_formed))
    ∙ sum_dots-dots (on_dot k) x.tree

module _ (g : Grid) (fits : sizes_fit g ≡ true) (x : Shape) (v : Valid x) where
  pub total_dots : grid_total g x ≡ dots_total g x
  unfolding dots_total
  total_dots =
      live-pairs g x
      ∙ weights_agree x v (windows_of g) (dot_windows g) (λ d e. dot-windows g (sizes g fits) d (dot-upright x.settings d e).0)

  pub count_weigh : (column row : ℕ) → column < columns_of g → row < rows_of g
      → window_count g x column row ≡ sum_dots (on_dot (λ d. bit (in_cell g d column row))) x.tree
  count_weigh column row b b' =
      count-sum g x column row
      ∙ weights_agree x v (hit g column row) (λ d. bit (in_cell g d column row))
      (λ d e. ap bit (window_axes g (sizes g fits) d.rect (dot-upright x.settings d e).0 column row b b'))

-- ---- the counts in the row

pub counts-length : (g : Grid) (x : Shape) → length (grid_counts g x) ≡ windows g
unfolding grid_counts
counts-length g x =
    length-join_below (rows_of g) (columns_of g) _ (λ row. length-join_below (columns_of g) 1 _ (λ column. refl) ∙ omega arith)
    ∙ mul_comm (rows_of g) (columns_of g)

-- by column and row, with more words after them
pub counts-cell : (g : Grid) (x : Shape) (rest : List ℕ) (column row : ℕ) → column < columns_of g → row < rows_of g
    → get_or (grid_counts g x ++ rest) (columns_of g * row + column) 0 ≡ window_count g x column row
unfolding grid_counts
counts-cell g x rest column row b l =
    let n = columns_of g in
    let row-length : (k : ℕ) → length (join_below n (λ j. window_count g x j k ∷ [])) ≡ n = λ k. length-join_below n 1 _ (λ j. refl) ∙ omega arith in
    let step : n * (row + 1) ≤ n * rows_of g = mul-le-mul_left n (omega arith) in
    let next : n * (row + 1) ≡ n * row + n = rw add-one (mul-suc n row ∙ omega arith) in
    get_or-append (grid_counts g x) rest 0 (n * row + column) (omega (arith, counts-length g x))
    ∙ get_d_join_below n (rows_of g) (λ k. join_below n (λ j. window_count g x j k ∷ [])) row-length row column 0 l b
    ∙ ap (λ (k : ℕ). get_or (join_below n (λ j. window_count g x j row ∷ [])) k 0) (sym (omega arith))
    ∙ get_d_join_below 1 n (λ j. window_count g x j row ∷ []) (λ j. refl) column 0 0 b (omega arith)

pub counts-at : (g : Grid) (x : Shape) (i : ℕ) → 1 ≤ columns_of g → i < windows g
    → get_or (grid_counts g x) i 0 ≡ window_count g x (i % columns_of g) (i / columns_of g)
counts-at g x i some h =
    let n = columns_of g in
    let below : i / n < rows_of g = (div-lt_iff_lt-mul some).1 (omega (arith, mul_comm n (rows_of g))) in
    ap₂ (λ (l : List ℕ) (k : ℕ). get_or l k 0) (sym (append-nil (grid_counts g x))) (sym (div-add-mod i n))
    ∙ counts-cell g x [] (i % n) (i / n) (mod-lt i some) below

-- ---- over dots that every weight finds in the tree too

module _ (g : Grid) (x : Shape) (b : List Dot) (same : (h : Dot → ℕ) → sum_dots (on_dot h) x.tree ≡ sum_over h b) where
  live-sum : (h : Dot → ℕ) → sum_over h (live_dots x) ≡ sum_over h b
  live-sum h = sum_over-map h (λ d. d.dot) (dots x.tree) ∙ sum_dots-dots (on_dot h) x.tree ∙ same h

  pub count-all : (column row : ℕ) → window_count g x column row ≡ count_of g b column row
  count-all column row = count-sum g x column row ∙ live-sum (hit g column row) ∙ sym (count-filter (meets_window g column row) b)

  pub total_all : grid_total g x ≡ total_of g b
  total_all = live-pairs g x ∙ live-sum (windows_of g) ∙ sym (pairs-sum g b)

-- ---- how large the numbers are

pub count-le : (g : Grid) (x : Shape) (column row : ℕ) → window_count g x column row ≤ size x.tree
unfolding window_count
count-le g x column row =
    let ds = dots x.tree in
    omega (
      arith,
      sum_over-one (filter (meets_window g column row) (live_dots x)),
      filter-le (λ d. 1) (meets_window g column row) (live_dots x),
      sum_over-map (λ (d : Dot). 1) (λ d. d.dot) ds,
      sum_dots-dots (λ d. 1) x.tree,
    )

sum-le : (n m : ℕ) (f : ℕ → ℕ) → ((k : ℕ) → f k ≤ m) → sum_below n f ≤ n * m
sum-le zero m f h = omega arith
sum-le (suc n) m f h = omega (arith, sum-le n m f h, h n, suc-mul n m)

pub total_le : (g : Grid) → sizes_fit g ≡ true → (x : Shape) → Valid x → grid_total g x ≤ 268435456
total_le g fits x v =
    let z = sizes g fits in
    let few : (column row : ℕ) → window_count g x column row ≤ 65536 =
    λ column row. omega (arith, count-le g x column row, live-and_free x v, v.places_fit) in
    let across : (row : ℕ) → sum_below (columns_of g) (λ column. window_count g x column row) ≤ 4194304 =
    λ row. omega (arith, sum-le (columns_of g) 65536 (λ column. window_count g x column row) (λ column. few column row), z.few_columns) in
    omega (
      arith,
      total_sum g x,
      sum-le (rows_of g) 4194304 (λ row. sum_below (columns_of g) (λ column. window_count g x column row)) across,
      z.few_rows,
    )
