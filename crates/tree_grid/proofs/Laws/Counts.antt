-- Sums added to the words of a row.
--     added_then   one sum after another
--     Adding       the loop over the words from a place on
--     AddingRows, rows_room, rows_more     the loop over the rows of windows
use Rattle.std.specs.Prelude.{◌≡◌, refl, List, true, false, cond, ℕ, ◌+◌, ◌*◌, ◌/◌, ◌%◌, ◌≤◌, ◌<◌, max, leb, length}
use Rattle.std.proofs.Common.{ap, sym, ◌∙◌, mul-le-mul_left, mul-suc, mod-lt, le-div_iff_mul-le, mul_comm, add-one, arith}
use Rattle.std.proofs.Common.{lt-ltb, le-ltb, le-leb}
use Rattle.std.proofs.Math.Nat.{div-add-mod}
use Rattle.std.proofs.Math.Decide.{ℕ_discrete, dec_lt}
use Rattle.std.proofs.lemmas.Bool.{lt-leb}
use Rattle.arithmetic.proofs.Laws.Tests.{by_bool}
use Rattle.grid.specs.declared.grid.Span.{Span}
use Rattle.grid.specs.Spans.{in_span}
use Rattle.model.proofs.Laws.Sums.{by_dec}
use Rattle.tree_grid.specs.Counts.{Added, Room, between, cells}

pub added_then : {row row' row'' : List ℕ} {f g : ℕ → ℕ} (h : ℕ → ℕ) → ((i : ℕ) → i < length row → f i + g i ≡ h i)
    → Added row f row' → Added row' g row'' → Added row h row''
added_then h e a b = record {
  same_length = b.same_length ∙ a.same_length;
  each = λ i l. omega (arith, a.each i l, b.each i (omega (arith, a.same_length)), e i l);
}

-- ---- the words from a place on and before another

-- between, by its two tests
between_in : (from to weight i : ℕ) → from ≤ i → i < to → between from to weight i ≡ weight
between_in from to weight i l h = rw (le-leb from i l, lt-ltb i to h) refl

between-before : (from to weight i : ℕ) → i < from → between from to weight i ≡ 0
between-before from to weight i h = rw (lt-leb from i h) refl

between_past : (from to weight i : ℕ) → to ≤ i → between from to weight i ≡ 0
between_past from to weight i h = by_bool (leb from i) (λ e. rw (e, le-ltb i to h) refl) (λ e. rw e refl)

-- up to the place i, of those from a place on and before another
pub record Adding (row₀ : List ℕ) (from to weight : ℕ) (row : List ℕ) (i : ℕ) : Type 0 where
  pub begun : from ≤ i
  pub within : i ≤ max from to
  pub added : Added row₀ (between from i weight) row

-- ---- the rows of windows

-- rows from one on and before another
abbrev pub span_of : ℕ → ℕ → Span
span_of from to = record { from = from; to = to }

in_before : (s : Span) (k : ℕ) → k < s.from → in_span s k ≡ false
in_before s k h = rw (lt-leb s.from k h) refl

pub in_past : (s : Span) (k : ℕ) → s.to ≤ k → in_span s k ≡ false
in_past s k h = by_bool (leb s.from k) (λ e. rw (e, le-ltb k s.to h) refl) (λ e. rw e refl)

in_within : (s : Span) (k : ℕ) → s.from ≤ k → k < s.to → in_span s k ≡ true
in_within s k l h = rw (le-leb s.from k l, lt-ltb k s.to h) refl

-- a word of no row of the span
pub cells-none : (columns : ℕ) (across down : Span) (weight i : ℕ) → in_span down (i / columns) ≡ false → cells columns across down weight i ≡ 0
cells-none columns across down weight i e = by_bool (in_span across (i % columns)) (λ t. rw (t, e) refl) (λ t. rw t refl)

-- a word of a row of the span
cells-some : (columns : ℕ) (across down : Span) (weight i : ℕ) → in_span down (i / columns) ≡ true
    → cells columns across down weight i ≡ cond (in_span across (i % columns)) weight 0
cells-some columns across down weight i e = by_bool (in_span across (i % columns)) (λ t. rw (t, e) refl) (λ t. rw t refl)

-- one row's words
module _ (columns : ℕ) (some : 1 ≤ columns) (across : Span) (narrow : across.to ≤ columns) (weight i line : ℕ) where
  row_is : i / columns ≡ line → between (columns * line + across.from) (columns * line + across.to) weight i ≡ cond (in_span across (i % columns)) weight 0
  row_is e =
      let m = i % columns in
      let at : columns * line + m ≡ i = ap (λ (q : ℕ). columns * q + m) (sym e) ∙ div-add-mod i columns in
      by_dec (dec_lt m across.from)
      (λ h. between-before _ _ weight i (omega arith) ∙ sym (rw (in_before across m h) refl))
      (λ h.
      by_dec (dec_lt m across.to)
      (λ k. between_in _ _ weight i (omega arith) (omega arith) ∙ sym (rw (in_within across m (omega arith) k) refl))
      (λ k. between_past _ _ weight i (omega arith) ∙ sym (rw (in_past across m (omega arith)) refl)))

  row-later : i / columns < line → between (columns * line + across.from) (columns * line + across.to) weight i ≡ 0
  row-later h =
      let step : columns * (i / columns + 1) ≤ columns * line = mul-le-mul_left columns (omega arith) in
      let next : columns * (i / columns + 1) ≡ columns * (i / columns) + columns = rw add-one (mul-suc columns (i / columns) ∙ omega arith) in
      between-before _ _ weight i (omega (arith, step, next, div-add-mod i columns, mod-lt i some))

  row_earlier : line < i / columns → between (columns * line + across.from) (columns * line + across.to) weight i ≡ 0
  row_earlier h =
      let step : columns * (line + 1) ≤ columns * (i / columns) = mul-le-mul_left columns (omega arith) in
      let next : columns * (line + 1) ≡ columns * line + columns = rw add-one (mul-suc columns line ∙ omega arith) in
      between_past _ _ weight i (omega (arith, step, next, div-add-mod i columns))

  -- a row more
  cells-more : (first : ℕ) → first ≤ line
      → cells columns across (span_of first line) weight i + between (columns * line + across.from) (columns * line + across.to) weight i
      ≡ cells columns across (span_of first (line + 1)) weight i
  cells-more first begun =
      let q = i / columns in
      let now = span_of first line in
      let then = span_of first (line + 1) in
      by_dec (dec_lt q line)
      (λ h.
      by_dec (dec_lt q first)
      (λ k.
      omega (
        arith,
        row-later h,
        cells-none columns across now weight i (in_before now q k),
        cells-none columns across then weight i (in_before then q k),
      ))
      (λ k.
      omega (
        arith,
        row-later h,
        cells-some columns across now weight i (in_within now q (omega arith) h),
        cells-some columns across then weight i (in_within then q (omega arith) (omega arith)),
      )))
      (λ h.
      by_dec (ℕ_discrete q line)
      (λ e.
      omega (
        arith,
        row_is e,
        cells-none columns across now weight i (in_past now q (omega arith)),
        cells-some columns across then weight i (in_within then q (omega arith) (omega arith)),
      ))
      (λ ne.
      omega (
        arith,
        row_earlier (omega arith),
        cells-none columns across now weight i (in_past now q (omega arith)),
        cells-none columns across then weight i (in_past then q (omega arith)),
      )))

-- up to the row `line`
pub record AddingRows (row₀ : List ℕ) (columns : ℕ) (across down : Span) (weight : ℕ) (row : List ℕ) (line : ℕ) : Type 0 where
  pub begun : down.from ≤ line
  pub within : line ≤ max down.from down.to
  pub added : Added row₀ (cells columns across (span_of down.from line) weight) row

module _ {row₀ row : List ℕ} {columns : ℕ} {across down : Span} {weight line : ℕ} (some : 1 ≤ columns) (narrow : across.to ≤ columns)
    (s : AddingRows row₀ columns across down weight row line) (h : line < down.to) where
  -- the row's words end within the rows of the span
  pub line-ends : columns * line + across.to ≤ columns * down.to
  line-ends =
      let step : columns * (line + 1) ≤ columns * down.to = mul-le-mul_left columns (omega arith) in
      let next : columns * (line + 1) ≡ columns * line + columns = rw add-one (mul-suc columns line ∙ omega arith) in
      omega arith

  -- nothing has been added to them yet
  pub rows_room : columns * down.to ≤ length row₀ → Room 0 (columns * down.to) weight row₀
      → Room (columns * line + across.from) (columns * line + across.to) weight row
  rows_room fits room i l k =
      let below : i < columns * down.to = omega (arith, line-ends) in
      let late : line ≤ i / columns = (le-div_iff_mul-le some).1 (omega (arith, mul_comm columns line)) in
      let now = span_of down.from line in
      omega (arith, s.added.each i (omega arith), cells-none columns across now weight i (in_past now (i / columns) late), room i (omega arith) below)

  pub rows_more : {row' : List ℕ} → Added row (between (columns * line + across.from) (columns * line + across.to) weight) row'
      → AddingRows row₀ columns across down weight row' (line + 1)
  rows_more a = record {
    begun = omega (arith, s.begun);
    within = omega arith;
    added = added_then (cells columns across (span_of down.from (line + 1)) weight)
        (λ i b. cells-more columns some across narrow weight i line down.from s.begun) s.added a;
  }
