-- The report on a memory that is a tree.
--     rects-places, free-few       N by the row of rectangles; the free places are at most the zero rectangles
--     live_weigh   a weight over the dots, by the rectangles that are not zero and the zero ones that are not free
--     filled, clear_length, clear_empty, places-ask, has-few, has-live, has-free, rest-asks, rest-fits   what the steps ask
--     Worked, totalled     the row begins with the counts, and the total is the number of pairs
--     report_eleven, report-twelve, report-many, report-counted        the answers, by the rule
use Rattle.std.specs.Prelude.{◌≡◌, List, ◌++◌, Bool, true, false, not, cond, ◌&&◌, ℕ, ◌+◌, ◌*◌, ◌-◌, ◌/◌, ◌%◌, ◌≤◌, ◌<◌, ℤ, length, get_or, replicate}
use Rattle.std.proofs.Math.Path.{refl, ap, sym}
use Rattle.std.proofs.Common.{subst, ◌∙◌, add-mul, mul-le-mul, mul_comm, le-div_iff_mul-le, div-lt_iff_lt-mul, mod-lt, arith}
use Rattle.std.proofs.Common.{length-append, length-drop, ext_get_or, get_or-append-add, get_or-drop}
use Rattle.std.proofs.Math.Decide.{dec_lt}
use borrow.Author.Tests.{lt-ltb, le-ltb, not-true, not-false}
use Rattle.std.proofs.Math.ListN.{take, drop, get_or-append}
use Rattle.std.proofs.lemmas.List.{length-replicate, length-take-le, get_or-replicate}
use Rattle.arithmetic.proofs.Laws.Tests.{by_bool}
use Rattle.geometry.specs.declared.aabb.AABB.{AABB}
use Rattle.geometry.specs.Rectangles.{flat, same_rect, zero_rect}
use Rattle.grid.specs.declared.grid.Grid.{Grid}
use Rattle.grid.specs.Grids.{down, columns_of, rows_of, windows, sizes_fit, corner_fits}
use Rattle.grid.specs.Spans.{in_span, columns_met, rows_met}
use Rattle.grid.proofs.Laws.Windows.{sizes, span_met-within}
use Rattle.model.specs.declared.State.{State}
use Rattle.model.specs.Sums.{sum_below}
use Rattle.model.specs.Trees.{sum_dots}
use Rattle.model.specs.Shapes.{Shape}
use Rattle.model.specs.Layout.{world, cleared, Holds}
use Rattle.model.specs.Memory.{rect_at}
use Rattle.model.specs.Grid.{grid_counts, grid_total, dots_total}
use Rattle.model.specs.Calls.{refused, too_many, answered, exit, grid_rule}
use Rattle.model.proofs.Laws.Sums.{by_dec, sum_below-zero}
use Rattle.model.proofs.Laws.Dots.{on_dot}
use Rattle.model.proofs.Laws.Shapes.{live-and_free}
use Rattle.model.proofs.Laws.Memory.{holds-represented}
use Rattle.model.proofs.Laws.Places.{places-sum}
use Rattle.model.proofs.Laws.Grid.{total_dots, count_weigh, counts-length, counts-at}
use Rattle.tree_grid.specs.declared.counts.Counts.{Counts}
use Rattle.tree_grid.specs.declared.places.Pass.{Pass}
use Rattle.tree_grid.specs.Counts.{Added, Cleared, Room, Empty, zero_words, weight_of, met_by, besides, zero_is, zeros_in}
use Rattle.tree_grid.specs.Passes.{RectAdded, Passed}
use Rattle.tree.specs.Operations.{HasRects}
use Rattle.tree_grid.specs.Answers.{Totalled, Reported}
use Rattle.tree_grid.proofs.Laws.Counts.{in_past, cells-none}
use Rattle.tree_grid.proofs.Laws.Rects.{met-few}
use Rattle.tree_grid.proofs.Laws.Places.{besides-zero, Passing, zeros-le, totals-le, pass-room}

zero_is_lem : zero_is zero_rect ≡ 1
unfolding same_rect
zero_is_lem = refl

module _ (s : State) (nodes dots : List ℕ) (rects : List ℤ) (marks : List ℕ) (x : Shape) (h : Holds (world s nodes dots rects marks) x) where
  rects-places : length rects / 4 ≡ x.places
  rects-places = omega (arith, (holds-represented (world s nodes dots rects marks) x h).rects)

  free_are : length rects / 4 - s.live ≡ length x.free_places
  free_are = omega (arith, rects-places, live-and_free x h.valid, (holds-represented (world s nodes dots rects marks) x h).live)

  -- every place has the weight of its rectangle
  all_weigh : (k : AABB → ℕ)
      → sum_below (length rects / 4) (λ p. k (rect_at rects p)) ≡ sum_dots (on_dot (λ d. k d.rect)) x.tree + length x.free_places * k zero_rect
  all_weigh k =
      ap (λ (n : ℕ). sum_below n (λ p. k (rect_at rects p))) rects-places
      ∙ places-sum (world s nodes dots rects marks) x h.valid (holds-represented (world s nodes dots rects marks) x h) (λ d. k d.rect)

  free-few : length rects / 4 - s.live ≤ zeros_in rects (length rects / 4)
  free-few = omega (arith, all_weigh zero_is, free_are, ap (λ (n : ℕ). length x.free_places * n) zero_is_lem)

  live_weigh : (k : AABB → ℕ)
      → sum_below (length rects / 4) (λ p. besides k (rect_at rects p)) + (zeros_in rects (length rects / 4) - (length rects / 4 - s.live)) * k zero_rect
      ≡ sum_dots (on_dot (λ d. k d.rect)) x.tree
  live_weigh k =
      let free = length rects / 4 - s.live in
      let live = zeros_in rects (length rects / 4) - free in
      let all : zeros_in rects (length rects / 4) ≡ live + free = omega (arith, free-few) in
      let both : zeros_in rects (length rects / 4) * k zero_rect ≡ live * k zero_rect + free * k zero_rect =
      ap (λ (n : ℕ). n * k zero_rect) all ∙ add-mul live free (k zero_rect) in
      let given : free * k zero_rect ≡ length x.free_places * k zero_rect = ap (λ (n : ℕ). n * k zero_rect) free_are in
      omega (arith, all_weigh k, besides-zero k (rect_at rects) (length rects / 4), both, given)

-- ---- what the steps ask

-- the words before n, filled with 0
pub filled : (row part : List ℕ) (n : ℕ) → n ≤ length row → part ≡ replicate (length (take n row)) 0 → Cleared row n (part ++ drop n row)
filled row part n fits e = ap (λ (l : List ℕ). l ++ drop n row) (e ∙ ap (λ (k : ℕ). replicate k 0) (length-take-le n row fits))

pub cleared_by : (row row' : List ℕ) {n m : ℕ} → n ≡ m → Cleared row n row' → Cleared row m row'
cleared_by row row' e c = subst (λ (k : ℕ). Cleared row k row') e c

-- words that became 0
module _ (row row' : List ℕ) (n : ℕ) (c : Cleared row n row') (fits : n ≤ length row) where
  pub clear_length : length row' ≡ length row
  clear_length = ap length c ∙ omega (arith, length-append (zero_words n) (drop n row), length-replicate {A = ℕ} n 0, length-drop n row)

  pub clear_empty : Empty n row'
  clear_empty i b =
      ap (λ (l : List ℕ). get_or l i 0) c
      ∙ get_or-append (zero_words n) (drop n row) 0 i (omega (arith, length-replicate {A = ℕ} n 0))
      ∙ get_or-replicate n i 0 0 b

  pub places-ask : (g : Grid) (rects : List ℤ) → n ≡ windows g → length rects / 4 ≤ 65536
      → Empty (windows g) row' × ((length rects / 4 ≤ 65536) × (4 * (length rects / 4) ≤ length rects))
  places-ask g rects is few = (subst (λ (k : ℕ). Empty k row') is clear_empty, (few, omega arith))

module _ (s : State) (rects : List ℤ) (t : HasRects s rects) where
  pub has-few : length rects / 4 ≤ 65536
  has-few = let h = t.tree.holds in omega (arith, rects-places s t.nodes t.dots rects t.tree.marks t.tree.shape h, h.valid.places_fit)

  pub has-live : s.live ≤ length rects / 4
  has-live =
      let h = t.tree.holds in
      let w = world s t.nodes t.dots rects t.tree.marks in
      omega (
        arith,
        rects-places s t.nodes t.dots rects t.tree.marks t.tree.shape h,
        live-and_free t.tree.shape h.valid,
        (holds-represented w t.tree.shape h).live,
      )

  pub has-free : length rects / 4 - s.live ≤ zeros_in rects (length rects / 4)
  has-free = free-few s t.nodes t.dots rects t.tree.marks t.tree.shape t.tree.holds

-- the zero rectangles that are added at the end
module _ {rects : List ℤ} {c c' : Counts} {pass : Pass} (p : Passed rects (length rects / 4) c c' pass) (few : length rects / 4 ≤ 65536) where
  abbrev all : Passing rects (length rects / 4) c c' pass (length rects / 4)
  all = record { within = omega arith; passed = p }

  pub rest-asks : {weight : ℕ} → Empty (windows c.grid) c.row.now → weight ≤ pass.zeros → (weight ≤ 65536) × Room 0 (windows c'.grid) weight c'.row.now
  rest-asks {weight} empty some = (omega (arith, zeros-le all), pass-room all empty weight (omega (arith, zeros-le all)))

  pub rest-fits : {weight met : ℕ} → weight ≤ pass.zeros → met ≡ weight * met_by c'.grid zero_rect → pass.total + met ≤ 4294967296
  rest-fits {weight} {met} some is =
      omega (
        arith,
        totals-le all,
        is,
        zeros-le all,
        mul-le-mul {n₁ = weight} {m₁ = met_by c'.grid zero_rect} {n₂ = 65536} {m₂ = 4096} (omega (arith, zeros-le all)) (met-few c'.grid c'.sized zero_rect),
      )

-- ---- the counts

-- what the code does: the words are cleared, all places added, then the zero rectangle as often as dots have it
pub record Worked (s : State) (rects : List ℤ) (row : List ℕ) (c₁ c₂ c₃ : Counts) (pass : Pass) (met : ℕ) : Type 0 where
  pub room : windows c₁.grid ≤ length row
  pub clears : Cleared row (windows c₁.grid) c₁.row.now
  pub passes : Passed rects (length rects / 4) c₁ c₂ pass
  pub last : RectAdded zero_rect (pass.zeros - (length rects / 4 - s.live)) c₂ c₃ met

-- a rectangle as often as its weight says
times : (b : Bool) (weight : ℕ) → cond b weight 0 ≡ weight * cond b 1 0
times true weight = omega arith
times false weight = omega arith

module _ (c₁ : Counts) where
  abbrev g : Grid
  g = c₁.grid

  -- nothing is added beyond the windows
  beyond : (r : AABB) (weight i : ℕ) → windows g ≤ i → weight_of g r weight i ≡ 0
  beyond r weight i out =
      let z = sizes g c₁.sized in
      let late : rows_of g ≤ i / columns_of g = (le-div_iff_mul-le z.some_columns).1 (omega (arith, mul_comm (columns_of g) (rows_of g))) in
      let past : (rows_met g r).to ≤ i / columns_of g = omega (arith, (span_met-within (flat r) g.y (down g) (rows_of g) r.y1 r.y2).0) in
      cells-none (columns_of g) (columns_met g r) (rows_met g r) weight i (in_past (rows_met g r) (i / columns_of g) past)

  -- `places` is N, `spare` how many dots have the zero rectangle
  module _ (s : State) (nodes dots : List ℕ) (rects : List ℤ) (marks : List ℕ) (x : Shape) (h : Holds (world s nodes dots rects marks) x)
      (row : List ℕ) (c₂ c₃ : Counts) (pass : Pass) (met : ℕ) (k : Worked s rects row c₁ c₂ c₃ pass met) where
    abbrev places : ℕ
    places = length rects / 4

    abbrev row₁ : List ℕ
    row₁ = c₁.row.now

    abbrev row₃ : List ℕ
    row₃ = c₃.row.now

    abbrev spare : ℕ
    spare = pass.zeros - (places - s.live)

    last : Added c₂.row.now (weight_of g zero_rect spare) row₃
    last = rw k.passes.same.grid at k.last.counts

    others : met ≡ spare * met_by g zero_rect
    others = rw k.passes.same.grid at k.last.is_met

    same-spare : spare ≡ zeros_in rects places - (places - s.live)
    same-spare = ap (λ (n : ℕ). n - (places - s.live)) k.passes.left_out

    -- the zero rectangle, as often as dots have it
    zero_weigh : (f : AABB → ℕ) → sum_below places (λ p. besides f (rect_at rects p)) + spare * f zero_rect ≡ sum_dots (on_dot (λ d. f d.rect)) x.tree
    zero_weigh f =
        ap (λ (n : ℕ). sum_below places (λ p. besides f (rect_at rects p)) + n * f zero_rect) same-spare ∙ live_weigh s nodes dots rects marks x h f

    same_length : length row₁ ≡ length row
    same_length = clear_length row row₁ (windows g) k.clears k.room

    -- what a word gets
    got : (i : ℕ) → i < length row
        → get_or row₃ i 0 ≡ get_or row₁ i 0 + (sum_below places (λ p. besides (λ r. weight_of g r 1 i) (rect_at rects p)) + weight_of g zero_rect spare i)
    got i b =
        omega (arith, last.each i (omega (arith, k.passes.counts.same_length, same_length)), k.passes.counts.each i (omega (arith, same_length)))

    inside : (i : ℕ) → i < windows g → get_or row₃ i 0 ≡ get_or (grid_counts g x) i 0
    inside i b =
        let z = sizes g c₁.sized in
        let column = i % columns_of g in
        let line = i / columns_of g in
        let across-in : column < columns_of g = mod-lt i z.some_columns in
        let down-in : line < rows_of g = (div-lt_iff_lt-mul z.some_columns).1 (omega (arith, mul_comm (columns_of g) (rows_of g))) in
        let met-zero = in_span (columns_met g zero_rect) column && in_span (rows_met g zero_rect) line in
        omega (
          arith,
          got i (omega (arith, k.room)),
          clear_empty row row₁ (windows g) k.clears k.room i b,
          times met-zero spare,
          zero_weigh (λ r. weight_of g r 1 i),
          count_weigh g c₁.sized x h.valid column line across-in down-in,
          counts-at g x i z.some_columns b,
        )

    outside : (i : ℕ) → windows g ≤ i → i < length row → get_or row₃ i 0 ≡ get_or row i 0
    outside i out b =
        let n = windows g in
        let kept : get_or row₁ i 0 ≡ get_or row i 0 =
        ap (λ (l : List ℕ). get_or l i 0) k.clears
        ∙ ap (λ (j : ℕ). get_or (zero_words n ++ drop n row) j 0) (split n out)
        ∙ get_or-append-add (zero_words n) (drop n row) (i - n) 0
        ∙ get_or-drop n row (i - n) 0
        ∙ ap (λ (j : ℕ). get_or row j 0) (omega arith) in
        omega (
          arith,
          got i b,
          kept,
          sum_below-zero places (λ p. besides (λ r. weight_of g r 1 i) (rect_at rects p)) (λ p l. nothing (rect_at rects p)),
          beyond zero_rect spare i out,
        )
      where
        split : (n : ℕ) → n ≤ i → i ≡ length (zero_words n) + (i - n)
        split n l = omega (arith, length-replicate {A = ℕ} n 0)

        nothing : (r : AABB) → besides (λ q. weight_of g q 1 i) r ≡ 0
        nothing r = by_bool (same_rect r zero_rect) (λ e. rw e refl) (λ e. rw e (beyond r 1 i out))

    counts-row : row₃ ≡ grid_counts g x ++ drop (windows g) row
    counts-row =
        let n = windows g in
        let long : length row₃ ≡ length row = last.same_length ∙ k.passes.counts.same_length ∙ same_length in
        let whole : length (grid_counts g x ++ drop n row) ≡ length row =
        omega (arith, length-append (grid_counts g x) (drop n row), counts-length g x, length-drop n row) in
        ext_get_or 0 row₃ (grid_counts g x ++ drop n row) (long ∙ sym whole)
        (λ i b.
        by_dec (dec_lt i n)
        (λ l. inside i l ∙ sym (get_or-append (grid_counts g x) (drop n row) 0 i (omega (arith, counts-length g x))))
        (λ l. outside i (omega arith) (omega (arith, long)) ∙ sym (tail i (omega arith))))
      where
        tail : (i : ℕ) → windows g ≤ i → get_or (grid_counts g x ++ drop (windows g) row) i 0 ≡ get_or row i 0
        tail i l =
            ap (λ (j : ℕ). get_or (grid_counts g x ++ drop (windows g) row) j 0) (omega (arith, counts-length g x))
            ∙ get_or-append-add (grid_counts g x) (drop (windows g) row) (i - windows g) 0
            ∙ get_or-drop (windows g) row (i - windows g) 0
            ∙ ap (λ (j : ℕ). get_or row j 0) (omega arith)

    total_is : pass.total + met ≡ grid_total g x
    unfolding dots_total
    total_is =
        omega (arith, k.passes.totals, others, zero_weigh (met_by g), total_dots g c₁.sized x h.valid)

    totalled-here : (row₃ ≡ grid_counts g x ++ drop (windows g) row) × (pass.total + met ≡ grid_total g x)
    totalled-here = (counts-row, total_is)

pub totalled : {s : State} {rects : List ℤ} {row : List ℕ} {c₁ c₂ c₃ : Counts} {pass : Pass} {met : ℕ} → Worked s rects row c₁ c₂ c₃ pass met
    → Totalled s rects c₁.grid row c₃.row.now (pass.total + met)
unfolding Totalled
totalled {s} {rects} {row} {c₁} {c₂} {c₃} {pass} {met} k = λ nodes dots marks x h.
    totalled-here c₁ s nodes dots rects marks x h row c₂ c₃ pass met k

-- ---- the answers

-- a test that was passed
pub held : {told is : Bool} → told ≡ is → not told ≡ false → is ≡ true
held {told} e n = sym e ∙ not-false told n

module _ (s : State) (rects : List ℤ) (g : Grid) (row : List ℕ) where
  pub report_eleven : {sizes? : Bool} → sizes? ≡ sizes_fit g → not sizes? ≡ true → Reported s rects g row row (refused 11)
  unfolding Reported grid_rule cleared
  report_eleven {sizes?} told n = λ nodes dots marks x h. rw (sym told ∙ not-true sizes? n) refl

  pub report-twelve : {corner? : Bool} → sizes_fit g ≡ true → corner? ≡ corner_fits g → not corner? ≡ true → Reported s rects g row row (refused 12)
  unfolding Reported grid_rule cleared
  report-twelve {corner?} sized told n = λ nodes dots marks x h. rw (sized, sym told ∙ not-true corner? n) refl

  module _ (sized : sizes_fit g ≡ true) (near : corner_fits g ≡ true) {count : ℕ} (many : count ≡ windows g) where
    pub report-many : length row < count → Reported s rects g row row (too_many count)
    unfolding Reported grid_rule cleared
    report-many short = λ nodes dots marks x h.
        rw (sized, near, lt-ltb (length row) (windows g) (omega (arith, many)))
        (ap (λ (n : ℕ). exit (world s nodes dots rects (replicate (length marks) 0)) row (too_many n)) many)

    pub report-counted : {row' kept : List ℕ} (total : ℕ) → count ≤ length row → Totalled s rects g row kept total → row' ≡ kept
        → Reported s rects g row row' (answered total)
    unfolding Reported Totalled grid_rule cleared
    report-counted total fits done same = λ nodes dots marks x h.
        let found = rw (sym same) at (done nodes dots marks x h) in
        let words = h.words in
        let written = found.0 ∙ ap (λ (n : ℕ). grid_counts g x ++ drop n row) (sym (counts-length g x)) in
        rw (sized, near, le-ltb (length row) (windows g) (omega (arith, many))) (λ i. exit (words i) (written i) (answered (found.1 i)))
