-- The count of changes along a list of calls (§21).
--     Counts       what the count says of two shapes of one run; change-counts, trace-counts
--     same_count   an equal count means that nothing was changed in between (§21.6)
--     few-exactly  fewer than 2^64 is at most the largest count
--     no-sixteen   in a list of fewer than 2^64 calls from a fresh tree no call is refused 16 (§12.12)
use Rattle.std.specs.Prelude.{◌≡◌, refl, ◌≢◌, ◌↔◌, List, [], ◌∷◌, Bool, ℕ, ◌+◌, ◌≤◌, length}
use Rattle.std.proofs.Common.{ap, sym, ◌∙◌, subst, ⊎_elim, arith}
use Rattle.geometry.specs.declared.settings.Settings.{Settings}
use Rattle.model.specs.Lists.{All}
use Rattle.model.specs.declared.Dot.{Dot}
use Rattle.model.specs.Shapes.{Shape, fresh, removed, cleaned}
use Rattle.model.specs.Layout.{World, groups_of, places_of, Holds}
use Rattle.model.specs.Calls.{Reply, answered, largest_count, Make}
use Rattle.model.specs.Laying.{laid}
use Rattle.model.specs.Patch.{patch_dots}
use Rattle.model.specs.Book.{Event, insert, remove, cleanup, query, all, patch, ask, place, Run, calls_in, calls, Few}
use Rattle.model.proofs.Laws.Calls.{Says}
use Rattle.model.proofs.Laws.Laying.{laid-changes}
use Rattle.model.proofs.Laws.Effects.{Lays, Change, refusal_of, Trace, run-trace}
use Rattle.model.proofs.Laws.Runs.{made_holds}

-- ---- what the count says

-- y comes from x by n calls
pub record Counts (x : Shape) (n : ℕ) (y : Shape) : Type 0 where
  pub rises : x.changes ≤ y.changes
  pub slowly : y.changes ≤ x.changes + n
  pub same : x.changes ≡ y.changes → x ≡ y

counts-kept : (x : Shape) (n : ℕ) (y : Shape) → y ≡ x → Counts x n y
counts-kept x n y e =
    let count : y.changes ≡ x.changes = ap (λ (z : Shape). z.changes) e in
    record { rises = omega (arith, count); slowly = omega (arith, count); same = λ s. sym e }

-- a change
counts-more : (x : Shape) (n : ℕ) (y : Shape) → x.changes + 1 ≤ y.changes → y.changes ≤ x.changes + n → Counts x n y
counts-more x n y more slowly = record { rises = omega arith; slowly = slowly; same = λ e. absurd (omega (arith, e)) }

counts_then : (x : Shape) (m : ℕ) (y : Shape) (n : ℕ) (z : Shape) → Counts x m y → Counts y n z → Counts x (m + n) z
counts_then x m y n z a b =
    record {
      rises = omega (arith, a.rises, b.rises);
      slowly = omega (arith, a.slowly, b.slowly);
      same = λ e. a.same (omega (arith, a.rises, b.rises)) ∙ b.same (omega (arith, a.rises, b.rises));
    }

laid-counts : (x : Shape) (ds : List Dot) → Counts x (length ds) (laid ds x)
laid-counts x [] = counts-kept x 0 x refl
laid-counts x (d ∷ ds) = let n = laid-changes (d ∷ ds) x in counts-more x (length (d ∷ ds)) (laid (d ∷ ds) x) (omega (arith, n)) (omega (arith, n))

lays-counts : {x : Shape} (ds : List Dot) {number : ℕ} {reply : Reply ℕ} {y : Shape} → Lays x ds number reply y → Counts x (length ds) y
lays-counts {x} ds {y = y} l =
    ⊎_elim (λ no. counts-kept x (length ds) y no.0) (λ yes. subst (Counts x (length ds)) (sym yes.0) (laid-counts x ds)) l

says-counts : {x : Shape} {yes? : Bool} {other : Shape} {reply : Reply Bool} {y : Shape} → other.changes ≡ x.changes + 1
    → Says x yes? other reply y → Counts x 1 y
says-counts {x} {other = other} {y = y} one s =
    ⊎_elim
    (λ no. counts-kept x 1 y no.0)
    (⊎_elim
    (λ top. counts-kept x 1 y top.0)
    (λ yes. subst (Counts x 1) (sym yes.0) (counts-more x 1 other (omega (arith, one)) (omega (arith, one)))))
    s

pub change-counts : (x : Shape) (e : Event) (y : Shape) → Change x e y → Counts x (calls_in e) y
unfolding removed cleaned
change-counts x (insert dot reply) y c = lays-counts (dot ∷ []) c
change-counts x (remove id r reply) y c = says-counts refl c
change-counts x (cleanup reply) y c = says-counts refl c
change-counts x (query q row row' reply) y c = counts-kept x 1 y c
change-counts x (all row row' reply) y c = counts-kept x 1 y c
change-counts x (patch p reply) y c = lays-counts (patch_dots p) c
change-counts x (ask dot reply) y c = counts-kept x 1 y c
change-counts x (place t reply) y c = lays-counts (t.dot ∷ []) c

pub trace-counts : (x : Shape) (es : List Event) (y : Shape) → Trace x es y → Counts x (calls es) y
trace-counts x [] y t = counts-kept x 0 y (sym t)
trace-counts x (e ∷ es) y t =
    counts_then x (calls_in e) t.0 (calls es) y (change-counts x e t.0 t.1.change) (trace-counts t.0 es y t.2)

-- two moments of a run with one count have one shape
pub same_count : (w : World) (x : Shape) → Holds w x → (es : List Event) (v : World) → Run w es v
    → (y : Shape) × Holds v y × (x.changes ≡ y.changes → x ≡ y)
same_count w x h es v run = let r = run-trace w es v x h run in (r.0, r.1, (trace-counts x es r.0 r.2).same)

-- ---- 16

pub few-exactly : (n : ℕ) → Few n ↔ (n ≤ largest_count)
unfolding largest_count
few-exactly n = ((λ f. omega arith), λ f. omega arith)

pub trace-no_sixteen : (x : Shape) (es : List Event) (y : Shape) → Trace x es y → Few (x.changes + calls es) → All (λ e. refusal_of e ≢ 16) es
unfolding largest_count
trace-no_sixteen x [] y t few = tt
trace-no_sixteen x (e ∷ es) y t few =
    let c = change-counts x e t.0 t.1.change in
    ((λ s. omega (arith, t.1.reason.sixteen s)), trace-no_sixteen t.0 es y t.2 (omega (arith, c.slowly)))

pub no-sixteen : (lent : World) (s : Settings) (start : World) → Make lent s start (answered tt)
    → (es : List Event) (w : World) → Run start es w → Few (calls es) → All (λ e. refusal_of e ≢ 16) es
unfolding fresh
no-sixteen lent s start m es w run few =
    let x = fresh s (groups_of lent) (places_of lent) in
    let r = run-trace start es w x (made_holds lent s start m) run in
    trace-no_sixteen x es r.0 r.2 (omega arith)
