-- A query of all inks asks for every dot that its rectangle intersects: what is promised of it (§12.7) then speaks of rectangles alone.
--     all_shown    the full mask shows every ink from 0 to 15
--     full_hit     so a query of all inks lists just what intersects
--     masked-hits  a query of some inks lists what a query of all lists, less the dots of other inks, in that order
--     full_mask    THE PROMISE for a query of all inks, in those words
use Rattle.std.specs.Prelude.{◌≡◌, refl, List, [], Bool, true, cond, ℕ, ◌≤◌, length, take}
use Rattle.std.proofs.Common.{ap, sym, ◌∙◌, arith, leb-true}
use Rattle.std.proofs.Math.Bool.{and-true}
use Rattle.arithmetic.specs.Bits.{bit_at}
use Rattle.arithmetic.proofs.Laws.Tests.{by_bool}
use Rattle.arithmetic.proofs.Laws.Cases.{all-below}
use Rattle.geometry.specs.declared.aabb.AABB.{AABB}
use Rattle.geometry.specs.declared.settings.Settings.{Settings}
use Rattle.geometry.specs.declared.node_data.NodeData.{NodeData}
use Rattle.geometry.specs.Rectangles.{intersects}
use Rattle.geometry.specs.Cells.{child_data, opens}
use Rattle.model.specs.declared.Dot.{Dot}
use Rattle.model.specs.declared.Window.{Window}
use Rattle.model.specs.declared.answers.Found.{Found}
use Rattle.model.specs.Lists.{filter}
use Rattle.model.specs.Dots.{good_ink, shows, all_inks, of_all_inks, is_hit}
use Rattle.model.specs.Trees.{Placed, Tree, leaf, branch, AllDots}
use Rattle.model.specs.Query.{hits}
use Rattle.model.specs.Shapes.{Shape, Valid, root}
use Rattle.model.specs.Layout.{World}
use Rattle.model.specs.Calls.{Reply, answered, Make, Query}
use Rattle.model.specs.Book.{Event, Run, book, Has, Distinct, Exactly, Demand3}
use Rattle.model.proofs.Laws.Lists.{all_map, filter_ext, filter_twice, filter-join_below, join_below_ext}
use Rattle.model.proofs.Laws.Shapes.{good_inks}
use Rattle.model.proofs.Laws.Book.{has_all}
use Rattle.model.proofs.Laws.Demand.{demand_3, book_inks}

pub all_shown : (q : AABB) (d : Dot) → good_ink d ≡ true → shows (of_all_inks q) d ≡ true
unfolding shows good_ink bit_at
all_shown q d good = all-below 16 (bit_at all_inks) refl d.ink (omega (arith, leb-true d.ink 15 good))

pub full_hit : (q : AABB) (d : Dot) → good_ink d ≡ true → is_hit (of_all_inks q) d ≡ intersects q d.rect
unfolding is_hit
full_hit q d good = rw (all_shown q d good) (and-true (intersects q d.rect))

-- ---- a mask

-- the query with a mask lists what the query of all inks lists, less the dots of other inks, in that order
masked : (q : Window) (n : NodeData) (t : Tree) → AllDots (λ d. good_ink d.dot ≡ true) t
    → hits q n t ≡ filter (λ d. shows q d.dot) (hits (of_all_inks q.rect) n t)
unfolding is_hit
masked q n (leaf chain) good =
    let meets : Placed → Bool = λ d. intersects q.rect d.dot.rect in
    filter_twice meets (λ d. shows q d.dot) chain
    ∙ ap (filter (λ d. shows q d.dot))
    (filter_ext meets (λ d. is_hit (of_all_inks q.rect) d.dot) chain
    (all_map (λ d. good_ink d.dot ≡ true) (λ d. meets d ≡ is_hit (of_all_inks q.rect) d.dot) (λ d g. sym (full_hit q.rect d.dot g)) chain good))
masked q n (branch g f) good =
    let shown : Placed → Bool = λ d. shows q d.dot in
    let full : ℕ → List Placed = λ i. cond (opens q.rect n i) (hits (of_all_inks q.rect) (child_data n i) (f i)) [] in
    join_below_ext 5 (λ i. cond (opens q.rect n i) (hits q (child_data n i) (f i)) []) (λ i. filter shown (full i))
    (λ i b. by_bool (opens q.rect n i) (λ e. rw e (masked q (child_data n i) (f i) (good i b))) (λ e. rw e refl))
    ∙ sym (filter-join_below shown 5 full)

pub masked-hits : (q : Window) (x : Shape) → Valid x
    → hits q (root x) x.tree ≡ filter (λ d. shows q d.dot) (hits (of_all_inks q.rect) (root x) x.tree)
masked-hits q x v = masked q (root x) x.tree (good_inks x v)

-- ---- the promise

pub full_mask : (lent : World) (s : Settings) (start : World) → Make lent s start (answered tt)
    → (es : List Event) (w : World) → Run start es w → Distinct es
    → (q : AABB) (row row' : List ℕ) (w' : World) (reply : Reply Found) → Query w (of_all_inks q) row w' row' reply
    → length (filter (λ d. intersects q d.rect) (book es)) ≤ length row
    → (a : Found) × (reply ≡ answered a) × Exactly (λ d. intersects q d.rect) (book es) (take a.hits row')
unfolding Demand3
full_mask lent s start m es w run distinct q row row' w' reply call long =
    let b = book es in
    let hit : (d : Dot) → Has d b → is_hit (of_all_inks q) d ≡ intersects q d.rect =
    λ d has. full_hit q d (book_inks lent s start m es w run distinct d has) in
    let same = filter_ext (is_hit (of_all_inks q)) (λ d. intersects q d.rect) b (has_all (λ d. is_hit (of_all_inks q) d ≡ intersects q d.rect) b hit) in
    let l = (demand_3 lent s start m es w run distinct).lists (of_all_inks q) row row' w' reply call (omega (arith, long, ap length same)) in
    let e = l.2 in (
      l.0,
      l.1,
      record {
        once = e.once;
        only_those = λ id c. let t = e.only_those id c in (t.0, t.1, t.2, sym (hit t.0 t.1) ∙ t.3);
        all_those = λ d has i. e.all_those d has (hit d has ∙ i);
      },
    )
