-- What the reading calls list: the ids of the dots that pass a test, in the order of the walk over all children.
--     shown        the ids that a test shows; listed-shown, every-shown: what a query lists, and what all does
--     shown-sum    every weight on them is one on the dots
--     listed-once  a query lists each dot at most once
--     listed_le    and at most live of them
--     listed-sublist       what a query lists stands in all's list, in the same order
--     all-length, references-dots      all lists, and the references are, the dots in all leaves
--     collect_query        collect_ids is a query with the root's rectangle, of all inks
use Rattle.std.specs.Prelude.{◌≡◌, ◌↔◌, List, map, Bool, cond, ℕ, ◌≤◌, length}
use Rattle.std.proofs.Common.{ap, sym, ◌∙◌, arith}
use Rattle.geometry.specs.declared.settings.Settings.{Settings}
use Rattle.geometry.specs.Settings.{root_rect}
use Rattle.model.specs.Sums.{sum_over}
use Rattle.model.proofs.Laws.Sums.{sum_over-one, sum_over-map}
use Rattle.model.specs.Lists.{filter, Sublist}
use Rattle.model.proofs.Laws.Lists.{filter-le, sum-filter, filter_any, filter-sublist, sublist-map, length-map}
use Rattle.model.specs.declared.Dot.{Dot}
use Rattle.model.specs.declared.Window.{Window}
use Rattle.model.specs.Dots.{of_all_inks, is_hit, any_dot}
use Rattle.model.specs.Trees.{Placed, at_place, size, sum_dots, dots, id_of}
use Rattle.model.proofs.Laws.Trees.{sum_dots-dots, length-dots}
use Rattle.model.specs.Query.{hits}
use Rattle.model.specs.Shapes.{Shape, Valid, root, listed, all_ids, references}
use Rattle.model.specs.Layout.{World, Holds}
use Rattle.model.specs.declared.answers.Found.{Found}
use Rattle.model.specs.Calls.{Reply, Exit, carried_out, query_rule, collect_ids_rule, Query, CollectIds}
use Rattle.model.proofs.Laws.Dots.{on_dot}
use Rattle.model.proofs.Laws.Query.{hits-filter}
use Rattle.model.proofs.Laws.Shapes.{below-le, shape-routed}
use Rattle.model.proofs.Laws.Layout.{holds-settings}

module _ (q : Window) (x : Shape) (v : Valid x) where
  -- no weight sums to more over the listed dots than over all
  hits-le : (h : Placed → ℕ) → sum_over h (hits q (root x) x.tree) ≤ sum_dots h x.tree
  hits-le h =
      omega (
        arith,
        ap (sum_over h) (hits-filter q (root x) x.tree (shape-routed x v)),
        filter-le h (λ d. is_hit q d.dot) (dots x.tree),
        sum_dots-dots h x.tree,
      )

  -- each place at most once, so each dot
  pub listed-once : (k : ℕ) → sum_over (at_place k) (hits q (root x) x.tree) ≤ 1
  listed-once k = omega (arith, hits-le (at_place k), v.places_once k, below-le k x.places)

  pub listed_le : length (listed q x) ≤ size x.tree
  unfolding listed
  listed_le =
      let found = hits q (root x) x.tree in
      omega (arith, sum_over-one (map id_of found), sum_over-map (λ id. 1) id_of found, hits-le (λ d. 1))

-- ---- a test

abbrev pub shown : (Dot → Bool) → Shape → List ℕ
shown test x = map id_of (filter (λ d. test d.dot) (dots x.tree))

pub listed-shown : (q : Window) (x : Shape) → Valid x → listed q x ≡ shown (is_hit q) x
unfolding listed
listed-shown q x v = ap (map id_of) (hits-filter q (root x) x.tree (shape-routed x v))

pub every_shown : (x : Shape) → all_ids x ≡ shown any_dot x
unfolding all_ids
every_shown x = ap (map id_of) (sym (filter_any (dots x.tree)))

pub shown-sum : (g : ℕ → ℕ) (test : Dot → Bool) (x : Shape) → sum_over g (shown test x) ≡ sum_dots (on_dot (λ d. cond (test d) (g d.id) 0)) x.tree
shown-sum g test x =
    sum_over-map g id_of (filter (λ d. test d.dot) (dots x.tree))
    ∙ sum-filter (λ d. g (id_of d)) (λ d. test d.dot) (dots x.tree)
    ∙ sum_dots-dots (λ d. cond (test d.dot) (g (id_of d)) 0) x.tree

pub listed-sublist : (q : Window) (x : Shape) → Valid x → Sublist (listed q x) (all_ids x)
unfolding all_ids
listed-sublist q x v = rw (listed-shown q x v) (sublist-map id_of (filter-sublist (λ d. is_hit q d.dot) (dots x.tree)))

-- ---- all dots

pub all-length : (x : Shape) → length (all_ids x) ≡ size x.tree
unfolding all_ids
all-length x = length-map id_of (dots x.tree) ∙ length-dots x.tree

-- §9.3: the references are all dots
pub references-dots : (x : Shape) → references x ≡ length (dots x.tree)
unfolding references
references-dots x = sym (length-dots x.tree)

-- §8.5: collect_ids is a query with the root's rectangle, of all inks
pub collect_query : (w : World) (row : List ℕ) (w' : World) (row' : List ℕ) (reply : Reply Found)
    → CollectIds w row w' row' reply ↔ Query w (of_all_inks (root_rect w.state.settings)) row w' row' reply
unfolding Query CollectIds collect_ids_rule
collect_query w row w' row' reply =
    let left : Settings → Shape → Exit ℕ Found = λ s x. carried_out w row (query_rule (of_all_inks (root_rect s)) (length row) x) in
    let same : (x : Shape) → Holds w x → left w.state.settings x ≡ left x.settings x = λ x h. ap (λ s. left s x) (holds-settings w x h) in (
      λ c.
          record { bad_length = c.bad_length; bad_settings = c.bad_settings; no_tree = c.no_tree; tree = λ l s x h. c.tree l s x h ∙ sym (same x h) },
      λ query.
          record { bad_length = query.bad_length; bad_settings = query.bad_settings; no_tree = query.no_tree; tree = λ l s x h. query.tree l s x h ∙ same x h },
    )
