-- What an accepted all has answered (§8.7, §8.8), of the tree x that it was asked of.
--     all-exit     the row begins with the ids of all dots, and the answer is their number
--     all-number, all-references   it is the state's live number, and what references answers
--     all_permutation      the ids are those of the places that are not free, each as often
--     collected_sublist    what collect_ids lists stands among them, in the same order
use Rattle.std.specs.Prelude.{◌≡◌, length, take, ltb}
use Rattle.std.proofs.Math.Path.{ap, sym}
use Rattle.std.proofs.Common.{◌∙◌, arith}
use mathlib.Core.List.{List, [], map}
use Prim.Native.Nat.{ℕ}
use Rattle.arithmetic.proofs.Laws.Tests.{by_bool, true_false}
use Rattle.geometry.specs.Settings.{root_rect}
use Rattle.model.specs.declared.answers.Found.{Found}
use Rattle.model.specs.Sums.{indicator}
use Rattle.model.specs.Lists.{count, Permutation, Sublist}
use Rattle.model.specs.Dots.{of_all_inks}
use Rattle.model.specs.Trees.{Placed, dots, id_of}
use Rattle.model.specs.Shapes.{Shape, listed, all_ids, references}
use Rattle.model.specs.Layout.{World, Holds}
use Rattle.model.specs.Memory.{memory, id_at}
use Rattle.model.specs.Calls.{answered, exit, carried_out, listing, found_in, references_rule, All, CollectIds, References}
use Rattle.model.specs.Book.{accepted}
use Rattle.model.proofs.Laws.Sums.{sum_over-map}
use Rattle.model.proofs.Laws.Lists.{sum_over-all}
use Rattle.model.proofs.Laws.Trees.{sum_dots-dots, all_dots-dots}
use Rattle.model.proofs.Laws.Layout.{obeys-tree}
use Rattle.model.proofs.Laws.Memory.{holds-represented}
use Rattle.model.proofs.Laws.Places.{dots-stand, live_places, live-sum}
use Rattle.model.proofs.Laws.Calls.{reply_of, answered-same, listing-short, listing_done, listing-front, query-left, all_left}
use Rattle.model.proofs.Laws.Listing.{listed-sublist, all-length, collect_query}

-- an accepted call that lists ids
accepted-listing : {A : Type 0} (w : World) (row : List ℕ) (v : World) (row' : List ℕ) (said : A) (x : Shape) → Holds w x → (ids : List ℕ) (a : A)
    → exit v row' (answered said) ≡ carried_out w row (listing (length row) x ids a) → (said ≡ a) × (take (length ids) row' ≡ ids)
accepted-listing w row v row' said x h ids a left =
    by_bool (ltb (length row) (length ids))
    (λ e. true_false (ap accepted (listing-short w row v row' (answered said) x h ids a left e).1))
    (λ e.
    (answered-same (listing_done w row v row' (answered said) x h ids a left e).1, listing-front w row v row' (answered said) x h ids a left e))

module _ (w : World) (row : List ℕ) (w' : World) (row' : List ℕ) (n : ℕ) (call : All w row w' row' (answered n)) (x : Shape) (h : Holds w x) where
  pub all-exit : (n ≡ length (all_ids x)) × (take n row' ≡ all_ids x)
  all-exit =
      let a = accepted-listing w row w' row' n x h (all_ids x) (length (all_ids x)) (all_left w row w' row' (answered n) call x h) in
      (a.0, ap (λ (k : ℕ). take k row') a.0 ∙ a.1)

  pub all-number : n ≡ w.state.live
  all-number = omega (arith, all-exit.0, all-length x, (holds-represented w x h).live)

  pub all-references : (v : World) (m : ℕ) → References w v (answered m) → n ≡ m
  unfolding References references_rule references
  all-references v m said =
      let counted = answered-same (reply_of (obeys-tree references_rule w [] (exit v [] (answered m)) said x h)) in
      omega (arith, all-exit.0, all-length x, counted)

  pub all_permutation : Permutation (take n row') (map (id_at w.dots) (live_places x))
  unfolding all_ids
  all_permutation k =
      let here : Placed → ℕ = λ d. indicator k (id_at w.dots d.place) in
      ap (λ (ids : List ℕ). count k ids) all-exit.1
      ∙ sum_over-map (indicator k) id_of (dots x.tree)
      ∙ sym (sum_over-all here (λ d. indicator k (id_of d)) (dots x.tree) (λ d e. ap (λ c. indicator k c.id) e)
      (all_dots-dots (λ d. (memory w).dot d.place ≡ d.dot) x.tree (dots-stand (memory w) 0 x.tree (holds-represented w x h).tree)))
      ∙ sum_dots-dots here x.tree
      ∙ sym (live-sum x h.valid (λ p. indicator k (id_at w.dots p)))
      ∙ sym (sum_over-map (indicator k) (id_at w.dots) (live_places x))

  pub collected_sublist : (into : List ℕ) (v : World) (into' : List ℕ) (a : Found) → CollectIds w into v into' (answered a)
      → Sublist (take a.hits into') (take n row')
  collected_sublist into v into' a said =
      let q = of_all_inks (root_rect w.state.settings) in
      let c = accepted-listing w into v into' a x h (listed q x) (found_in q x)
      (query-left w q into v into' (answered a) ((collect_query w into v into' (answered a)).0 said) x h) in
      let collected : take a.hits into' ≡ listed q x = ap (λ (k : ℕ). take k into') (ap (λ (f : Found). f.hits) c.0) ∙ c.1 in
      rw (collected, all-exit.1) (listed-sublist q x h.valid)
