-- The cleanup of a memory that is a tree.
--     root-walk    what the walk from the root asks
--     refused-cleaned, no-cleaned  where no change more can be counted: 16 if the search finds a branch, else no
--     none-turned  the walk turned no branch: no, and the rows are as they were
--     some-turned  it turned some: what it leaves is what the rule says
use Rattle.std.specs.Prelude.{◌≡◌, Bool, not, ℕ, zero, suc, ◌+◌, ◌*◌, ◌/◌, ◌<◌, ℤ, length, replicate, Some, None, Ok, Err}
use Rattle.std.proofs.Math.Path.{refl, sym}
use Rattle.std.proofs.Common.{ap, ◌∙◌, subst, le_refl, arith, ext_get_or}
use mathlib.Core.List.{List, []}
use Rattle.std.proofs.Math.Bool.{true, false}
use Rattle.std.proofs.Math.Decide.{ℕ_discrete}
use Rattle.std.proofs.Math.ListN.{length-replicate}
use Rattle.std.proofs.lemmas.Bool.{not-true, not-false}
use Rattle.arithmetic.proofs.Laws.Tests.{by_bool}
use Rattle.geometry.specs.Settings.{D}
use Rattle.model.specs.declared.State.{State}
use Rattle.model.specs.declared.refusal.Refusal.TheVariants.{TooManyChanges}
use Rattle.model.specs.Sums.{sum_below}
use Rattle.model.proofs.Laws.Sums.{by_dec}
use Rattle.model.specs.Trees.{Tree, leaf, branch, child_node}
use Rattle.model.specs.Cleanup.{is_zero, busy, all_empty, clean_tree, freed_by, down_from, turned}
use Rattle.model.specs.Shapes.{Shape, cleaned, cleans}
use Rattle.model.specs.Layout.{world, changed_state, Holds}
use Rattle.model.specs.Memory.{first_at, count_at}
use Rattle.model.specs.Calls.{answered, exit, carried_out, can_count, cleanup_rule}
use Rattle.model.proofs.Laws.Calls.{counted-fits, counted_past}
use Rattle.model.proofs.Laws.Shapes.{below-le, cleaned-valid}
use Rattle.model.proofs.Laws.Query.{Clean}
use Rattle.model.proofs.Laws.Cleanup.{zero_is, clean-sum, no-clean}
use Rattle.model.proofs.Laws.Memory.{holds-represented}
use Rattle.tree.specs.Cleanup.{Walk, clean_words, TreeAndFree}
use Rattle.tree.specs.Stored.{Stored}
use Rattle.tree.proofs.Laws.Stored.{nodes-and_free_once, holds-stored, stored-holds}
use Rattle.tree.proofs.Laws.Cleanup.{clean-holds}
use Rattle.tree.specs.Operations.{HasTree}
use Rattle.tree.proofs.Laws.Operations.{refusal-exit, shaped-exit, same-marks}
use Rattle.tree.proofs.Laws.Trees.{root_stands, root_total}
use Rattle.tree_cleanup.specs.declared.Swept.{Swept}
use Rattle.tree_cleanup.specs.Walks.{walk_of, Fits, Cleaned, NodeToClean, NodeCleaned}
use Rattle.tree_cleanup.specs.EmptyBranches.{Searched}
use Rattle.tree_cleanup.specs.Answers.{CleanedUp}
use Rattle.tree_cleanup.proofs.Laws.EmptyBranches.{searched-cleans}

-- ---- a walk that turns no branch stores nothing

down-same : (n : ℕ) (f : ℕ → Walk → Walk) (w : Walk) → ((i : ℕ) → i < n → (v : Walk) → f i v ≡ v) → down_from n f w ≡ w
down-same zero f w same = refl
down-same (suc n) f w same = ap (down_from n f) (same n (le_refl (suc n)) w) ∙ down-same n f w (λ i b. same i (omega arith))

clean-walk : (t : Tree) (a : ℕ) (w : Walk) → Clean t → clean_words t a w ≡ w
clean-walk (leaf chain) a w clean = refl
clean-walk (branch g f) a w clean =
    by_bool (all_empty f)
    (λ e. absurd (omega (arith, clean.0, zero_is (sum_below 5 (λ i. busy (f i))) e)))
    (λ e. rw e (down-same 5 (λ i v. clean_words (f i) (child_node g i) v) w (λ i b v. clean-walk (f i) (child_node g i) v (clean.1 i b))))

-- rows of one length with the same words are the same
same_row : (nodes nodes' : List ℕ) → length nodes' ≡ length nodes → first_at nodes' ≡ first_at nodes → count_at nodes' ≡ count_at nodes → nodes' ≡ nodes
unfolding first_at count_at
same_row nodes nodes' same first count =
    ext_get_or 0 nodes' nodes same
    (λ i b.
    let k : ℕ = i / 2 in
    by_dec (ℕ_discrete i (2 * k + 0))
    (λ e. rw e (ap (λ (h : ℕ → ℕ). h k) first))
    (λ ne. let e : i ≡ 2 * k + 1 = omega arith in rw e (ap (λ (h : ℕ → ℕ). h k) count)))

module _ (s : State) (nodes : List ℕ) where
  abbrev start : Swept
  start = record { head = s.free_group; turned = 0 }

  module _ (dots : List ℕ) (rects : List ℤ) (marks : List ℕ) (x : Shape) (h : Holds (world s nodes dots rects marks) x) where
    root_stood : TreeAndFree x.tree 0 (walk_of nodes dots rects s.free_group) x.free_groups
    root_stood =
        let stored = holds-stored (world s nodes dots rects marks) x h in
        (nodes-and_free_once x.tree x.free_groups (λ k. omega (arith, stored.groups_once k, below-le k x.groups)), stored.tree, stored.groups)

    root-fits : Fits nodes (D s.settings) 0 x.tree
    root-fits = let r = root_stands s nodes dots rects marks x h in record { nodes_in = r.nodes_in; shallow = r.shallow; few = r.few }

    -- a yes is one change more
    one_more : (cleaned x).changes ≡ s.changes + 1
    unfolding cleaned
    one_more = omega (arith, (holds-represented (world s nodes dots rects marks) x h).changes)

    -- a no, and the rows as they were
    no-exit : {nodes' : List ℕ} → nodes' ≡ nodes → cleans x ≡ false
        → exit (world s nodes' dots rects (replicate (length marks) 0)) [] (answered false) ≡ carried_out (world s nodes dots rects marks) [] (cleanup_rule x)
    unfolding cleanup_rule
    no-exit same none =
        rw same
        (shaped-exit s nodes dots rects marks (cleanup_rule x) s nodes dots rects x false (same-marks s nodes dots rects marks x h) (rw none refl))

  pub root-walk : {levels : ℕ} → levels ≡ D s.settings → HasTree s nodes → NodeToClean nodes start 0 levels
  root-walk e t =
      let i = t.tree in
      rw e (record {
        dots = t.dots;
        rects = t.rects;
        tree = i.shape.tree;
        free = i.shape.free_groups;
        stands = root_stood t.dots t.rects i.marks i.shape i.holds;
        fits = root-fits t.dots t.rects i.marks i.shape i.holds;
        small = omega (arith, root_total s nodes t.dots t.rects i.marks i.shape i.holds);
      })

  -- ---- no change more can be counted

  pub refused-cleaned : {fits found : Bool} → fits ≡ can_count s 1 → not fits ≡ true → Searched nodes found → found ≡ true
      → CleanedUp s nodes nodes (Err TooManyChanges)
  unfolding CleanedUp cleanup_rule
  refused-cleaned {found = found} told past f some = λ dots rects marks x h.
      refusal-exit s nodes dots rects marks (cleanup_rule x) TooManyChanges
      (rw (sym (searched-cleans s nodes dots rects marks x h found f) ∙ some)
      (counted_past (cleaned x) [] true s 1 told (one_more dots rects marks x h) (not-true _ past)))

  pub no-cleaned : {found : Bool} → Searched nodes found → found ≡ false → CleanedUp s nodes nodes (Ok None)
  unfolding CleanedUp
  no-cleaned {found} f none = λ dots rects marks x h. no-exit dots rects marks x h refl (sym (searched-cleans s nodes dots rects marks x h found f) ∙ none)

  -- ---- the walk

  module _ (nodes' : List ℕ) (r : Swept) {levels : ℕ} (same : length nodes' ≡ length nodes) (deepest : levels ≡ D s.settings)
      (done : NodeCleaned nodes start 0 levels nodes' r) where
    walked : (dots : List ℕ) (rects : List ℤ) (marks : List ℕ) (x : Shape) → Holds (world s nodes dots rects marks) x
        → Cleaned nodes dots rects start (clean_words x.tree 0) (turned x.tree) nodes' r
    unfolding NodeCleaned
    walked dots rects marks x h =
        done dots rects x.tree x.free_groups (root_stood dots rects marks x h) (rw deepest (root-fits dots rects marks x h))

    pub none-turned : r.turned ≡ 0 → CleanedUp s nodes nodes' (Ok None)
    unfolding CleanedUp cleans
    none-turned z = λ dots rects marks x h.
        let c = walked dots rects marks x h in
        let none : turned x.tree ≡ 0 = omega (arith, c.more) in
        let kept = c.walk ∙ clean-walk x.tree 0 (walk_of nodes dots rects s.free_group) (no-clean x.tree none) in
        let rows = same_row nodes nodes' same (ap (λ (w : Walk). w.mem.first) kept) (ap (λ (w : Walk). w.mem.count) kept) in
        no-exit dots rects marks x h rows (rw none refl)

    pub some-turned : {fits : Bool} {next : State} → fits ≡ can_count s 1 → not fits ≡ false → (r.turned ≡ 0 → ⊥)
        → next ≡ changed_state s r.head s.free_place s.live → CleanedUp s nodes nodes' (Ok (Some next))
    unfolding CleanedUp cleanup_rule cleans cleaned
    some-turned told room some e = rw e (λ dots rects marks x h.
        let c = walked dots rects marks x h in
        let w = world s nodes dots rects marks in
        let next = changed_state s r.head s.free_place s.live in
        let rep = holds-represented w x h in
        let stored = clean-holds x.groups x.places _ s.free_group s.free_place x.tree x.free_groups x.free_places (holds-stored w x h) in
        let StoredIn : Walk → Type 0 = λ y.
        Stored x.groups x.places y.mem y.head s.free_place (clean_tree x.tree) (freed_by x.tree x.free_groups) x.free_places in
        let holds : Holds (world next nodes' dots rects (replicate (length marks) 0)) (cleaned x) =
        stored-holds (world next nodes' dots rects (replicate (length marks) 0)) (cleaned x) (cleaned-valid x h.valid)
        (record {
          nodes = same ∙ rep.nodes;
          dots = rep.dots;
          rects = rep.rects;
          marks = length-replicate {A = ℕ} (length marks) 0 ∙ rep.marks;
          settings = rep.settings;
          live = rep.live ∙ sym (clean-sum (λ d. 1) x.tree);
          changes = sym (one_more dots rects marks x h);
        })
        (subst StoredIn (sym c.walk) stored) in
        let yes : is_zero (turned x.tree) ≡ false =
        by_bool (is_zero (turned x.tree)) (λ z. absurd (some (omega (arith, c.more, zero_is (turned x.tree) z)))) (λ z. z) in
        shaped-exit s nodes dots rects marks (cleanup_rule x) next nodes' dots rects (cleaned x) true holds
        (rw yes (counted-fits (cleaned x) [] true s 1 told (one_more dots rects marks x h) (not-false _ room))))
