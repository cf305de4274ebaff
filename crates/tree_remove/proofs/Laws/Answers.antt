-- The answers of a remove, from what its code has looked up.
--     leads-searchable     the chain of the leaf can be searched
--     Looked       the leaf, its words, the dot
--     look-takes   what the stores ask
--     look-no, look-past, look-yes the answers, and refusal 16
use Rattle.std.specs.Prelude.{◌≡◌, List, [], ◌∷◌, Bool, true, not, ℕ, ◌+◌, ◌-◌, ◌≤◌, ◌<◌, ℤ, length, replicate, Option, Some, None, IfSome}
use Rattle.std.proofs.Math.Path.{refl, ap}
use Rattle.std.proofs.Common.{sym, ◌∙◌, subst, arith}
use Rattle.std.proofs.Math.Bool.{false}
use Rattle.std.proofs.lemmas.Bool.{not-true}
use Rattle.arithmetic.proofs.Laws.Tests.{by_bool}
use Rattle.geometry.specs.declared.aabb.AABB.{AABB}
use Rattle.model.specs.declared.Dot.{Dot}
use Rattle.model.specs.declared.State.{State}
use Rattle.model.specs.Dots.{zero_dot}
use Rattle.model.specs.Trees.{Placed}
use Rattle.model.specs.Remove.{first_has}
use Rattle.model.specs.Shapes.{Shape, root, found_by, removed}
use Rattle.model.specs.Layout.{dots_for, World, Holds, world}
use Rattle.model.specs.Memory.{next_at, first_at, count_at}
use Rattle.model.specs.declared.refusal.Refusal.TheVariants.{TooManyChanges}
use Rattle.model.specs.Calls.{refused, answered, accept, exit, carried_out, counted, can_count, remove_rule}
use Rattle.model.proofs.Laws.Calls.{counted-fits, counted_past}
use Rattle.model.proofs.Laws.Layout.{holds-changes}
use Rattle.model.proofs.Laws.Memory.{holds-represented}
use Rattle.memory.specs.declared.node.Node.{Node}
use Rattle.memory.specs.Nodes.{node_at}
use Rattle.memory.specs.Rows.{HasNode, HasPlace, HasRect, set_node_at, set_next_at, set_dot_at, set_rect_at}
use Rattle.tree.specs.declared.find.Leaf.{Leaf}
use Rattle.tree.specs.Chains.{ChainStands}
use Rattle.tree.specs.Routes.{leaf_for, LeadsTo}
use Rattle.tree.proofs.Laws.Routes.{chain_for, says-path}
use Rattle.tree.proofs.Laws.Leaves.{here-stands, leads-leaf, here-inside}
use Rattle.tree.proofs.Laws.Operations.{same-marks, refusal-exit, shaped-exit}
use Rattle.tree_remove.specs.declared.Hit.{Hit}
use Rattle.tree_remove.specs.Search.{Linked, hit_in, Searchable, unlinked_node, unlinked_dots}
use Rattle.tree_remove.proofs.Laws.Found.{Found, found-split, hit_absent, hit_there, some_none}
use Rattle.tree_remove.proofs.Laws.Stores.{nodes_without, dots_without, rects_without, state_without}
use Rattle.tree_remove.proofs.Laws.Shapes.{takeable, removed-holds}

-- ---- the chain of the leaf

stands-linked : (dots : List ℕ) (rects : List ℤ) (h n : ℕ) (ds : List Placed) → ChainStands dots rects h n ds → Linked dots h n ds
stands-linked dots rects h n [] s = s
stands-linked dots rects h n (d ∷ ds) s =
    (s.0, s.1, ap (λ (y : Dot). y.id) s.3, s.4, stands-linked dots rects (next_at dots h) (n - 1) ds s.5)

module _ {w : World} {x : Shape} (h : Holds w x) (r : AABB) where
  leaf-linked : let a = (leaf_for r (root x) 0 x.tree).node in
      Linked w.dots (first_at w.nodes a) (count_at w.nodes a) (chain_for r (root x) x.tree)
  leaf-linked = stands-linked w.dots w.rects _ _ (chain_for r (root x) x.tree) (here-stands h r)

  pub leads-searchable : {l : Leaf} {node : Node} → LeadsTo w.state.settings w.nodes r l → node ≡ node_at w.nodes l.node
      → Searchable w.dots node
  leads-searchable leads e =
      let short : length w.dots ≤ dots_for 65536 = omega (arith, (holds-represented w x h).dots, h.valid.places_fit) in
      subst (Searchable w.dots) (sym (e ∙ ap (λ (y : Leaf). node_at w.nodes y.node) (leads-leaf h r leads)))
      (record { short = short; chain = chain_for r (root x) x.tree; linked = leaf-linked })

-- ---- the code's values

-- what the code has looked up: the leaf, its words, the dot
pub record Looked (s : State) (nodes dots : List ℕ) (id : ℕ) (r : AABB) (l : Leaf) (node : Node) (told : Option Hit) : Type 0 where
  pub leads : LeadsTo s.settings nodes r l
  pub words : node ≡ node_at nodes l.node
  pub finds : (chain : List Placed) → Linked dots node.first node.count chain → told ≡ hit_in id None chain

-- what the stores ask
pub record Takes (s : State) (nodes dots : List ℕ) (rects : List ℤ) (l : Leaf) (node : Node) (hit : Hit) : Type 0 where
  pub unlinks : HasNode nodes l.node × (1 ≤ node.count) × HasPlace dots hit.place × IfSome hit.previous (HasPlace dots)
  pub small : hit.place < 4294967296
  pub rect : HasRect rects hit.place
  pub live : 1 ≤ s.live

module _ {s : State} {nodes dots : List ℕ} {rects : List ℤ} {marks : List ℕ} {x : Shape} (h : Holds (world s nodes dots rects marks) x)
    {id : ℕ} {r : AABB} {l : Leaf} {node : Node} {told : Option Hit} (look : Looked s nodes dots id r l node told) where
  abbrev chain₀ : List Placed
  chain₀ = chain_for r (root x) x.tree

  at_leaf : l.node ≡ (leaf_for r (root x) 0 x.tree).node
  at_leaf = ap (λ (y : Leaf). y.node) (leads-leaf h r look.leads)

  at_words : node ≡ node_at nodes (leaf_for r (root x) 0 x.tree).node
  at_words = look.words ∙ ap (node_at nodes) at_leaf

  at-hit : told ≡ hit_in id None chain₀
  at-hit = look.finds chain₀ (subst (λ (v : Node). Linked dots v.first v.count chain₀) (sym at_words) (leaf-linked h r))

  has-found : {hit : Hit} → told ≡ Some hit → (first_has id chain₀ ≡ true) × Found id chain₀ hit
  has-found e =
      by_bool (first_has id chain₀)
      (λ y. (y, found-split id chain₀ y (sym at-hit ∙ e)))
      (λ n. absurd (some_none (sym e ∙ at-hit ∙ hit_absent id None chain₀ n)))

  has-none : told ≡ None → first_has id chain₀ ≡ false
  has-none e = by_bool (first_has id chain₀) (λ y. absurd (hit_there id None chain₀ y (sym at-hit ∙ e))) (λ n. n)

  pub look-takes : {hit : Hit} → told ≡ Some hit → Takes s nodes dots rects l node hit
  look-takes {hit} ne =
      let t = takeable h id r hit (has-found ne).1 in
      let count : 1 ≤ node.count = subst (λ (v : Node). 1 ≤ v.count) (sym at_words) t.count in
      record { unlinks = (subst (HasNode nodes) (sym at_leaf) (here-inside h r), count, t.place, t.previous); small = t.small; rect = t.rect; live = t.live }

  -- the answers
  pub look-no : told ≡ None
      → exit (world s nodes dots rects (replicate (length marks) 0)) [] (answered false) ≡ carried_out (world s nodes dots rects marks) [] (remove_rule id r x)
  unfolding remove_rule found_by
  look-no e =
      shaped-exit s nodes dots rects marks (remove_rule id r x) s nodes dots rects x false (same-marks s nodes dots rects marks x h)
      (rw (says-path r id (root x) x.tree ∙ has-none e) refl)

  says-yes : {hit : Hit} → told ≡ Some hit → remove_rule id r x ≡ counted (accept (removed id r x) [] true)
  unfolding remove_rule found_by
  says-yes ne = rw (says-path r id (root x) x.tree ∙ (has-found ne).0) refl

  more : (removed id r x).changes ≡ s.changes + 1
  unfolding removed
  more = ap (λ (n : ℕ). n + 1) (sym (holds-changes (world s nodes dots rects marks) x h))

  pub look-past : {hit : Hit} → told ≡ Some hit → {fits : Bool} → fits ≡ can_count s 1 → not fits ≡ true
      → exit (world s nodes dots rects (replicate (length marks) 0)) [] (refused 16) ≡ carried_out (world s nodes dots rects marks) [] (remove_rule id r x)
  look-past ne {fits} count n =
      refusal-exit s nodes dots rects marks (remove_rule id r x) TooManyChanges
      (says-yes ne ∙ counted_past (removed id r x) [] true s 1 count more (not-true fits n))

  pub look-yes : {hit : Hit} → told ≡ Some hit → can_count s 1 ≡ true → {s' : State} {nodes' dots₁ dots' : List ℕ} {rects' : List ℤ}
      → nodes' ≡ set_node_at nodes l.node (unlinked_node dots node hit) → dots₁ ≡ unlinked_dots dots hit
      → dots' ≡ set_next_at (set_dot_at dots₁ hit.place zero_dot) hit.place s.free_place → rects' ≡ set_rect_at rects hit.place zero_dot.rect
      → s' ≡ state_without s hit
      → exit (world s' nodes' dots' rects' (replicate (length marks) 0)) [] (answered true)
      ≡ carried_out (world s nodes dots rects marks) [] (remove_rule id r x)
  look-yes {hit} ne fits {s'} {nodes'} {dots₁} {dots'} {rects'} en e₁ ed er es =
      let f = has-found ne in
      let b = (leaf_for r (root x) 0 x.tree).node in
      let nodes_same : nodes' ≡ nodes_without nodes dots b hit = en ∙ (λ i. set_node_at nodes (at_leaf i) (unlinked_node dots (at_words i) hit)) in
      let freed : List ℕ → List ℕ = λ d. set_next_at (set_dot_at d hit.place zero_dot) hit.place s.free_place in
      let dots_same : dots' ≡ dots_without dots hit s.free_place = ed ∙ ap freed e₁ in
      let zeros : List ℕ = replicate (length marks) 0 in
      let left = world (state_without s hit) (nodes_without nodes dots b hit) (dots_without dots hit s.free_place) (rects_without rects hit) zeros in
      let same : left ≡ world s' nodes' dots' rects' zeros = λ i. world (sym es i) (sym nodes_same i) (sym dots_same i) (sym er i) zeros in
      shaped-exit s nodes dots rects marks (remove_rule id r x) s' nodes' dots' rects' (removed id r x) true
      (subst (λ (v : World). Holds v (removed id r x)) same (removed-holds h id r hit f.0 f.1))
      (says-yes ne ∙ counted-fits (removed id r x) [] true s 1 refl more fits)
