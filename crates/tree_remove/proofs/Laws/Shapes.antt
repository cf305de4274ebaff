-- The stores of a remove: what they ask is there, and they leave the removed shape.
--     Takeable, takeable   what the stores ask of the place that was found
--     without-stored       the memory without the dot is stored as the model's remove says
--     removed-holds        the words hold the removed shape
use Rattle.std.specs.Prelude.{◌≡◌, refl, List, ◌∷◌, ◌++◌, true, ℕ, ◌+◌, ◌≤◌, ◌<◌, ℤ, length, replicate, Option, Some, None, IfSome}
use Rattle.std.proofs.Math.Path.{ap}
use Rattle.std.proofs.Common.{sym, ◌∙◌, subst, arith, length-append}
use Rattle.std.proofs.Math.ListN.{length-replicate}
use Rattle.geometry.specs.declared.aabb.AABB.{AABB}
use Rattle.model.specs.declared.State.{State}
use Rattle.model.specs.Sums.{sum_over}
use Rattle.model.proofs.Laws.Sums.{indicator-same, sum_over-append, sum_over-one}
use Rattle.model.specs.Dots.{zero_dot}
use Rattle.model.specs.Trees.{Placed, Tree, leaf, at_place, size}
use Rattle.model.specs.Remove.{first_has, first_out, first_place, remove_at, remove_place}
use Rattle.model.specs.Shapes.{Shape, root, found_by, removed}
use Rattle.model.specs.Layout.{World, world, Holds}
use Rattle.model.specs.Memory.{Mem, count_at, next_at, memory}
use Rattle.model.proofs.Laws.Shapes.{removed-valid}
use Rattle.model.proofs.Laws.Remove.{found-gone}
use Rattle.model.proofs.Laws.Memory.{holds-represented}
use Rattle.memory.specs.Nodes.{node_at}
use Rattle.memory.specs.Rows.{HasPlace, HasRect, set_dot_at}
use Rattle.memory.proofs.Laws.Stores.{node-length, next-length, dot-length, rect-length}
use Rattle.tree.specs.Paths.{put}
use Rattle.tree.specs.Paths as paths
use Rattle.tree.specs.Stored.{Stored}
use Rattle.tree.specs.Routes.{leaf_for}
use Rattle.tree.proofs.Laws.Unlinks.{pop_words, pop_holds, drop_words, drop-holds}
use Rattle.tree.proofs.Laws.Stored.{holds-stored, stored-holds}
use Rattle.tree.proofs.Laws.Routes.{chain_for, path_to, path-sub, path-node, says-path, place-path, remove-path}
use Rattle.tree.proofs.Laws.Leaves.{way-children, here-sum, here_place, here-count, here-inside}
use Rattle.tree_remove.specs.declared.Hit.{Hit}
use Rattle.tree_remove.specs.Search.{unlinked_node, unlinked_dots, relinked}
use Rattle.tree_remove.proofs.Laws.Found.{Found, at_head, behind}
use Rattle.tree_remove.proofs.Laws.Stores.{nodes_without, dots_without, rects_without, state_without, without, head_read, behind-read}

module _ {s : State} {nodes dots : List ℕ} {rects : List ℤ} {marks : List ℕ} {x : Shape} (h : Holds (world s nodes dots rects marks) x)
    (id : ℕ) (r : AABB) where
  abbrev w₀ : World
  w₀ = world s nodes dots rects marks

  -- the leaf's node, its chain, the path to it
  abbrev node₀ : ℕ
  node₀ = (leaf_for r (root x) 0 x.tree).node

  abbrev chain₀ : List Placed
  chain₀ = chain_for r (root x) x.tree

  abbrev path₀ : List ℕ
  path₀ = path_to r (root x) x.tree

  -- ---- what the stores ask of the place that was found

  pub record Takeable (hit : Hit) : Type 0 where
    pub count : 1 ≤ count_at nodes node₀
    pub place : HasPlace dots hit.place
    pub rect : HasRect rects hit.place
    pub previous : IfSome hit.previous (HasPlace dots)
    pub small : hit.place < 4294967296
    pub live : 1 ≤ s.live

  place-in : (p : ℕ) → 1 ≤ sum_over (at_place p) chain₀ → HasPlace dots p
  place-in p i = omega (arith, here_place h r p i, (holds-represented w₀ x h).dots)

  taken : (p : ℕ) (previous : Option ℕ) → 1 ≤ sum_over (at_place p) chain₀ → IfSome previous (HasPlace dots) → 1 ≤ length chain₀
      → Takeable (record { place = p; previous = previous })
  taken p previous i before n =
      let rep = holds-represented w₀ x h in
      let l : p < x.places = here_place h r p i in
      let z : size x.tree ≡ s.live = sym rep.live in
      record {
        count = omega (arith, here-count h r);
        place = place-in p i;
        rect = omega (arith, rep.rects);
        previous = before;
        small = omega (arith, h.valid.places_fit);
        live = omega (arith, here-sum h r (λ d. 1), sum_over-one chain₀);
      }

  pub takeable : (hit : Hit) → Found id chain₀ hit → Takeable hit
  takeable hit (at_head d ys c o p e) =
      subst Takeable (sym e)
      (taken d.place None (omega (arith, ap (sum_over (at_place d.place)) c, indicator-same d.place)) tt (omega (arith, ap length c)))
  takeable hit (behind xs q d ys c o p e) =
      let sum : (k : ℕ) → sum_over (at_place k) chain₀ ≡ sum_over (at_place k) xs + (at_place k q + (at_place k d + sum_over (at_place k) ys)) =
      λ k. ap (sum_over (at_place k)) c ∙ sum_over-append (at_place k) xs (q ∷ d ∷ ys) in
      subst Takeable (sym e)
      (taken d.place (Some q.place) (omega (arith, sum d.place, indicator-same d.place))
      (place-in q.place (omega (arith, sum q.place, indicator-same q.place))) (omega (arith, ap length c, length-append xs (q ∷ d ∷ ys))))

  -- ---- the shape after the stores

  abbrev after : Hit → Mem
  after hit = without nodes dots rects node₀ s.free_place (here-inside h r) hit

  abbrev StoredWith : Mem → ℕ → Tree → ℕ → Type 0
  StoredWith m head t place = Stored x.groups x.places m s.free_group head t x.free_groups (place ∷ x.free_places)

  abbrev StoredWithout : Hit → Mem → Type 0
  StoredWithout hit m = StoredWith m hit.place (remove_at id r (root x) x.tree) (remove_place id r (root x) x.tree)

  -- the chain without the dot, and its place at the head of the free places, by the stores that make the memory m
  without-by : (hit : Hit) (out : List Placed) (m : Mem) → first_out id chain₀ ≡ out → first_place id chain₀ ≡ hit.place → m ≡ after hit
      → StoredWith m hit.place (put x.tree path₀ (leaf out)) hit.place → StoredWithout hit (after hit)
  without-by hit out m o p same stored =
      let tree : put x.tree path₀ (leaf out) ≡ remove_at id r (root x) x.tree =
      sym (remove-path r id (root x) x.tree ∙ ap (λ (l : List Placed). put x.tree path₀ (leaf l)) o) in
      let place : hit.place ≡ remove_place id r (root x) x.tree = sym (place-path r id (root x) x.tree ∙ p) in
      subst (λ (y : Mem). StoredWithout hit y) same
      (subst (λ (u : Tree). StoredWith m hit.place u (remove_place id r (root x) x.tree)) tree
      (subst (λ (k : ℕ). StoredWith m hit.place (put x.tree path₀ (leaf out)) k) place stored))

  without-stored : (hit : Hit) → Found id chain₀ hit → StoredWithout hit (after hit)
  without-stored hit (at_head d ys c o p e) =
      let hit₀ : Hit = record { place = d.place; previous = None } in
      let t = takeable hit₀ (at_head d ys c o p refl) in
      let head = s.free_place in
      subst (λ (y : Hit). StoredWithout y (after y)) (sym e)
      (without-by hit₀ ys (pop_words (memory w₀) (paths.node_at 0 x.tree path₀) d.place head) o p
      (ap (λ (a : ℕ). pop_words (memory w₀) a d.place head) (path-node r (root x) 0 x.tree)
      ∙ sym (head_read nodes dots rects node₀ head (here-inside h r) d.place t.place t.rect))
      (pop_holds x.groups x.places (memory w₀) s.free_group head x.tree x.free_groups x.free_places path₀ d ys
      (way-children h r) (path-sub r (root x) x.tree ∙ ap leaf c) (holds-stored w₀ x h)))
  without-stored hit (behind xs q d ys c o p e) =
      let hit₀ : Hit = record { place = d.place; previous = Some q.place } in
      let t = takeable hit₀ (behind xs q d ys c o p refl) in
      let head = s.free_place in
      subst (λ (y : Hit). StoredWithout y (after y)) (sym e)
      (without-by hit₀ (xs ++ q ∷ ys) (drop_words (memory w₀) (paths.node_at 0 x.tree path₀) q.place d.place head) o p
      (ap (λ (a : ℕ). drop_words (memory w₀) a q.place d.place head) (path-node r (root x) 0 x.tree)
      ∙ sym (behind-read nodes dots rects node₀ head (here-inside h r) d.place q.place t.place t.rect t.previous))
      (drop-holds x.groups x.places (memory w₀) s.free_group head x.tree x.free_groups x.free_places path₀ xs q d ys
      (way-children h r) (path-sub r (root x) x.tree ∙ ap leaf c) (holds-stored w₀ x h)))

  unlinked_length : (hit : Hit) → length (unlinked_dots dots hit) ≡ length dots
  unlinked_length hit = go hit.previous (next_at dots hit.place)
    where
      go : (previous : Option ℕ) (next : ℕ) → length (relinked dots previous next) ≡ length dots
      go None next = refl
      go (Some q) next = next-length dots q next

  pub removed-holds : (hit : Hit) → first_has id chain₀ ≡ true → Found id chain₀ hit
      → Holds (world (state_without s hit) (nodes_without nodes dots node₀ hit) (dots_without dots hit s.free_place) (rects_without rects hit)
      (replicate (length marks) 0)) (removed id r x)
  unfolding removed found_by
  removed-holds hit has f =
      let rep = holds-represented w₀ x h in
      let p = hit.place in
      let found = says-path r id (root x) x.tree ∙ has in
      let cut = unlinked_dots dots hit in
      stored-holds _ (removed id r x) (removed-valid id r x h.valid found)
      (record {
        nodes = node-length nodes node₀ (unlinked_node dots (node_at nodes node₀) hit) ∙ rep.nodes;
        dots = next-length (set_dot_at cut p zero_dot) p s.free_place ∙ dot-length cut p zero_dot ∙ unlinked_length hit ∙ rep.dots;
        rects = rect-length rects p zero_dot.rect ∙ rep.rects;
        marks = length-replicate (length marks) 0 ∙ rep.marks;
        settings = rep.settings;
        live = omega (arith, rep.live, (found-gone id r (root x) x.tree found).2 (λ d. 1));
        changes = ap (λ (n : ℕ). n + 1) rep.changes;
      })
      (without-stored hit f)
