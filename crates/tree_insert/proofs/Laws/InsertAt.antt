-- The insert at the leaf that its dot routes to.
--     starts-inserting, starts-splits, starts-live what an insert that is not refused begins with
--     starts_push, pushed_holds    once the splits are made: what the push asks; the stores leave the inserted shape
use Rattle.std.specs.Prelude.{◌≡◌, refl, List, ℕ, ◌+◌, ◌≤◌, ℤ, length, replicate}
use Rattle.std.proofs.Math.Path.{ap}
use Rattle.std.proofs.Common.{sym, ◌∙◌, subst, arith}
use Rattle.std.proofs.Math.ListN.{length-replicate}
use Rattle.geometry.specs.Settings.{D}
use Rattle.model.specs.declared.State.{State}
use Rattle.model.specs.declared.Dot.{Dot}
use Rattle.model.specs.Shapes.{Shape, root, placed_in, inserted}
use Rattle.model.specs.Layout.{World, world, Holds}
use Rattle.model.specs.Memory.{first_at, count_at, next_at}
use Rattle.model.proofs.Laws.Insert.{insert-sum}
use Rattle.model.proofs.Laws.Shapes.{live-and_free, valid-height, inserted-valid}
use Rattle.model.proofs.Laws.Memory.{holds-represented}
use Rattle.memory.specs.Rows.{set_dot_at}
use Rattle.memory.specs.Lent.{holding, Held, world_of}
use Rattle.memory.proofs.Laws.Stores.{node-length, next-length, dot-length, rect-length}
use Rattle.tree.specs.declared.find.Leaf.{Leaf}
use Rattle.tree.proofs.Laws.Stored.{stored-holds}
use Rattle.tree_insert.specs.declared.split.Reached.{Reached}
use Rattle.tree_insert.specs.SplitDown.{Inserting, CanSplitDown, SplitsDone}
use Rattle.tree_insert.proofs.Laws.Leaf.{inserting-start}
use Rattle.tree_insert.specs.Push.{CanPush, pushed_nodes, pushed_dots, pushed_rects, pushed}
use Rattle.tree_insert.specs.InsertAt.{Starts}
use Rattle.tree_insert.proofs.Laws.Push.{can_push, push_stored}

module _ {s : State} {dot : Dot} {nodes dots : List ℕ} {rects : List ℤ} {l : Leaf} {splits : ℕ} {marks : List ℕ} {x : Shape}
    (begun : Starts s dot (holding nodes dots rects) l splits marks x) where
  pub starts-inserting : Inserting x dot s.free_place nodes dots rects s.free_group l.node l.node_data splits
  starts-inserting = inserting-start begun.holds dot begun.leads begun.needed begun.enough

  pub starts-splits : CanSplitDown dot.rect nodes dots rects s.free_group l splits
  starts-splits = record { shape = x; dot = dot; rect = refl; place_head = s.free_place; inserting = starts-inserting }

  pub starts-live : s.live ≤ 65536
  starts-live =
      omega (
        arith,
        (holds-represented (world s nodes dots rects marks) x begun.holds).live,
        live-and_free x begun.holds.valid,
        begun.holds.valid.places_fit,
      )

  -- once the splits are made
  module _ {nodes₁ dots₁ : List ℕ} {reached : Reached} (done : SplitsDone dot.rect nodes dots rects s.free_group l splits nodes₁ dots₁ reached) where
    now : Inserting x dot s.free_place nodes₁ dots₁ rects reached.group reached.node done.0 0
    now = done.1 x dot s.free_place refl starts-inserting

    pub starts_push : CanPush (holding nodes₁ dots₁ rects) reached.node s.free_place
    starts_push = can_push now begun.room

    -- the state with a head of the free places
    abbrev after : ℕ → State
    after next = record { settings = s.settings; free_group = reached.group; free_place = next; live = s.live + 1; changes = s.changes + 1 }

    inserted-holds : let p = s.free_place in let node = reached.node in
        Holds (world (after (next_at dots₁ p)) (pushed_nodes nodes₁ node p) (pushed_dots nodes₁ dots₁ node p dot) (pushed_rects rects p dot)
        (replicate (length marks) 0)) (inserted dot x)
    unfolding inserted
    inserted-holds =
        let rep = holds-represented (world s nodes dots rects marks) x begun.holds in
        let v = begun.holds.valid in
        let p = s.free_place in
        let node = reached.node in
        let live = insert-sum x.settings (λ d. 1) (D x.settings) (root x) (placed_in dot x) x.tree x.free_groups (valid-height x v) in
        stored-holds _ (inserted dot x) (inserted-valid dot x v begun.fits begun.room (omega (arith, begun.needed, begun.enough)))
        (record {
          nodes = node-length nodes₁ node (record { first = p; count = count_at nodes₁ node + 1 }) ∙ now.nodes_fit;
          dots = next-length (set_dot_at dots₁ p dot) p (first_at nodes₁ node) ∙ dot-length dots₁ p dot ∙ now.dots_fit;
          rects = rect-length rects p dot.rect ∙ now.rects_fit;
          marks = length-replicate (length marks) 0 ∙ rep.marks;
          settings = rep.settings;
          live = omega (arith, rep.live, live);
          changes = ap (λ (n : ℕ). n + 1) rep.changes;
        })
        (push_stored now begun.room)

    -- the same, of the values that the code has
    pub pushed_holds : {next : ℕ} {s' : State} {h : Held} → let p = s.free_place in
        next ≡ next_at dots₁ p → s' ≡ after next → h ≡ pushed (holding nodes₁ dots₁ rects) reached.node p dot
        → Holds (world_of s' h (replicate (length marks) 0)) (inserted dot x)
    pushed_holds ex es e =
        let zeros : List ℕ = replicate (length marks) 0 in
        let state = ap after (sym ex) ∙ sym es in
        subst (λ (v : World). Holds v (inserted dot x)) (λ i. world_of (state i) (sym e i) zeros) inserted-holds
