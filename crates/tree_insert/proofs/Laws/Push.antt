-- The push of a dot once the splits are made.
--     pushed_read  the push of a dot, as the memory reads it
--     can_push     what its stores ask is there
--     push_stored  the memory after it is stored as the insert says
use Rattle.std.specs.Prelude.{◌≡◌, refl, List, [], ◌∷◌, ℕ, zero, suc, ◌≤◌, ◌<◌, ℤ, length}
use Rattle.std.proofs.Common.{ap, ◌∙◌, sym, subst, arith}
use Rattle.std.proofs.Math.Decide.{dec_lt}
use Rattle.arithmetic.proofs.Laws.Tests.{by_bool}
use Rattle.geometry.specs.declared.settings.Settings.{Settings}
use Rattle.geometry.specs.declared.node_data.NodeData.{NodeData}
use Rattle.model.specs.declared.Dot.{Dot}
use Rattle.model.specs.Trees.{Placed, leaf, Tree}
use Rattle.model.specs.Insert.{must_split, insert_at, Grown}
use Rattle.model.specs.Shapes.{head_of, tail_of, Shape, placed_in, grown_by}
use Rattle.model.specs.Memory.{Mem, read, count_at, next_at}
use Rattle.model.specs.Insert.{split_count}
use Rattle.model.proofs.Laws.Sums.{indicator-same, by_dec}
use Rattle.model.proofs.Laws.Shapes.{below-no}
use Rattle.memory.specs.Rows.{HasNode, HasPlace, HasRect, set_dot_at}
use Rattle.memory.specs.Lent.{holding}
use Rattle.memory.proofs.Laws.Stores.{dot-length}
use Rattle.tree.proofs.Laws.Pushes.{push_words, push_holds}
use Rattle.tree.proofs.Laws.Readings.{dot-stored}
use Rattle.tree.specs.Paths.{put}
use Rattle.tree.specs.Stored.{Stored}
use Rattle.tree.proofs.Laws.Paths.{reach-children}
use Rattle.tree.proofs.Laws.Leaves.{leaf-inside, leaf-count}
use Rattle.tree.specs.Paths as paths
use Rattle.tree_insert.proofs.Laws.Deal.{link_words, linked-read}
use Rattle.tree_insert.specs.Push.{pushed_nodes, pushed_dots, pushed_rects, CanPush}
use Rattle.tree_insert.specs.SplitDown.{Ended, ended, Inserting}

pushed_read : (nodes dots : List ℕ) (rects : List ℤ) (a p : ℕ) (dot : Dot) → HasNode nodes a → HasPlace dots p → HasRect rects p
    → read (pushed_nodes nodes a p) (pushed_dots nodes dots a p dot) (pushed_rects rects p dot)
    ≡ push_words (read nodes dots rects) a (record { place = p; dot = dot })
unfolding push_words
pushed_read nodes dots rects a p dot hn hp hr =
    linked-read nodes (set_dot_at dots p dot) (pushed_rects rects p dot) a p hn (omega (arith, dot-length dots p dot))
    ∙ ap (λ (m : Mem). link_words m a p) (dot-stored nodes dots rects p dot hp hr)

-- where no split is left, the dot goes to the head
insert-here : (s : Settings) (levels : ℕ) (n : NodeData) (d : Placed) (chain : List Placed) (free : List ℕ)
    → split_count s levels n d.dot.rect (leaf chain) ≡ 0
    → insert_at s levels n d (leaf chain) free ≡ record { tree = leaf (d ∷ chain); free = free; splits = 0 }
insert-here s zero n d chain free e = refl
insert-here s (suc levels) n d chain [] e = refl
insert-here s (suc levels) n d chain (g ∷ free) e = by_bool (must_split s n chain) (λ m. absurd (omega (arith, rw m at e))) (λ m. rw m refl)

-- the free places have a head
head_tail : (ps : List ℕ) → 1 ≤ length ps → ps ≡ head_of ps ∷ tail_of ps
head_tail [] h = absurd (omega arith)
head_tail (p ∷ ps) h = refl

module _ {x : Shape} {dot : Dot} {place_head : ℕ} {nodes dots : List ℕ} {rects : List ℤ} {group_head node : ℕ} {n : NodeData}
    (now : Inserting x dot place_head nodes dots rects group_head node n 0) (room : 1 ≤ length x.free_places) where
  abbrev spare : List ℕ
  spare = tail_of x.free_places

  with_head : Stored x.groups x.places (read nodes dots rects) group_head place_head now.tree now.free (head_of x.free_places ∷ spare)
  with_head =
      subst (Stored x.groups x.places (read nodes dots rects) group_head place_head now.tree now.free) (head_tail x.free_places room) now.stored

  head-is : place_head ≡ head_of x.free_places
  head-is = with_head.places.0

  place_inside : place_head < x.places
  place_inside =
      let p = head_of x.free_places in
      by_dec (dec_lt place_head x.places) (λ l. l)
      (λ l. absurd (omega (arith, with_head.places_once p, below-no p x.places (omega (arith, head-is)), indicator-same p)))

  pub can_push : CanPush (holding nodes dots rects) node place_head
  can_push =
      let children = reach-children now.tree now.path now.reach in
      record {
        node = subst (HasNode nodes) now.at (leaf-inside nodes dots rects now.stored now.nodes_fit now.path children now.here);
        place = omega (arith, place_inside, now.dots_fit);
        rect = omega (arith, place_inside, now.rects_fit);
        count =
            omega (
              arith,
              leaf-count nodes dots rects now.stored now.nodes_fit now.path children now.here,
              ap (count_at nodes) now.at,
              now.short,
            );
      }

  -- the tree and the free groups are those of the insert
  push_ends : record { tree = put now.tree now.path (leaf (placed_in dot x ∷ now.chain)); free = now.free } ≡ ended (grown_by dot x x.free_groups)
  push_ends =
      let d = placed_in dot x in
      let at : Grown → Ended = λ y. record { tree = put now.tree now.path y.tree; free = y.free } in
      sym (ap at (insert-here x.settings now.levels n d now.chain now.free now.rest))
      ∙ sym (ap (λ (u : Tree). at (insert_at x.settings now.levels n d u now.free)) now.here) ∙ now.ends

  pub push_stored : let grown = grown_by dot x x.free_groups in
      Stored x.groups x.places
      (read (pushed_nodes nodes node place_head) (pushed_dots nodes dots node place_head dot) (pushed_rects rects place_head dot))
      group_head (next_at dots place_head)
      grown.tree grown.free spare
  push_stored =
      let d = placed_in dot x in
      let a = can_push in
      let m = read nodes dots rects in
      let words : push_words m (paths.node_at 0 now.tree now.path) d
      ≡ read (pushed_nodes nodes node place_head) (pushed_dots nodes dots node place_head dot) (pushed_rects rects place_head dot) =
      (λ i. push_words m (now.at i) (record { place = sym head-is i; dot = dot }))
      ∙ sym (pushed_read nodes dots rects node place_head dot a.node a.place a.rect) in
      let pushed =
      push_holds x.groups x.places m group_head place_head now.tree now.free spare
      now.path now.chain d (reach-children now.tree now.path now.reach) now.here with_head in
      let after = read (pushed_nodes nodes node place_head) (pushed_dots nodes dots node place_head dot) (pushed_rects rects place_head dot) in
      let tree = put now.tree now.path (leaf (d ∷ now.chain)) in
      subst (λ (e : Ended). Stored x.groups x.places after group_head (next_at dots place_head) e.tree e.free spare) push_ends
      (subst (λ (y : Mem). Stored x.groups x.places y group_head (next_at dots place_head) tree now.free spare) words
      (subst (λ (k : ℕ). Stored x.groups x.places (push_words m (paths.node_at 0 now.tree now.path) d) group_head
      (next_at dots k) tree now.free spare) (sym head-is) pushed))
