-- The memory that the stores of a remove leave.
--     nodes_without, dots_without, rects_without, state_without        the rows and the state without the dot
--     head_read, behind-read       the memory after the stores, by where the dot stood
use Rattle.std.specs.Prelude.{◌≡◌, List, Some, None, ℕ, ◌+◌, ◌-◌, ℤ}
use Rattle.std.proofs.Common.{ap, ◌∙◌, arith}
use Rattle.model.specs.declared.State.{State}
use Rattle.model.specs.Sums.{changed}
use Rattle.model.specs.Dots.{zero_dot}
use Rattle.model.specs.Memory.{Mem, read, first_at, count_at, next_at}
use Rattle.memory.specs.declared.node.Node.{Node}
use Rattle.memory.specs.Nodes.{node_at}
use Rattle.memory.specs.Rows.{HasNode, HasPlace, HasRect, set_node_at, set_next_at, set_dot_at, set_rect_at}
use Rattle.memory.proofs.Laws.Stores.{next-length, dot-length}
use Rattle.tree.specs.Stores.{set_count, set_next}
use Rattle.tree.proofs.Laws.Unlinks.{free_words, pop_words, drop_words}
use Rattle.tree.proofs.Laws.Readings.{changed-id, set_node, node-stored, next-stored, dot-stored}
use Rattle.tree_remove.specs.declared.Hit.{Hit}
use Rattle.tree_remove.specs.Search.{unlinked_node, unlinked_dots}

-- a place is freed
freed-read : (nodes dots : List ℕ) (rects : List ℤ) (p head : ℕ) → HasPlace dots p → HasRect rects p
    → read nodes (set_next_at (set_dot_at dots p zero_dot) p head) (set_rect_at rects p zero_dot.rect) ≡ free_words (read nodes dots rects) p head
freed-read nodes dots rects p head hp hr =
    next-stored nodes (set_dot_at dots p zero_dot) (set_rect_at rects p zero_dot.rect) p head (omega (arith, dot-length dots p zero_dot))
    ∙ ap (λ (m : Mem). set_next m p head) (dot-stored nodes dots rects p zero_dot hp hr)

-- the rows and the state that the code leaves: the dot at hit leaves the chain of the node b
abbrev pub nodes_without : List ℕ → List ℕ → ℕ → Hit → List ℕ
nodes_without nodes dots b hit = set_node_at nodes b (unlinked_node dots (node_at nodes b) hit)

abbrev pub dots_without : List ℕ → Hit → ℕ → List ℕ
dots_without dots hit head = set_next_at (set_dot_at (unlinked_dots dots hit) hit.place zero_dot) hit.place head

abbrev pub rects_without : List ℤ → Hit → List ℤ
rects_without rects hit = set_rect_at rects hit.place zero_dot.rect

abbrev pub state_without : State → Hit → State
state_without s hit = record { settings = s.settings; free_group = s.free_group; free_place = hit.place; live = s.live - 1; changes = s.changes + 1 }

module _ (nodes dots : List ℕ) (rects : List ℤ) (b head : ℕ) (here : HasNode nodes b) where
  abbrev pub without : Hit → Mem
  without hit = read (nodes_without nodes dots b hit) (dots_without dots hit head) (rects_without rects hit)

  pub head_read : (p : ℕ) → HasPlace dots p → HasRect rects p
      → without (record { place = p; previous = None }) ≡ pop_words (read nodes dots rects) b p head
  head_read p hp hr =
      let v : Node = record { first = next_at dots p; count = count_at nodes b - 1 } in
      freed-read (set_node_at nodes b v) dots rects p head hp hr
      ∙ ap (λ (m : Mem). free_words m p head) (node-stored nodes dots rects b v here)

  pub behind-read : (p q : ℕ) → HasPlace dots p → HasRect rects p → HasPlace dots q
      → without (record { place = p; previous = Some q }) ≡ drop_words (read nodes dots rects) b q p head
  behind-read p q hp hr hq =
      let m = read nodes dots rects in
      let linked = set_next_at dots q (next_at dots p) in
      let v : Node = record { first = first_at nodes b; count = count_at nodes b - 1 } in
      let next = changed m.next q (m.next p) in
      let same : set_node (set_next m q (m.next p)) b v ≡ set_count (set_next m q (m.next p)) b (m.count b - 1) =
      (λ i. record { first = changed-id m.first b i; count = changed m.count b (m.count b - 1); dot = m.dot; next = next }) in
      freed-read (set_node_at nodes b v) linked rects p head (omega (arith, next-length dots q (next_at dots p))) hr
      ∙ ap (λ (z : Mem). free_words z p head)
      (node-stored nodes linked rects b v here ∙ ap (λ (z : Mem). set_node z b v) (next-stored nodes dots rects q (next_at dots p) hq) ∙ same)
