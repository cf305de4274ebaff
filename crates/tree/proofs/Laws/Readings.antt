-- The rows read as memory: what a store into a row is there.
--     changed-id   a store of what was there
--     node-stored, next-stored, dot-stored one law a kind of store
use Rattle.std.specs.Prelude.{◌≡◌, refl, List, ℕ, ℤ}
use Rattle.std.proofs.Common.{sym}
use Rattle.model.specs.Sums.{changed}
use Rattle.model.specs.Memory.{Mem, read, first_at, count_at, next_at, dot_at}
use Rattle.model.specs.declared.Dot.{Dot}
use Rattle.memory.specs.declared.node.Node.{Node}
use Rattle.memory.proofs.Laws.Stores.{changed-by, first-set, count_set, next-set, next-dot, dot-next, dot-set}
use Rattle.memory.specs.Rows.{HasNode, HasPlace, HasRect, set_node_at, set_next_at, set_dot_at, set_rect_at}
use Rattle.tree.specs.Stores.{set_first, set_count, set_dot, set_next}

-- a word that is stored as it was
pub changed-id : {A : Type 0} (f : ℕ → A) (a : ℕ) → changed f a (f a) ≡ f
changed-id f a = sym (changed-by f f a (f a) refl (λ k ne. refl))

-- a node's two words
abbrev pub set_node : Mem → ℕ → Node → Mem
set_node m a v = set_count (set_first m a v.first) a v.count

module _ (nodes dots : List ℕ) (rects : List ℤ) where
  pub node-stored : (a : ℕ) (v : Node) → HasNode nodes a → read (set_node_at nodes a v) dots rects ≡ set_node (read nodes dots rects) a v
  node-stored a v h =
      let f = first-set nodes a v h in
      let c = count_set nodes a v h in
      λ i. record { first = f i; count = c i; dot = dot_at dots rects; next = next_at dots }

  pub next-stored : (p v : ℕ) → HasPlace dots p → read nodes (set_next_at dots p v) rects ≡ set_next (read nodes dots rects) p v
  next-stored p v h =
      let n = next-set dots p v h in
      let d = dot-next dots rects p v in
      λ i. record { first = first_at nodes; count = count_at nodes; dot = d i; next = n i }

  pub dot-stored : (p : ℕ) (d : Dot) → HasPlace dots p → HasRect rects p
      → read nodes (set_dot_at dots p d) (set_rect_at rects p d.rect) ≡ set_dot (read nodes dots rects) p d
  dot-stored p d h hr =
      let both = dot-set dots rects p d h hr in
      let n = next-dot dots p d in
      λ i. record { first = first_at nodes; count = count_at nodes; dot = both i; next = n i }
