-- The push of a dot on a leaf (§5.3).
--     pushed_nodes, pushed_dots, pushed_rects, pushed     the rows after it
--     CanPush      what its stores ask
use Rattle.std.specs.Prelude.{List, ℕ, ◌+◌, ◌<◌, ℤ}
use Rattle.model.specs.declared.Dot.{Dot}
use Rattle.model.specs.Memory.{first_at, count_at}
use Rattle.memory.specs.Rows.{HasNode, HasPlace, HasRect, set_node_at, set_next_at, set_dot_at, set_rect_at}
use Rattle.memory.specs.Lent.{holding, Held}

-- the rows once the dot stands at the place p and heads the chain of the node a
abbrev pub pushed_nodes : List ℕ → ℕ → ℕ → List ℕ
pushed_nodes nodes a p = set_node_at nodes a (record { first = p; count = count_at nodes a + 1 })

abbrev pub pushed_dots : List ℕ → List ℕ → ℕ → ℕ → Dot → List ℕ
pushed_dots nodes dots a p dot = set_next_at (set_dot_at dots p dot) p (first_at nodes a)

abbrev pub pushed_rects : List ℤ → ℕ → Dot → List ℤ
pushed_rects rects p dot = set_rect_at rects p dot.rect

abbrev pub pushed : Held → ℕ → ℕ → Dot → Held
pushed h a p dot = holding (pushed_nodes h.nodes a p) (pushed_dots h.nodes h.dots a p dot) (pushed_rects h.rects p dot)

-- what the stores ask
pub record CanPush (h : Held) (a p : ℕ) : Type 0 where
  pub node : HasNode h.nodes a
  pub place : HasPlace h.dots p
  pub rect : HasRect h.rects p
  pub count : count_at h.nodes a < 4294967295
