-- The rows of a tree, lent as one value. A clause says `held rows` of rows that are asked for, and `held rows.entry` where it says what is left.
--     Held, holding        what they hold
--     held, held_mut       .. lent for reading; .. lent for changes
--     places_held, groups_held     N and G, read off the lengths
--     SameRows     the same loans, whatever they hold
--     mem_of, world_of     the words read node by node and place by place; all that a call is given
use Rattle.std.specs.Prelude.{◌≡◌, List, ℕ, ℤ, length}
use Rattle.model.specs.declared.State.{State}
use Rattle.model.specs.Layout.{World, world, groups_in, places_in}
use Rattle.model.specs.Memory.{Mem, read}
use Rattle.memory.specs.declared.rows.Rows.{Rows}
use Rattle.memory.specs.declared.rows.RowsMut.{RowsMut}

pub record Held : Type 0 where
  pub nodes : List ℕ
  pub dots : List ℕ
  pub rects : List ℤ

abbrev pub holding : List ℕ → List ℕ → List ℤ → Held
holding nodes dots rects = record { nodes = nodes; dots = dots; rects = rects }

abbrev pub held : Rows → Held
held r = holding r.nodes.now r.dots.now r.rects.now

abbrev pub held_mut : RowsMut → Held
held_mut r = holding r.nodes.now r.dots.now r.rects.now

unfoldable pub places_held : Held → ℕ
places_held h = places_in (length h.dots)

unfoldable pub groups_held : Held → ℕ
groups_held h = groups_in (length h.nodes)

-- A value that holds `&mut`s could be given others: each function that takes it says that it has the ones it had.
pub record SameRows (r r' : RowsMut) : Type 0 where
  pub nodes : r'.nodes.ghost_name ≡ r.nodes.ghost_name
  pub dots : r'.dots.ghost_name ≡ r.dots.ghost_name
  pub rects : r'.rects.ghost_name ≡ r.rects.ghost_name

abbrev pub mem_of : Held → Mem
mem_of h = read h.nodes h.dots h.rects

abbrev pub world_of : State → Held → List ℕ → World
world_of s h marks = world s h.nodes h.dots h.rects marks
