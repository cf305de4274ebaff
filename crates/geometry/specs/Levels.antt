-- How many levels may still be split.
--     wider        the larger half size of a cell
--     levels_left  how many levels may still be split below a node
use Rattle.std.specs.Prelude.{cond, ℕ, ◌-◌, ◌/◌, max, min}
use Rattle.arithmetic.specs.Ints.{natural}
use Rattle.geometry.specs.declared.settings.Settings.{Settings}
use Rattle.geometry.specs.declared.node_data.NodeData.{NodeData}
use Rattle.geometry.specs.Settings.{bit_length}

-- the larger half size
abbrev pub wider : NodeData → ℕ
wider n = max (natural n.cell.half_width) (natural n.cell.half_height)

unfoldable pub levels_left : Settings → NodeData → ℕ
levels_left s n = cond n.is_child_0 0 (min (s.depth_limit - n.depth) (bit_length (wider n / s.smallest_cell)))
