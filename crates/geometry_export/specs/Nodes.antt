-- The node at the end of a path of children.
--     reached      from the root of accepted settings, through the first 255 children of a row; for other settings a node of zeros
--     part         a cell's four numbers by their place
use Rattle.std.specs.Prelude.{false, cond, List, ℕ, eqb, ℤ, pos, take}
use Rattle.geometry.specs.declared.centered_aabb.CenteredAABB.{CenteredAABB}
use Rattle.geometry.specs.declared.node_data.NodeData.{NodeData}
use Rattle.geometry.specs.declared.settings.Settings.{Settings}
use Rattle.geometry.specs.Settings.{in_range}
use Rattle.geometry.specs.Cells.{root_data, data_along}

abbrev pub zero_cell : CenteredAABB
zero_cell = record { center_x = pos 0; center_y = pos 0; half_width = pos 0; half_height = pos 0 }

abbrev pub zero_data : NodeData
zero_data = record { cell = zero_cell; depth = 0; is_child_0 = false }

unfoldable pub reached : Settings → List ℕ → NodeData
reached s path = cond (in_range s) (data_along (root_data s) (take 255 path)) zero_data

abbrev pub part : CenteredAABB → ℕ → ℤ
part c place = cond (eqb place 0) c.center_x (cond (eqb place 1) c.center_y (cond (eqb place 2) c.half_width c.half_height))
