-- A state as a row of twelve words, an answer as a row of two (§18.2, §18.4).
--     settings_in   the settings in a row
--     dot_in, wide_in        a dot in six words, a number of 64 bits in two; withWide: the row with another number
--     state_in      the state in a row; CountFits: the low word of its count is one
--     with_state    the row with another state of the same settings
--     rows_fit      a state row of twelve words, an answer row of two
--     rect_of, grid_of, patch_of      a rectangle by its corners; a grid and a patch by their six numbers
use Rattle.std.specs.Prelude.{List, Bool, ◌&&◌, ℕ, ◌+◌, ◌<◌, eqb, ℤ, length, get_or, set}
use Rattle.geometry.specs.declared.aabb.AABB.{AABB}
use Rattle.geometry.specs.declared.settings.Settings.{Settings}
use Rattle.grid.specs.declared.grid.Grid.{Grid}
use Rattle.words.specs.Words.{signed, low_word, high_word, wide_of}
use Rattle.model.specs.declared.Dot.{Dot}
use Rattle.model.specs.declared.State.{State}
use Rattle.model.specs.declared.patch.Patch.{Patch}

abbrev pub rect_of : ℤ → ℤ → ℤ → ℤ → AABB
rect_of x1 y1 x2 y2 = record { x1 = x1; y1 = y1; x2 = x2; y2 = y2 }

abbrev pub grid_of : ℤ → ℤ → ℤ → ℤ → ℤ → ℤ → Grid
grid_of x y width height columns rows = record { x = x; y = y; width = width; height = height; columns = columns; rows = rows }

abbrev pub patch_of : ℤ → ℤ → ℕ → ℕ → ℕ → ℕ → Patch
patch_of x y columns rows tint first = record { x = x; y = y; columns = columns; rows = rows; tint = tint; first_id = first }

unfoldable pub settings_in : List ℕ → Settings
settings_in row =
    record {
      left = signed (get_or row 0 0);
      top = signed (get_or row 1 0);
      width = signed (get_or row 2 0);
      height = signed (get_or row 3 0);
      depth_limit = get_or row 4 0;
      leaf_limit = get_or row 5 0;
      smallest_cell = get_or row 6 0;
    }

-- id, x1, y1, x2, y2, ink, from a place on
unfoldable pub dot_in : List ℕ → ℕ → Dot
dot_in row at =
    record {
      id = get_or row at 0;
      rect = rect_of (signed (get_or row (at + 1) 0)) (signed (get_or row (at + 2) 0)) (signed (get_or row (at + 3) 0)) (signed (get_or row (at + 4) 0));
      ink = get_or row (at + 5) 0;
    }

-- the low word first
abbrev pub wide_in : List ℕ → ℕ → ℕ
wide_in row at = wide_of (get_or row at 0) (get_or row (at + 1) 0)

abbrev pub with_wide : ℕ → List ℕ → ℕ → List ℕ
with_wide n row at = set (set row at (low_word n)) (at + 1) (high_word n)

-- the low word of the number at a place has 32 bits
abbrev pub CountFits : List ℕ → ℕ → Type 0
CountFits row at = get_or row at 0 < 4294967296

unfoldable pub state_in : List ℕ → State
state_in row =
    record {
      settings = settings_in row;
      free_group = get_or row 7 0;
      free_place = get_or row 8 0;
      live = get_or row 9 0;
      changes = wide_in row 10;
    }

unfoldable pub with_state : State → List ℕ → List ℕ
with_state s row = with_wide s.changes (set (set (set row 7 s.free_group) 8 s.free_place) 9 s.live) 10

unfoldable pub rows_fit : List ℕ → List ℕ → Bool
rows_fit state answer = eqb (length state) 12 && eqb (length answer) 2
