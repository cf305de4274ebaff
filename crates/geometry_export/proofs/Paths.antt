-- A walk along a row's children: where it stands after i of them, and what a whole walk reaches.
--     walk_start, walk_step, walk_end      at the start, one child on, and at the end
--     root-accepted, root_walks, reached_in, reached-out      from the root of accepted settings, and of others
use mathlib.Core.Path.{◌≡◌, refl, sym, ap, ◌∙◌, subst}
use mathlib.Core.Bool.{Bool, true, false}
use mathlib.Core.List.{List, [], ◌∷◌}
use Prim.Native.Nat.{ℕ, ◌+◌, ◌≤◌, ◌<◌}
use native.Mathlib.Numerals.{add-one}
use native.Mathlib.Omega.{arith}
use lib.ListN.{length, get_or, take, drop, drop_of_length-le}
use lib.Seq.{drop-cons}
use Rattle.geometry.specs.declared.node_data.NodeData.{NodeData}
use Rattle.geometry.specs.declared.settings.Settings.{Settings}
use Rattle.geometry.specs.Settings.{in_range}
use Rattle.geometry.specs.Cells.{InRange, root_data, child_data, data_along}
use Rattle.geometry.proofs.Laws.Ranges.{accepted, root-range, child-range, along-depth}
use Rattle.geometry_export.specs.Nodes.{zero_data, reached}

pub record Walked (start : NodeData) (path : List ℕ) (node : NodeData) (i : ℕ) : Type 0 where
  pub range : InRange node.cell
  pub depth : node.depth ≤ i
  pub along : data_along start path ≡ data_along node (drop i path)

pub walk_start : (start : NodeData) (path : List ℕ) → InRange start.cell → start.depth ≡ 0 → Walked start path start 0
walk_start start path r d = record { range = r; depth = omega arith; along = refl }

child_cell-range : (n : NodeData) (i : ℕ) → InRange n.cell → InRange (child_data n i).cell
unfolding child_data
child_cell-range n i r = child-range n.cell i r

child-depth : (n : NodeData) (i : ℕ) → (child_data n i).depth ≤ n.depth + 1
unfolding data_along
child-depth n i = along-depth n (i ∷ [])

one : (n : NodeData) (l : List ℕ) (i : ℕ) → i < length l → data_along n (drop i l) ≡ data_along (child_data n (get_or l i 0)) (drop (i + 1) l)
unfolding data_along
one n l i h = rw (add-one, drop-cons l i 0 h)

module _ (start : NodeData) (path : List ℕ) (node : NodeData) (i : ℕ) (w : Walked start path node i) where
  pub walk_step : i < length path → Walked start path (child_data node (get_or path i 0)) (i + 1)
  walk_step h =
      let k = get_or path i 0 in
      record {
        range = child_cell-range node k w.range;
        depth = omega (arith, child-depth node k, w.depth);
        along = w.along ∙ one node path i h;
      }

  pub walk_end : length path ≤ i → node ≡ data_along start path
  unfolding data_along
  walk_end out = sym (w.along ∙ ap (λ (l : List ℕ). data_along node l) (drop_of_length-le path out))

-- the tests of the settings, as the code has them
pub root-accepted : (s : Settings) (t : Bool) → t ≡ in_range s → t ≡ true → in_range s ≡ true
root-accepted s t e ok = sym e ∙ ok

pub root_walks : (s : Settings) (n : NodeData) (t : Bool) → t ≡ in_range s → t ≡ true → n ≡ root_data s → InRange n.cell × (n.depth ≡ 0)
unfolding root_data
root_walks s n t in? ok e =
    subst (λ (n : NodeData). InRange n.cell × (n.depth ≡ 0)) (sym e) (root-range s (accepted s (sym in? ∙ ok)).root, refl)

module _ (s : Settings) (path : List ℕ) (t : Bool) (in? : t ≡ in_range s) where
  pub reached_in : (n r : NodeData) → t ≡ true → n ≡ root_data s → r ≡ data_along n (take 255 path) → r ≡ reached s path
  unfolding reached
  reached_in n r ok e w = rw (sym in? ∙ ok) (w ∙ ap (λ (n : NodeData). data_along n (take 255 path)) e)

  pub reached-out : t ≡ false → zero_data ≡ reached s path
  unfolding reached
  reached-out outside = rw (sym in? ∙ outside) refl
