-- The count of the whole tree, from the root.
--     root-count, root-counted     what the count at the root asks, and what it tells
use Rattle.std.specs.Prelude.{◌≡◌, List, true, ℕ, ◌+◌, ◌≤◌, ℤ}
use Rattle.std.proofs.Math.Path.{ap}
use Rattle.std.proofs.Common.{sym, ◌∙◌, subst}
use Rattle.std.proofs.Math.Nat.{mul-le-mul}
use native.Mathlib.Omega.{arith}
use Rattle.std.proofs.Math.ListN.{length}
use Rattle.geometry.specs.declared.bounds.Bounds.{Bounds}
use Rattle.geometry.specs.declared.settings.Settings.{Settings}
use Rattle.geometry.specs.declared.node_data.NodeData.{NodeData}
use Rattle.geometry.specs.Settings.{D}
use Rattle.geometry.specs.Bounds.{all_bounds}
use Rattle.geometry.specs.Cells.{root_data}
use Rattle.geometry.proofs.Laws.Geometry.{levels-root}
use Rattle.geometry.proofs.Laws.Ranges.{accepted, root-range}
use Rattle.geometry.proofs.Laws.Reach.{deepest-within}
use Rattle.model.specs.declared.State.{State}
use Rattle.model.specs.declared.patch.Patch.{Patch}
use Rattle.model.specs.Trees.{size}
use Rattle.model.specs.Shapes.{Shape, WellFormed}
use Rattle.model.specs.Layout.{world, Holds}
use Rattle.model.specs.Laying.{splits_for, splits_of_all}
use Rattle.model.specs.Patch.{patch_fits, patch_rects}
use Rattle.model.proofs.Laws.Layout.{holds-settings}
use Rattle.model.proofs.Laws.Patch.{patch-rects}
use Rattle.memory.specs.Lent.{holding}
use Rattle.tree.specs.Operations.{IsTree}
use Rattle.tree.proofs.Laws.Operations.{tree-settings}
use Rattle.tree.proofs.Laws.Trees.{root_stands}
use Rattle.tint.specs.Counts.{within_bounds}
use Rattle.tint.proofs.Laws.Within.{within-few}
use Rattle.tint.proofs.Laws.Units.{patch-upright}
use Rattle.tree_patch.specs.declared.splits.Cell.{Cell}
use Rattle.tree_patch.specs.Cells.{splits_within, CellStands}
use Rattle.tree_patch.specs.Counts.{CellCount, CellCounted, AllAcceptable, PatchCounted}
use Rattle.tree_patch.proofs.Laws.Splits.{splits-most}
use Rattle.tree_patch.proofs.Laws.Roots.{splits-root}

abbrev root_at : NodeData → Bounds → ℕ → Cell
root_at n b levels = record { node = 0; node_data = n; bounds = b; levels = levels }

module _ (s : State) (nodes dots : List ℕ) (rects : List ℤ) where
  module _ {n : NodeData} {b : Bounds} {levels : ℕ} (known : n ≡ root_data s.settings) (bounds : b ≡ all_bounds) (deep : levels ≡ D s.settings) where
    root-cell : (marks : List ℕ) (x : Shape) → Holds (world s nodes dots rects marks) x
        → CellStands s.settings (holding nodes dots rects) (root_at n b levels) x.tree
    root-cell marks x h =
        let same = holds-settings (world s nodes dots rects marks) x h in
        record {
          stands = rw deep (root_stands s nodes dots rects marks x h);
          formed = rw known (subst (λ (y : Settings). WellFormed y (root_data y) x.tree) (sym same) h.valid.well_formed);
          enough = rw (known, deep) (levels-root s.settings);
        }

    pub root-count : {p : Patch} → IsTree s (holding nodes dots rects) → patch_fits p ≡ true
        → CellCount s.settings (holding nodes dots rects) (root_at n b levels) p
    unfolding root_data
    root-count {p} t fits =
        let ok = tree-settings t in
        let x = t.shape in
        let stands = root-cell t.marks x t.holds in
        let many : size x.tree + length (within_bounds b (patch_rects p)) ≤ 65536 + 1048576 =
        omega (arith, stands.stands.few, within-few p fits b) in
        let high : levels ≤ 255 = omega (arith, deepest-within s.settings ok) in
        record {
          settings_fit = ok;
          cell_fits = rw known (root-range s.settings (accepted s.settings ok).root);
          tree = x.tree;
          stands = stands;
          small = omega (
            arith,
            splits-most s.settings (patch_rects p) (patch-upright p) levels n b x.tree,
            mul-le-mul {n₁ = levels} {m₁ = size x.tree + length (within_bounds b (patch_rects p))} {n₂ = 255} {m₂ = 65536 + 1048576} high many,
          );
        }

    pub root-counted : (p : Patch) → AllAcceptable s.settings p → (r : ℕ) → CellCounted s.settings (holding nodes dots rects) (root_at n b levels) p r
        → PatchCounted s (holding nodes dots rects) p r
    unfolding CellCounted PatchCounted splits_of_all
    root-counted p fit r counted marks x h =
        let same = holds-settings (world s nodes dots rects marks) x h in
        let rs = patch_rects p in
        let ok = (subst (λ (y : Settings). AllAcceptable y p) same fit).each in
        counted x.tree (root-cell marks x h)
        ∙ (λ i. splits_within s.settings rs (deep i) (known i) (bounds i) x.tree)
        ∙ ap (λ (y : Settings). splits_within y rs (D y) (root_data y) all_bounds x.tree) same
        ∙ splits-root x.settings rs ok (D x.settings) (root_data x.settings) x.tree h.valid.well_formed
        ∙ ap (splits_for x.settings (D x.settings) (root_data x.settings) x.tree) (sym (patch-rects p))
