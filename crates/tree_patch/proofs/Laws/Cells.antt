-- The cells below one.
--     chain-stands the chain of a leaf stands in the rows
--     below-branch, below-leaf     what holds at the cells below a branch, and at those below a leaf that may split
use Rattle.std.specs.Prelude.{◌≡◌, refl, List, [], ◌∷◌, true, ℕ, ◌-◌, ◌≤◌, ℤ}
use Rattle.std.proofs.Common.{sym, subst, arith, eq-eqb, ne_eqb}
use Rattle.std.proofs.Math.Decide.{ℕ_discrete}
use Rattle.geometry.specs.declared.settings.Settings.{Settings}
use Rattle.geometry.specs.Cells.{may_split}
use Rattle.geometry.proofs.Laws.Geometry.{levels_fall}
use Rattle.model.specs.Sums.{sum_over}
use Rattle.model.specs.Lists.{All}
use Rattle.model.specs.Trees.{Placed, Tree, leaf, branch, child_node, at_place}
use Rattle.model.specs.Layout.{branch_mark}
use Rattle.model.specs.Memory.{first_at, count_at}
use Rattle.model.proofs.Laws.Sums.{by_dec, indicator_other}
use Rattle.memory.specs.Rows.{HasPlace, HasRect}
use Rattle.memory.specs.Lent.{holding}
use Rattle.tree.specs.Chains.{ChainStands}
use Rattle.tree.specs.Trees.{InRows, TreeStands}
use Rattle.tree.proofs.Laws.Chains.{chained-stands}
use Rattle.tree.proofs.Laws.Trees.{mark-no_leaf, child-stands}
use Rattle.tree_patch.specs.declared.splits.Cell.{Cell}
use Rattle.tree_patch.specs.Cells.{cell_below, CellStands}
use Rattle.tree_patch.specs.Counts.{LastStand}

-- ---- the cells below one

in_rows : (dots : List ℕ) (rects : List ℤ) (ds : List Placed) → All (InRows dots rects) ds
    → (k : ℕ) → 1 ≤ sum_over (at_place k) ds → HasPlace dots k × HasRect rects k
in_rows dots rects [] a k some = absurd (omega arith)
in_rows dots rects (d ∷ ds) a k some =
    by_dec (ℕ_discrete k d.place)
    (λ e. subst (λ (y : ℕ). HasPlace dots y × HasRect rects y) (sym e) a.0)
    (λ ne. in_rows dots rects ds a.1 k (omega (arith, indicator_other k d.place ne)))

-- the chain of a leaf
pub chain-stands : {nodes dots : List ℕ} {rects : List ℤ} {levels a : ℕ} {chain : List Placed} → TreeStands nodes dots rects levels a (leaf chain)
    → ChainStands dots rects (first_at nodes a) (count_at nodes a) chain
chain-stands {nodes} {dots} {rects} {a = a} {chain} t =
    chained-stands dots rects (first_at nodes) (count_at nodes) (first_at nodes a) (count_at nodes a) chain
    (in_rows dots rects chain t.dots_in) t.represents.0 t.represents.1

module _ {s : Settings} {nodes dots : List ℕ} {rects : List ℤ} {c : Cell} (one : 1 ≤ s.smallest_cell) where
  pub below-branch : {g : ℕ} {f : ℕ → Tree} → CellStands s (holding nodes dots rects) c (branch g f) → LastStand s (holding nodes dots rects) c 4 f
  below-branch {g} {f} st i low five =
      let t = st.stands in
      let v = st.formed in
      let node : (cell_below nodes c i).node ≡ child_node g i =
      rw (eq-eqb (count_at nodes c.node) branch_mark t.represents.0) (omega (arith, t.represents.1)) in
      record {
        stands = subst (λ (a : ℕ). TreeStands nodes dots rects (c.levels - 1) a (f i)) (sym node) (child-stands t i five);
        formed = (v.1 i five).1;
        enough = omega (arith, st.enough, levels_fall s one c.node_data v.0 i);
      }

  pub below-leaf : {chain : List Placed} → may_split s c.node_data ≡ true → CellStands s (holding nodes dots rects) c (leaf chain)
      → LastStand s (holding nodes dots rects) c 4 (λ i. leaf chain)
  below-leaf {chain} may st i low five =
      let t = st.stands in
      let node : (cell_below nodes c i).node ≡ c.node =
      rw (ne_eqb (count_at nodes c.node) branch_mark (mark-no_leaf chain t.few t.represents.0)) refl in
      record {
        stands = subst (λ (a : ℕ). TreeStands nodes dots rects (c.levels - 1) a (leaf chain)) (sym node)
            (record { represents = t.represents; shallow = tt; nodes_in = t.nodes_in; dots_in = t.dots_in; few = t.few });
        formed = (st.formed.0, λ m. st.formed.1 may);
        enough = omega (arith, st.enough, levels_fall s one c.node_data may i);
      }
