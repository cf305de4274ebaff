-- The count of a group, child by child.
--     group-none   no child is left
--     group-child, group-others    what the count of the first child asks, and that of the others
--     group-counted        both together
--     Ahead, ahead-start, ahead-child, ahead-fits, ahead-next, ahead_end   the loop over the children: its begin, a child's count, a turn, its end
use Rattle.std.specs.Prelude.{◌≡◌, List, ℕ, ◌+◌, ◌-◌, ◌≤◌, ◌<◌, ℤ}
use Rattle.std.proofs.Math.Path.{refl}
use Rattle.std.proofs.Common.{ap, ◌∙◌, subst, arith}
use Rattle.geometry.specs.declared.settings.Settings.{Settings}
use Rattle.geometry.specs.Cells.{child_data}
use Rattle.geometry.proofs.Laws.Ranges.{child-range}
use Rattle.model.specs.declared.patch.Patch.{Patch}
use Rattle.model.specs.Trees.{Tree}
use Rattle.memory.specs.Lent.{holding}
use Rattle.tree_patch.specs.declared.splits.Cell.{Cell}
use Rattle.tree.proofs.Laws.Trees.{sum_step}
use Rattle.tree_patch.specs.Cells.{cell_below, CellStands}
use Rattle.tree_patch.specs.Counts.{splits_at, splits_of_last, most_splits, CellCount, CellCounted, LastStand, GroupCount, GroupCounted}

module _ (s : Settings) (nodes dots : List ℕ) (rects : List ℤ) (c : Cell) (left : ℕ) (p : Patch) where
  pub group-none : left ≡ 0 → GroupCounted s (holding nodes dots rects) c left p 0
  unfolding GroupCounted
  group-none z f st = rw z refl

  module _ (some : ¬ (left ≡ 0)) (w : GroupCount s (holding nodes dots rects) c left p)
      {below : Cell} (e : below ≡ cell_below nodes c (5 - left)) where
    child-stands : (f : ℕ → Tree) → LastStand s (holding nodes dots rects) c left f → CellStands s (holding nodes dots rects) below (f (5 - left))
    child-stands f st = rw e (st (5 - left) (omega (arith, w.few)) (omega (arith, some)))

    -- the first child's splits, and the others'
    splits_are : (f : ℕ → Tree)
        → splits_of_last s p nodes c f left ≡ splits_at s p below (f (5 - left)) + splits_of_last s p nodes c f (left - 1)
    splits_are f = rw e (sum_step (λ i. splits_at s p (cell_below nodes c i) (f i)) left (omega (arith, some)))

    pub group-child : CellCount s (holding nodes dots rects) below p
    unfolding child_data
    group-child =
        record {
          settings_fit = w.settings_fit;
          cell_fits = rw e (child-range c.node_data.cell (5 - left) w.cell_fits);
          tree = w.children (5 - left);
          stands = child-stands w.children w.stand;
          small = omega (arith, w.small, splits_are w.children);
        }

    others-stand : (f : ℕ → Tree) → LastStand s (holding nodes dots rects) c left f → LastStand s (holding nodes dots rects) c (left - 1) f
    others-stand f st i low five = st i (omega arith) five

    pub group-others : GroupCount s (holding nodes dots rects) c (left - 1) p
    group-others =
        record {
          settings_fit = w.settings_fit;
          cell_fits = w.cell_fits;
          deep = w.deep;
          here = w.here;
          some = w.some;
          few = omega (arith, w.few);
          children = w.children;
          stand = others-stand w.children w.stand;
          small = omega (arith, w.small, splits_are w.children);
        }

    module _ (here rest : ℕ) (child : CellCounted s (holding nodes dots rects) below p here)
        (others : GroupCounted s (holding nodes dots rects) c (left - 1) p rest) where
      pub group-counted : GroupCounted s (holding nodes dots rects) c left p (here + rest)
      unfolding CellCounted GroupCounted
      group-counted f st = omega (arith, child (f (5 - left)) (child-stands f st), others f (others-stand f st), splits_are f)

    group-spent : (here : ℕ) → CellCounted s (holding nodes dots rects) below p here
        → here + splits_of_last s p nodes c w.children (left - 1) ≡ splits_of_last s p nodes c w.children left
    unfolding CellCounted
    group-spent here child = omega (arith, child (w.children (5 - left)) (child-stands w.children w.stand), splits_are w.children)

-- ---- the loop, with so many splits counted and so many children left

pub record Ahead (s : Settings) (nodes dots : List ℕ) (rects : List ℤ) (c : Cell) (p : Patch) (splits left : ℕ) : Type 0 where
  pub asks : GroupCount s (holding nodes dots rects) c left p
  pub fits : splits + splits_of_last s p nodes c asks.children left ≤ most_splits
  pub whole : (r : ℕ) → GroupCounted s (holding nodes dots rects) c left p r → GroupCounted s (holding nodes dots rects) c 4 p (splits + r)

module _ {s : Settings} {nodes dots : List ℕ} {rects : List ℤ} {c : Cell} {p : Patch} where
  pub ahead-start : GroupCount s (holding nodes dots rects) c 4 p → Ahead s nodes dots rects c p 0 4
  ahead-start w =
      record {
        asks = w;
        fits = omega (arith, w.small);
        whole = λ r g. let same : r ≡ 0 + r = omega arith in subst (GroupCounted s (holding nodes dots rects) c 4 p) same g;
      }

  module _ {splits child : ℕ} (a : Ahead s nodes dots rects c p splits (5 - child)) where
    module _ (from : 1 ≤ child) (more : child < 5) {below : Cell} (e : below ≡ cell_below nodes c child) where
      some : ¬ (5 - child ≡ 0)
      some z = omega arith

      its : below ≡ cell_below nodes c (5 - (5 - child))
      its = let this : child ≡ 5 - (5 - child) = omega arith in e ∙ ap (cell_below nodes c) this

      pub ahead-child : CellCount s (holding nodes dots rects) below p
      ahead-child = group-child s nodes dots rects c (5 - child) p some a.asks its

      module _ (here : ℕ) (counted : CellCounted s (holding nodes dots rects) below p here) where
        spent : here + splits_of_last s p nodes c a.asks.children ((5 - child) - 1) ≡ splits_of_last s p nodes c a.asks.children (5 - child)
        spent = group-spent s nodes dots rects c (5 - child) p some a.asks its here counted

        pub ahead-fits : splits + here ≤ most_splits
        ahead-fits = omega (arith, a.fits, spent)

        turned : Ahead s nodes dots rects c p (splits + here) ((5 - child) - 1)
        unfolding group-others
        turned =
            record {
              asks = group-others s nodes dots rects c (5 - child) p some a.asks its;
              fits = omega (arith, a.fits, spent);
              whole = λ r g.
                  let same : splits + (here + r) ≡ splits + here + r = omega arith in
                  subst (GroupCounted s (holding nodes dots rects) c 4 p) same
                  (a.whole (here + r) (group-counted s nodes dots rects c (5 - child) p some a.asks its here r counted g));
            }

        pub ahead-next : Ahead s nodes dots rects c p (splits + here) (5 - (child + 1))
        ahead-next =
            let others : (5 - child) - 1 ≡ 5 - (child + 1) = omega arith in
            subst (Ahead s nodes dots rects c p (splits + here)) others turned

    pub ahead_end : 5 ≤ child → GroupCounted s (holding nodes dots rects) c 4 p splits
    ahead_end z =
        let same : splits + 0 ≡ splits = omega arith in
        subst (GroupCounted s (holding nodes dots rects) c 4 p) same (a.whole 0 (group-none s nodes dots rects c (5 - child) p (omega arith)))
