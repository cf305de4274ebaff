-- The walk down to a leaf.
--     steps_left    how far a leaf can be at most
--     Descending, down-start, down-depth, down-node, down-less, down-on, down-arrived
--                  the walk's invariant, its begin, what a turn asks, a turn, its end
use Rattle.std.specs.Prelude.{◌≡◌, refl, Bool, true, false, cond, List, ℕ, ◌+◌, ◌-◌, ◌*◌, ◌<◌, eqb}
use Rattle.std.proofs.Common.{ap, sym, ◌∙◌, eqb-true}
use Rattle.std.proofs.lemmas.Bool.{eqb-false}
use Rattle.std.proofs.Math.Path.{subst}
use native.Mathlib.Omega.{arith}
use Rattle.arithmetic.proofs.Laws.Tests.{by_bool}
use Rattle.geometry.specs.declared.node_data.NodeData.{NodeData}
use Rattle.geometry.specs.Cells.{child_data, route, InRange, root_data}
use Rattle.geometry.specs.declared.aabb.AABB.{AABB}
use Rattle.geometry.proofs.Laws.Geometry.{route-child}
use Rattle.model.specs.Trees.{Tree, leaf, branch, child_node}
use Rattle.model.specs.Layout.{branch_mark}
use Rattle.model.specs.Memory.{first_at, count_at}
use Rattle.memory.specs.Rows.{HasNode}
use Rattle.tree.specs.Routes.{leaf_for, Guided, Way, LeadsTo}
use Rattle.geometry.specs.declared.settings.Settings.{Settings}
use Rattle.geometry.proofs.Laws.Ranges.{accepted, root-range, child-range}
use Rattle.memory.specs.declared.node.Node.{Node}
use Rattle.memory.specs.Nodes.{node_at}

-- how far a leaf can be at most
abbrev pub steps_left : NodeData → ℕ
steps_left n = cond n.is_child_0 0 1 + 2 * (256 - n.depth)

pub steps_fall : (n : NodeData) (i : ℕ) → n.is_child_0 ≡ false → n.depth < 255 → steps_left (child_data n i) < steps_left n
unfolding child_data
steps_fall n i e d = rw e (by_bool (eqb i 0) (λ z. rw z (omega arith)) (λ z. rw z (omega arith)))

guided-has : (nodes : List ℕ) (n : NodeData) (a : ℕ) (u : Tree) → Guided nodes n a u → HasNode nodes a
guided-has nodes n a (leaf chain) g = g.0
guided-has nodes n a (branch k f) g = g.0

module _ (nodes : List ℕ) (r : AABB) where
  -- from a branch, whose first word is h, to the child
  pub record Turned (n : NodeData) (a h : ℕ) (u : Tree) : Type 0 where
    pub depth : n.depth < 255
    pub less : steps_left (child_data n (route n r)) < steps_left n
    pub below : Tree
    pub guided : Guided nodes (child_data n (route n r)) (h + route n r) below
    pub same : leaf_for r n a u ≡ leaf_for r (child_data n (route n r)) (h + route n r) below

  turn : (n : NodeData) (a : ℕ) (u : Tree) → Guided nodes n a u → count_at nodes a ≡ branch_mark → Turned n a (first_at nodes a) u
  turn n a (leaf chain) g e = absurd (g.1 e)
  turn n a (branch k f) g e =
      let i = route n r in
      let b : child_node k i ≡ first_at nodes a + i = omega (arith, g.2) in
      record {
        depth = g.4;
        less = steps_fall n i g.3 g.4;
        below = f i;
        guided = subst (λ (y : ℕ). Guided nodes (child_data n i) y (f i)) b (g.5 i (route-child n r));
        same = ap (λ (y : ℕ). leaf_for r (child_data n i) y (f i)) b;
      }

  at_end : (n : NodeData) (a : ℕ) (u : Tree) → Guided nodes n a u → ¬ (count_at nodes a ≡ branch_mark) → leaf_for r n a u ≡ record { node = a; node_data = n }
  at_end n a (leaf chain) g e = refl
  at_end n a (branch k f) g e = absurd (e g.1)

-- ---- the loop

-- the walk that began with n₀ at the root is at the node a, with n, and has read its words:
-- every tree that the nodes lead through has a subtree there, with the same leaf for the rectangle
pub record Descending (nodes : List ℕ) (r : AABB) (n₀ n : NodeData) (a : ℕ) (words : Node) : Type 0 where
  pub read : words ≡ node_at nodes a
  pub range : InRange n.cell
  pub leads : (t : Tree) → Guided nodes n₀ 0 t → (u : Tree) × Guided nodes n a u × (leaf_for r n₀ 0 t ≡ leaf_for r n a u)

module _ {s : Settings} {nodes : List ℕ} (way : Way s nodes) where
  pub root-has : HasNode nodes 0
  root-has = guided-has nodes (root_data s) 0 way.tree way.guided

  module _ {r : AABB} {n₀ : NodeData} (begin : n₀ ≡ root_data s) where
    pub down-start : {words : Node} → words ≡ node_at nodes 0 → Descending nodes r n₀ n₀ 0 words
    unfolding root_data
    down-start e =
        record {
          read = e;
          range = subst (λ (n : NodeData). InRange n.cell) (sym begin) (root-range s (accepted s way.accepted).root);
          leads = λ t g. (t, g, refl);
        }

    module _ {n : NodeData} {a : ℕ} {words : Node} (down : Descending nodes r n₀ n a words)
        {b : Bool} (told : b ≡ eqb words.count branch_mark) where
      from : (t : Tree) → Guided nodes (root_data s) 0 t → (u : Tree) × Guided nodes n a u × (leaf_for r n₀ 0 t ≡ leaf_for r n a u)
      from t g = down.leads t (subst (λ (n : NodeData). Guided nodes n 0 t) (sym begin) g)

      -- no branch: this is the leaf
      pub down-arrived : b ≡ false → LeadsTo s nodes r (record { node = a; node_data = n })
      down-arrived is_leaf t g =
          let o = from t g in
          let leaf : leaf_for r n a o.0 ≡ record { node = a; node_data = n } =
          at_end nodes r n a o.0 o.1 (λ e. eqb-false words.count branch_mark (sym told ∙ is_leaf) (ap (λ (w : Node). w.count) down.read ∙ e)) in
          sym (ap (λ (n : NodeData). leaf_for r n 0 t) (sym begin) ∙ o.2 ∙ leaf)

      -- a branch, and the child on the way
      module _ (branches : b ≡ true) {child : ℕ} (ec : child ≡ route n r) where
        counts : count_at nodes a ≡ branch_mark
        counts = sym (ap (λ (w : Node). w.count) down.read) ∙ eqb-true words.count branch_mark (sym told ∙ branches)

        turned : (t : Tree) → (u : Tree) → Guided nodes n a u → Turned nodes r n a words.first u
        turned t u g =
            subst (λ (h : ℕ). Turned nodes r n a h u) (sym (ap (λ (w : Node). w.first) down.read)) (turn nodes r n a u g counts)

        here : Turned nodes r n a words.first (from way.tree way.guided).0
        here = turned way.tree (from way.tree way.guided).0 (from way.tree way.guided).1

        pub down-depth : n.depth < 255
        down-depth = here.depth

        pub down-node : (child < 5) × HasNode nodes (words.first + child)
        down-node = (
          omega (arith, route-child n r),
          omega (arith, guided-has nodes (child_data n (route n r)) (words.first + route n r) here.below here.guided),
        )

        module _ {n' : NodeData} (e : n' ≡ child_data n child) where
          known : child_data n (route n r) ≡ n'
          known = ap (child_data n) (sym ec) ∙ sym e

          pub down-less : steps_left n' < steps_left n
          down-less = subst (λ (y : NodeData). steps_left y < steps_left n) known here.less

          pub down-on : {words' : Node} → words' ≡ node_at nodes (words.first + child) → Descending nodes r n₀ n' (words.first + child) words'
          unfolding child_data
          down-on ew =
              let below = words.first + child in
              record {
                read = ew;
                range = subst (λ (y : NodeData). InRange y.cell) known (child-range n.cell (route n r) down.range);
                leads = λ t g.
                    let o = down.leads t g in
                    let m = turned t o.0 o.1 in
                    let node : words.first + route n r ≡ below = omega arith in (
                      m.below,
                      subst (λ (y : NodeData). Guided nodes y below m.below) known
                          (subst (λ (y : ℕ). Guided nodes (child_data n (route n r)) y m.below) node m.guided),
                      o.2 ∙ m.same ∙ (λ j. leaf_for r (known j) (node j) m.below),
                    );
              }
