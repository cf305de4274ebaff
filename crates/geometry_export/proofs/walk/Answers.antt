use Rattle.std.proofs.Common.{arith, length, min, take, ◌∙◌, ◌≡◌}
use Rattle.std.proofs.lemmas.List.{length-take, take_min}
use Rattle.geometry.specs.Cells.{data_along}
use Rattle.geometry_export.proofs.Paths.{walk_start, walk_step, walk_end}
use Rattle.geometry_export.proofs.walk.Goals as goal

pub loop-child-init : goal.loop-child-init
loop-child-init c = search walk_start

pub child-node-requires : goal.child-node-requires
child-node-requires c =
    (c.loop-child.invariant.range, omega (arith, c.loop-child.invariant.depth, length-take c.min.result c.args.path.now))

pub loop-child-preserved : goal.loop-child-preserved
loop-child-preserved c = rw c.child-node.ensures (walk_step _ _ _ _ c.loop-child.invariant c.loop-child-test.true)

pub returns : goal.returns
returns c =
    let path = c.args.path.now in
    let count : c.min.result ≡ min 255 (length path) = omega (arith, c.min.ensures) in
    let counted : take c.min.result path ≡ take 255 path = rw count (take_min 255 path) in
    walk_end _ _ _ _ c.loop-child.invariant (omega arith) ∙ (λ i. data_along c.args.start (counted i))
