-- The code looks up what the laws of the remove speak of, and its stores are theirs.
-- what the code has looked up
use Rattle.std.proofs.Common.{ap, arith, not, sym, true, ◌∙◌, ◌≡◌}
use borrow.Author.Tests.{not-false}
use Rattle.model.specs.Calls.{can_count}
use Rattle.tree.proofs.Laws.Routes.{holds-way}
use Rattle.tree.proofs.Laws.Leaves.{leads-has}
use Rattle.tree_remove.proofs.Laws.Answers.{Looked, Takes, leads-searchable, look-takes, look-no, look-past, look-yes}
use Rattle.tree_remove.proofs.remove_dot.Goals as goal
use Rattle.tree_remove.proofs.remove_dot.Goals.{After-find_dot, In-Some, Else-not-can_count}

looked : (c : After-find_dot) →
    let a = c.args in
    Looked a.state a.rows.now.nodes.now a.rows.now.dots.now a.id a.rect c.find_leaf-node.result c.node_at-leaf.result c.find_dot.result
looked c =
    let read = c.shared-given.ensures in
    rw (← read.0, ← read.1) (record { leads = c.find_leaf-node.ensures; words = c.node_at-leaf.ensures; finds = c.find_dot.ensures })

takes : (c : In-Some) →
    let a = c.args in
    Takes a.state a.rows.now.nodes.now a.rows.now.dots.now a.rows.now.rects.now c.find_leaf-node.result c.node_at-leaf.result c.in-Some.hit
takes c =
    look-takes c.requires.holds (looked c.before) c.in-Some.is

counts : (c : Else-not-can_count) → can_count c.args.state 1 ≡ true
counts c = sym c.can_count.ensures ∙ not-false _ (ap not c.if-not-can_count.false)

pub node_at-leaf-requires : goal.node_at-leaf-requires
node_at-leaf-requires c =
    let read = c.shared-given.ensures in
    rw read.0 (leads-has c.requires.holds c.args.rect {l = c.find_leaf-node.result} (rw read.0 at c.find_leaf-node.ensures))

pub find_dot-requires : goal.find_dot-requires
find_dot-requires c =
    let read = c.shared-given.ensures in
    rw read.1 (leads-searchable c.requires.holds c.args.rect (rw read.0 at c.find_leaf-node.ensures) (rw read.0 at c.node_at-leaf.ensures))

pub returns-in_default-clause-carried_out : goal.returns-in_default-clause-carried_out
returns-in_default-clause-carried_out c marks x h = look-no h (looked (goal.at.returns-in_default-clause-carried_out c).After-find_dot) c.in_default.is

pub unlink-requires : goal.unlink-requires
unlink-requires c = (takes (goal.at.unlink-requires c).In-Some).unlinks

pub free_place-requires : goal.free_place-requires
free_place-requires c =
    let stores = takes (goal.at.free_place-requires c).In-Some in
    (omega arith, stores.rect)

pub overflow_sub-state : goal.overflow_sub-state
overflow_sub-state c = (takes (goal.at.overflow_sub-state c).In-Some).live

pub returns-then-not-can_count-clause-carried_out : goal.returns-then-not-can_count-clause-carried_out
returns-then-not-can_count-clause-carried_out c marks x h =
    look-past h (looked (goal.at.returns-then-not-can_count-clause-carried_out c).After-find_dot) c.in-Some.is c.can_count.ensures (search)

pub returns-clause-carried_out : goal.returns-clause-carried_out
returns-clause-carried_out c marks x h =
    let at = goal.at.returns-clause-carried_out c in
    look-yes h (looked at.After-find_dot) c.in-Some.is (counts at.Else-not-can_count)
    c.unlink.ensures.0 c.unlink.ensures.1 c.free_place.ensures.0 c.free_place.ensures.1 c.changed-next.ensures

pub find_leaf-node-requires : goal.find_leaf-node-requires
find_leaf-node-requires c = rw c.shared-given.ensures.0 (holds-way _ _ c.requires.holds)

pub overflow_cast-place : goal.overflow_cast-place
overflow_cast-place c = omega (arith, (takes (goal.at.overflow_cast-place c).In-Some).small)
