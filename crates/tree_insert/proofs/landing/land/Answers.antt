-- The tests in the order of the refusals; what they told is what the insert begins with.
use Rattle.std.proofs.Common.{ap, not, rules}
use Rattle.tree.proofs.Laws.Routes.{holds-way}
use Rattle.tree.proofs.Laws.Leaves.{leads-has}
use Rattle.tree_insert.proofs.Laws.Leaf.{countable, listed_free}
use Rattle.tree_insert.proofs.Laws.Refusals.{Not4, Not10, Not5, Counted, not_4, not_10, not_5, not_6}
use Rattle.tree_insert.proofs.Laws.Refusals.{refuse_4, refuse_10, refuse_5, refuse_6, refuse_7, refuse_16, lands}
use Rattle.tree_insert.proofs.landing.land.Goals as goal
use Rattle.tree_insert.proofs.landing.land.Goals.{After-splits_needed-needed, Else-is_inverted-is_far_out, Else-not-contains, Else-not-has_good_ink}

passed-4 : (c : Else-is_inverted-is_far_out) → Not4 c.args.dot
passed-4 c = search not_4

passed-10 : (c : Else-not-has_good_ink) → Not10 c.args.dot
passed-10 c =
    let four : Not4 c.args.dot = search not_4 in
    not_10 four c.has_good_ink.ensures (ap not c.if-not-has_good_ink.false)

passed-5 : (c : Else-not-contains) → Not5 c.args.state c.args.dot
passed-5 c =
    let four : Not4 c.args.dot = search not_4 in
    let ten = not_10 four c.has_good_ink.ensures (ap not c.if-not-has_good_ink.false) in
    not_5 ten c.from.ensures c.contains.ensures (ap not c.if-not-contains.false)

counted : (c : After-splits_needed-needed) →
    let a = c.args in
    Counted a.state a.rows.nodes.now a.rows.dots.now a.rows.rects.now a.dot c.find_leaf-leaf.result c.splits_needed-needed.result
counted c =
    let four : Not4 c.args.dot = search not_4 in
    let ten = not_10 four c.has_good_ink.ensures (ap not c.if-not-has_good_ink.false) in
    let five = not_5 ten c.from.ensures c.contains.ensures (ap not c.if-not-contains.false) in
    record {
      tests = not_6 five c.places_in.ensures c.if-places_in-live.false;
      leads = c.find_leaf-leaf.ensures;
      node = c.node_at-chain.result;
      words = c.node_at-chain.ensures;
      tells = c.splits_needed-needed.ensures;
    }

pub node_at-chain-requires : goal.node_at-chain-requires
node_at-chain-requires c = leads-has c.requires.holds c.args.dot.rect c.find_leaf-leaf.ensures

pub splits_needed-needed-requires : goal.splits_needed-needed-requires
splits_needed-needed-requires c = (
  countable c.requires.holds c.args.dot c.find_leaf-leaf.ensures c.node_at-chain.ensures,
  listed_free c.requires.holds c.args.dot c.find_leaf-leaf.ensures,
)

pub returns-then-not-has_good_ink : goal.returns-then-not-has_good_ink
returns-then-not-has_good_ink c marks x h =
    refuse_10 h _ (passed-4 (goal.at.returns-then-not-has_good_ink c).Else-is_inverted-is_far_out) c.has_good_ink.ensures (search)

pub returns-then-not-contains : goal.returns-then-not-contains
returns-then-not-contains c marks x h =
    refuse_5 h _ (passed-10 (goal.at.returns-then-not-contains c).Else-not-has_good_ink) c.from.ensures c.contains.ensures (search)

pub returns-then-places_in-live : goal.returns-then-places_in-live
returns-then-places_in-live c marks x h = refuse_6 h _ (passed-5 (goal.at.returns-then-places_in-live c).Else-not-contains) c.places_in.ensures (search)

pub returns-in_default : goal.returns-in_default
returns-in_default c marks x h = refuse_7 h _ (counted (goal.at.returns-in_default c).After-splits_needed-needed) c.in_default.is

pub returns-then-not-can_count : goal.returns-then-not-can_count
returns-then-not-can_count c marks x h =
    refuse_16 h _ (counted (goal.at.returns-then-not-can_count c).After-splits_needed-needed) c.in-Some.is c.can_count.ensures (search)

pub returns : goal.returns
returns c marks x h = lands h _ (counted (goal.at.returns c).After-splits_needed-needed) c.in-Some.is c.can_count.ensures (search)

pub returns-then-is_inverted-is_far_out : goal.returns-then-is_inverted-is_far_out
returns-then-is_inverted-is_far_out c marks x h = search (rules, refuse_4)

pub find_leaf-leaf-requires : goal.find_leaf-leaf-requires
find_leaf-leaf-requires c = search (rules, holds-way)
