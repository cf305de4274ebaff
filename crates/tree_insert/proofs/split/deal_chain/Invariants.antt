-- A loop whose invariant is that dealing what is left is dealing the whole.
use Rattle.std.proofs.Common.{◌-◌}
use Rattle.tree_insert.proofs.Laws.Deal.{Dealing}
use Rattle.tree_insert.proofs.split.deal_chain.Given as goal

abbrev pub invariant-loop : goal.invariant-loop
invariant-loop l =
    let chain = l.fn.chain in
    Dealing l.initial.nodes l.initial.dots l.rects l.cell l.group chain.first chain.count l.nodes l.dots l.at (chain.count - l.counter)
