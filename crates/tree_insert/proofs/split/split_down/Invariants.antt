-- A loop whose invariant is that the insert continues.
use Rattle.std.proofs.Common.{◌-◌}
use Rattle.tree_insert.proofs.Laws.SplitDown.{SplittingDown}
use Rattle.tree_insert.proofs.split.split_down.Given as goal

abbrev pub invariant-loop : goal.invariant-loop
invariant-loop l =
    let leaf = l.fn.leaf in
    SplittingDown l.rect l.rects l.initial.nodes l.initial.dots l.fn.group leaf.node leaf.node_data l.fn.splits
    l.nodes l.dots l.head l.node l.node_data (l.fn.splits - l.counter)
