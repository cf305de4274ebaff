-- The loop's invariant: what is left is good just where the whole is (`FreeLeft`).
use Rattle.std.proofs.Common.{◌-◌}
use Rattle.memory.specs.Lent.{held, groups_held}
use Rattle.tree_check.proofs.Laws.Frees.{FreeLeft}
use Rattle.tree_check.proofs.free.check_free.Given as goal

abbrev pub invariant-loop : goal.invariant-loop
invariant-loop l = FreeLeft (held l.rows) l.initial.marks l.head l.marks l.link (groups_held (held l.rows) - l.counter)
