-- A walk whose invariant is that every tree that the nodes lead through has a subtree at the node reached, with the same leaf for the rectangle.
-- The depth rises, or the node becomes a child 0, which is a leaf.
use Rattle.tree.proofs.Laws.Descent.{steps_left, Descending}
use Rattle.tree.proofs.find.find_leaf.Given as goal

abbrev pub invariant-loop-node : goal.invariant-loop-node
invariant-loop-node l = Descending l.nodes l.rect l.initial.data l.data l.node l.words

abbrev pub decreases-loop-node : goal.decreases-loop-node
decreases-loop-node l = steps_left l.data
