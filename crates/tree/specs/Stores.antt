-- Single stores into the memory: a node's first and count, a place's dot and next.
use Rattle.std.specs.Prelude.{ℕ}
use Rattle.model.specs.declared.Dot.{Dot}
use Rattle.model.specs.Sums.{changed}
use Rattle.model.specs.Memory.{Mem}

abbrev pub set_first : Mem → ℕ → ℕ → Mem
set_first m a v = record { first = changed m.first a v; count = m.count; dot = m.dot; next = m.next }

abbrev pub set_count : Mem → ℕ → ℕ → Mem
set_count m a v = record { first = m.first; count = changed m.count a v; dot = m.dot; next = m.next }

abbrev pub set_dot : Mem → ℕ → Dot → Mem
set_dot m p d = record { first = m.first; count = m.count; dot = changed m.dot p d; next = m.next }

abbrev pub set_next : Mem → ℕ → ℕ → Mem
set_next m p v = record { first = m.first; count = m.count; dot = m.dot; next = changed m.next p v }
