-- A chain of places (§2.5), as an iterator walks it.
--     HasChain     from a link on, so many places that follow one another have words in the row
--     Passed       one place of a chain was passed
--     ChainStep    a call of `next`
use Rattle.std.specs.Prelude.{◌≡◌, List, ℕ, zero, suc, ◌-◌, ◌≤◌, MatchOption, Option, ⊤}
use Rattle.model.specs.Memory.{next_at}
use Rattle.memory.specs.Rows.{HasPlace}
use Rattle.memory.specs.declared.chain.Chain.{Chain}

unfoldable pub HasChain : List ℕ → ℕ → ℕ → Type 0
HasChain dots at zero = ⊤
HasChain dots at (suc left) = HasPlace dots at × HasChain dots (next_at dots at) left

-- of a chain at the link `at` with so many places left, the first was passed: it is the link's, and its next is the link after it
pub record Passed (dots : List ℕ) (at left place at' left' : ℕ) : Type 0 where
  pub some : 1 ≤ left
  pub here : place ≡ at
  pub next : at' ≡ next_at dots at
  pub rest : left' ≡ left - 1

abbrev pub ChainStep : Chain → Option ℕ → Chain → Type 0
ChainStep s r t =
    MatchOption r (s.left ≡ 0) (λ place. (t.dots.now ≡ s.dots.now) × Passed s.dots.now s.at s.left place t.at t.left)
