-- A chain, walked.
--     passed       a place was passed, in a row that is the same
use Rattle.std.specs.Prelude.{◌≡◌, List, ℕ}
use Rattle.std.proofs.Common.{subst}
use Rattle.memory.specs.Chains.{Passed}

pub passed : {dots dots' : List ℕ} {at left place at' left' : ℕ} → dots' ≡ dots → Passed dots' at left place at' left' → Passed dots at left place at' left'
passed {at = at} {left} {place} {at'} {left'} e p = subst (λ (d : List ℕ). Passed d at left place at' left') e p
