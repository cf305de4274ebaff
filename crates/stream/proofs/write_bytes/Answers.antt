-- What a write took comes after what is written already; a write that a signal interrupts takes nothing.
use Rattle.std.proofs.Common.{◌≡◌, ℕ, ◌+◌, ◌-◌, ◌≤◌, List, ◌++◌, length, take, drop, arith, length-drop, sym, subst}
use Rattle.std.proofs.lemmas.List.{take_rest}
use Rattle.std.proofs.Math.Seq.{take-add}
use Rattle.std.proofs.KnownBytes.{Appends-trans, Appends-kept}
use Rattle.std.specs.Prelude.{Option}
use Rattle.std.specs.Io.KnownBytes.{Appends}
use Rattle.stream.proofs.write_bytes.Goals as goal
use Rattle.stream.proofs.write_bytes.Goals.{in-Ok, in-Err+else-ne}

module _ (bytes : List ℕ) (done put : ℕ) where
  -- the first of the bytes, and the first of the rest
  joined : take done bytes ++ take put (take (length bytes - done) (drop done bytes)) ≡ take (done + put) bytes
  joined = rw (take_rest bytes done) (sym (take-add done put bytes))

  within : done ≤ length bytes → put ≤ length (take (length bytes - done) (drop done bytes)) → done + put ≤ length bytes
  within fits more =
      let rest : put ≤ length (drop done bytes) = rw (take_rest bytes done) at more in
      omega (arith, length-drop done bytes)

  written : (a b c : Option (List ℕ)) → Appends a b (take done bytes) → Appends b c (take put (take (length bytes - done) (drop done bytes)))
      → Appends a c (take (done + put) bytes)
  written a b c p q = subst (λ (bs : List ℕ). Appends a c bs) joined (Appends-trans a b c _ _ p q)

pub loop-preserved : goal.loop-preserved
loop-preserved g c =
    let bytes = c.args.bytes.now in
    let done = c.loop.done in
    let (fits, so_far, kept) = c.loop.invariant in
    elim c.match-write.branch [
      | in-Ok w ↦ rw w.done-is (
        within bytes done w.in-Ok.put fits w.in-Ok.ensures.bound,
        written bytes done w.in-Ok.put _ _ _ so_far w.in-Ok.ensures.bytes,
        kept,
      )
      | in-Err+else-ne w ↦ rw w.done-is (fits, Appends-kept _ _ _ _ so_far w.in-Err.ensures.bytes, kept)
    ]
