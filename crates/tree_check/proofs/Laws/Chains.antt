-- The check of a chain: it says yes just where there is a chain whose dots pass the test, and marks its places.
--     ChainLeft        the loop: what is left to check is good just where the whole is
--     left-next        one dot more
--     left_far, left_seen, left_bad, left_end      the answer: no such place, a marked one, a dot that does not pass; at the end
use Rattle.std.specs.Prelude.{◌≡◌, List, [], ◌∷◌, Bool, true, false, ℕ, ◌+◌, ◌-◌, ◌≤◌, ◌<◌, length, get_or, set, eqb}
use Rattle.std.proofs.Math.Path.{refl}
use Rattle.std.proofs.Common.{ap, sym, ◌∙◌, subst, eqb-true}
use native.Mathlib.Omega.{arith}
use Rattle.std.proofs.Math.ListN.{length-set}
use Rattle.std.proofs.lemmas.Bool.{eqb-false}
use Rattle.arithmetic.proofs.Laws.Tests.{by_bool, true_false}
use Rattle.model.specs.declared.Dot.{Dot}
use Rattle.model.specs.Sums.{indicator}
use Rattle.model.proofs.Laws.Sums.{indicator-same, indicator_other}
use Rattle.model.specs.Trees.{Placed}
use Rattle.model.specs.Layout.{none}
use Rattle.model.specs.Memory.{Mem, Chained}
use Rattle.memory.specs.Lent.{Held, places_held, mem_of}
use Rattle.tree_check.specs.Marks.{place_mark, Marked, Added, WalkReady}
use Rattle.tree_check.proofs.Laws.Marks.{mark-one, mark-bits, place-added, unmarked, was_marked, once-one, once-rest, once-whole}
use Rattle.tree_check.specs.Chains.{chain_count, ChainGood, ChainFound, ChainScanned}

-- from `head` with `count` dots and `marks`, the loop has come to `link` with `left` dots and `marks'`
pub record ChainLeft (test : Dot → Bool) (h : Held) (marks : List ℕ) (head count : ℕ) (marks' : List ℕ) (link left : ℕ) : Type 0 where
  pub size : length marks' ≡ length marks
  pub bits : (j : ℕ) → get_or marks' j 0 ≤ 1
  pub back : (rest : List Placed) → ChainGood test h marks' link left rest
      → (chain : List Placed) × ChainGood test h marks head count chain
      × ((j : ℕ) → j < places_held h → place_mark marks j + chain_count chain j ≡ place_mark marks' j + chain_count rest j)
  pub forth : (chain : List Placed) → ChainGood test h marks head count chain → (rest : List Placed) × ChainGood test h marks' link left rest
  pub kept : (j : ℕ) → places_held h ≤ j → get_or marks' j 0 ≡ get_or marks j 0

-- ---- one dot

module _ (test : Dot → Bool) (h : Held) (marks : List ℕ) (link left : ℕ) (some : 0 < left) where
  abbrev m : Mem
  m = mem_of h

  -- what is left begins at the link
  head-is : (rest : List Placed) → ChainGood test h marks link left rest → 1 ≤ chain_count rest link
  head-is [] g = absurd (omega (arith, g.counted))
  head-is (d ∷ ds) g = omega (arith, ap (λ (y : ℕ). indicator y d.place) g.chained.0, indicator-same d.place)

  bad_dot : test (m.dot link) ≡ false → (rest : List Placed) → ChainGood test h marks link left rest → ⊥
  bad_dot bad [] g = absurd (omega (arith, g.counted))
  bad_dot bad (d ∷ ds) g =
      let same : m.dot link ≡ d.dot = ap m.dot g.chained.0 ∙ g.chained.1 in
      true_false (sym g.passing.0 ∙ sym (ap test same) ∙ bad)

  module _ (inside : link < length marks) (bits : (j : ℕ) → get_or marks j 0 ≤ 1) (b : link < places_held h) (unmarked : get_or marks link 0 ≡ 0)
      (pass : test (m.dot link) ≡ true) where
    here : Placed
    here = record { place = link; dot = m.dot link }

    one-added : Added (place_mark marks) (place_mark (set marks link 1)) (places_held h) (λ j. indicator j link)
    one-added = place-added marks link inside unmarked (places_held h)

    more : (rest : List Placed) → ChainGood test h (set marks link 1) (m.next link) (left - 1) rest
        → ChainGood test h marks link left (here ∷ rest)
    unfolding here
    more rest g =
        record {
          chained = (refl, refl, g.chained);
          counted = omega (arith, g.counted);
          passing = (pass, g.passing);
          once = once-whole one-added (chain_count rest) (chain_count (here ∷ rest)) (λ j. refl)
              (once-one (place_mark marks) (places_held h) link bits b unmarked) g.once;
        }

    less : (chain : List Placed) → ChainGood test h marks link left chain
        → (rest : List Placed) × ChainGood test h (set marks link 1) (m.next link) (left - 1) rest
    less [] g = absurd (omega (arith, g.counted))
    less (d ∷ ds) g =
        let p = g.chained.0 in (
          ds,
          record {
            chained = subst (λ (y : ℕ). Chained m (m.next y) ds none) (sym p) g.chained.2;
            counted = omega (arith, g.counted);
            passing = g.passing.1;
            once = once-rest one-added (chain_count ds) (chain_count (d ∷ ds)) (λ j. ap (λ (y : ℕ). indicator j y + chain_count ds j) (sym p)) g.once;
          },
        )

    turn : (marks₀ : List ℕ) (head count : ℕ) → ChainLeft test h marks₀ head count marks link left
        → ChainLeft test h marks₀ head count (set marks link 1) (m.next link) (left - 1)
    unfolding here
    turn marks₀ head count l =
        record {
          size = length-set marks link 1 ∙ l.size;
          bits = mark-bits marks link inside unmarked bits;
          back = λ rest g. let q = l.back (here ∷ rest) (more rest g) in (q.0, q.1, λ j c. omega (arith, q.2 j c, mark-one marks link inside unmarked j));
          forth = λ chain g. let q = l.forth chain g in less q.0 q.1;
          kept = λ j c. omega (arith, l.kept j c, mark-one marks link inside unmarked j, indicator_other j link (λ e. omega arith));
        }

-- ---- the loop, by what the code reads

module _ {test : Dot → Bool} {h : Held} {marks : List ℕ} {head count : ℕ} {marks' : List ℕ} {link left : ℕ}
    (l : ChainLeft test h marks head count marks' link left) where
  stop : (marks'' : List ℕ) → ((rest : List Placed) → ChainGood test h marks' link left rest → ⊥) → ChainScanned test h marks head count marks'' false
  unfolding ChainScanned
  stop marks'' f chain g = let q = l.forth chain g in f q.0 q.1

  module _ (some : 0 < left) where
    pub left_far : places_held h ≤ link → ChainScanned test h marks head count marks' false
    left_far b = stop marks' (λ rest g. omega (arith, head-is test h marks' link left some rest g, g.once.within link b))

    module _ (b : link < places_held h) {marks'' : List ℕ} {first : Bool} (one : Marked marks' link marks'' first) where
      pub left_seen : first ≡ false → ChainScanned test h marks head count marks'' false
      left_seen n = stop marks'' (λ rest g. omega (arith, head-is test h marks' link left some rest g, g.once.once link b, was_marked one n))

      module _ {dot : Dot} {pass : Bool} (is : dot ≡ (mem_of h).dot link) (told : pass ≡ test dot) where
        pub left_bad : pass ≡ false → ChainScanned test h marks head count marks'' false
        left_bad n = stop marks'' (bad_dot test h marks' link left some (sym (told ∙ ap test is) ∙ n))

        pub left-next : {next left' : ℕ} → left' ≡ left - 1 → WalkReady h marks → first ≡ true → pass ≡ true → next ≡ (mem_of h).next link
            → ChainLeft test h marks head count marks'' next left'
        left-next z ready f n e =
            let inside : link < length marks' = omega (arith, l.size, ready.mark_ready.room) in
            rw (e, z, one.stored) (turn test h marks' link left some inside l.bits b (unmarked one f) (sym (told ∙ ap test is) ∙ n) marks head count l)

  end_good : left ≡ 0 → link ≡ none → ChainFound test h marks head count marks'
  end_good z e =
      let nothing : ChainGood test h marks' link left [] =
      record { chained = e; counted = sym z; passing = tt; once = record { once = λ j c. omega (arith, l.bits j); within = λ j c. refl } } in
      let q = l.back [] nothing in
      record { chain = q.0; good = q.1; added = record { added = λ j c. omega (arith, q.2 j c) }; kept = l.kept }

  end_bad : left ≡ 0 → (link ≡ none → ⊥) → (rest : List Placed) → ChainGood test h marks' link left rest → ⊥
  end_bad z ne [] g = ne g.chained
  end_bad z ne (d ∷ ds) g = omega (arith, g.counted)

  -- the answer at the end is whether the last next is none
  pub left_end : left ≤ 0 → ChainScanned test h marks head count marks' (eqb link 4294967295)
  unfolding ChainScanned none
  left_end b =
      let z : left ≡ 0 = omega arith in
      by_bool (eqb link none) (λ e. rw e (end_good z (eqb-true link none e))) (λ e. rw e (stop marks' (end_bad z (eqb-false link none e))))
