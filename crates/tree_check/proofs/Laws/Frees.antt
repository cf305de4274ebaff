-- The check of the free groups: it says yes just where a list of free groups hangs from the head, and marks them.
--     empty-is         the words of an empty leaf
--     FreeLeft         the loop: what is left to check is good just where the whole is
--     free-next        one group more
--     free-short, free-none, free_seen, free_bad, free_end, free-last     the answer: too many, no group, a marked one, words that are not free; at the end
use Rattle.std.specs.Prelude.{◌≡◌, Bool, true, false, Some, None, ◌&&◌, ℕ, zero, suc, ◌+◌, ◌-◌, ◌≤◌, ◌<◌, length, get_or, set, eqb}
use Rattle.std.proofs.Math.Path.{refl}
use Rattle.std.proofs.Common.{ap, sym, ◌∙◌, subst, arith, length-set, eqb-true, eq-eqb}
use mathlib.Core.List.{List, [], ◌∷◌}
use Rattle.std.proofs.Math.Decide.{dec_lt}
use Rattle.std.proofs.lemmas.Bool.{eqb-false}
use Rattle.arithmetic.proofs.Laws.Tests.{by_bool, true_false}
use Rattle.arithmetic.proofs.Laws.Linear.{and_t}
use Rattle.model.specs.Sums.{indicator}
use Rattle.model.proofs.Laws.Sums.{indicator-same, by_dec}
use Rattle.model.specs.Lists.{count}
use Rattle.model.specs.Trees.{child_node}
use Rattle.model.specs.Layout.{none}
use Rattle.model.specs.Memory.{Mem, first_at, count_at, FreeGroups}
use Rattle.memory.specs.declared.node.Node.{Node}
use Rattle.memory.specs.Nodes.{node_at}
use Rattle.memory.specs.Lent.{Held, places_held, groups_held, mem_of}
use Rattle.tree_check.specs.Marks.{group_mark, Marked, Added, MarksReady}
use Rattle.tree_check.proofs.Laws.Marks.{unmarked, was_marked, group-added, marks-ready, places-kept, once-one, once-rest, once-whole}
use Rattle.tree_check.specs.Frees.{GroupAt, empty_at, free_words, FreeGood, FreeScanned}

-- ---- the words of a free group

abbrev pub Empty : List ℕ → ℕ → Type 0
Empty nodes a = (first_at nodes a ≡ none) × (count_at nodes a ≡ 0)

abbrev Words : List ℕ → ℕ → Type 0
Words nodes g = (count_at nodes (child_node g 0) ≡ 0) × ((i : ℕ) → 1 ≤ i → i < 5 → Empty nodes (child_node g i))

pub empty-is : (nodes : List ℕ) (a : ℕ) → empty_at nodes a ≡ true → Empty nodes a
unfolding empty_at
empty-is nodes a e = let p = and_t (eqb (first_at nodes a) none) (eqb (count_at nodes a) 0) e in (eqb-true _ _ p.0, eqb-true _ _ p.1)

is-empty : (nodes : List ℕ) (a : ℕ) → Empty nodes a → empty_at nodes a ≡ true
unfolding empty_at
is-empty nodes a p = rw (eq-eqb (first_at nodes a) none p.0, eq-eqb (count_at nodes a) 0 p.1) refl

-- what holds of children 1 to 4
four : (P : ℕ → Type 0) → P 1 → P 2 → P 3 → P 4 → (i : ℕ) → 1 ≤ i → i < 5 → P i
four P a b c d zero low high = absurd (omega arith)
four P a b c d (suc zero) low high = a
four P a b c d (suc (suc zero)) low high = b
four P a b c d (suc (suc (suc zero))) low high = c
four P a b c d (suc (suc (suc (suc zero)))) low high = d
four P a b c d (suc (suc (suc (suc (suc i))))) low high = absurd (omega arith)

words_are : (nodes : List ℕ) (g : ℕ) → free_words nodes g ≡ true → Words nodes g
unfolding free_words
words_are nodes g e =
    let empty : ℕ → Bool = λ i. empty_at nodes (child_node g i) in
    let all = and_t (eqb (count_at nodes (child_node g 0)) 0) (empty 1 && (empty 2 && (empty 3 && (empty 4 && true)))) e in
    let one = and_t (empty 1) (empty 2 && (empty 3 && (empty 4 && true))) all.1 in
    let two = and_t (empty 2) (empty 3 && (empty 4 && true)) one.1 in
    let three = and_t (empty 3) (empty 4 && true) two.1 in
    let last = and_t (empty 4) true three.1 in (
      eqb-true _ _ all.0,
      four (λ i. Empty nodes (child_node g i)) (empty-is nodes _ one.0) (empty-is nodes _ two.0) (empty-is nodes _ three.0) (empty-is nodes _ last.0),
    )

are_words : (nodes : List ℕ) (g : ℕ) → Words nodes g → free_words nodes g ≡ true
unfolding free_words
are_words nodes g w =
    let each : (i : ℕ) → 1 ≤ i → i < 5 → empty_at nodes (child_node g i) ≡ true = λ i low high. is-empty nodes (child_node g i) (w.1 i low high) in
    rw (
      eq-eqb (count_at nodes (child_node g 0)) 0 w.0,
      each 1 (omega arith) (omega arith),
      each 2 (omega arith) (omega arith),
      each 3 (omega arith) (omega arith),
      each 4 (omega arith) (omega arith),
    ) refl

-- ---- the loop, by what the code reads

-- from `head` with as many groups as there are and `marks`, the loop has come to `link` with at most `left` groups and `marks'`
pub record FreeLeft (h : Held) (marks : List ℕ) (head : ℕ) (marks' : List ℕ) (link left : ℕ) : Type 0 where
  pub ready : MarksReady h marks'
  pub size : length marks' ≡ length marks
  pub back : (rest : List ℕ) → FreeGood h marks' link left rest
      → (free : List ℕ) × FreeGood h marks head (groups_held h) free
      × ((j : ℕ) → j < groups_held h → group_mark h marks j + count j free ≡ group_mark h marks' j + count j rest)
  pub forth : (free : List ℕ) → FreeGood h marks head (groups_held h) free → (rest : List ℕ) × FreeGood h marks' link left rest
  pub kept : (j : ℕ) → j < places_held h → get_or marks' j 0 ≡ get_or marks j 0

module _ {h : Held} {marks : List ℕ} {head : ℕ} {marks' : List ℕ} {link left : ℕ} (l : FreeLeft h marks head marks' link left) where
  stop : (marks'' : List ℕ) → ((rest : List ℕ) → FreeGood h marks' link left rest → ⊥) → FreeScanned h marks head marks'' false
  unfolding FreeScanned
  stop marks'' f free x = let q = l.forth free x in f q.0 q.1

  pub free_end : link ≡ 4294967295 → FreeScanned h marks head marks' true
  unfolding FreeScanned none
  free_end e =
      let nothing : FreeGood h marks' link left [] =
      record { listed = e; few = omega arith; once = record { once = λ j c. omega (arith, l.ready.bits (places_held h + j)); within = λ j c. refl } } in
      let q = l.back [] nothing in
      record { free = q.0; good = q.1; added = record { added = λ j c. omega (arith, q.2 j c) }; kept = l.kept; ready = l.ready }

  module _ (some : link ≡ 4294967295 → ⊥) where
    abbrev m : Mem
    m = mem_of h

    -- what is left begins with the group of the link
    record Head (rest : List ℕ) : Type 0 where
      pub group : ℕ
      pub others : List ℕ
      pub one : 1 ≤ left
      pub within : group < groups_held h
      pub first : link ≡ child_node group 0
      pub unseen : group_mark h marks' group ≡ 0
      pub words : Words h.nodes group
      pub listed : FreeGroups m (m.first (child_node group 0)) others
      pub few : length others ≤ left - 1
      pub counts : (j : ℕ) → count j rest ≡ indicator j group + count j others

    begins : (rest : List ℕ) → FreeGood h marks' link left rest → Head rest
    unfolding none
    begins [] x = absurd (some x.listed)
    begins (g ∷ gs) x =
        let b : g < groups_held h = by_dec (dec_lt g (groups_held h)) (λ y. y) (λ y. absurd (omega (arith, x.once.within g (omega arith), indicator-same g))) in
        record {
          group = g;
          others = gs;
          one = omega (arith, x.few);
          within = b;
          first = x.listed.0;
          unseen = omega (arith, x.once.once g b, indicator-same g);
          words = (x.listed.1, x.listed.2);
          listed = x.listed.3;
          few = omega (arith, x.few);
          counts = λ j. refl;
        }

    pub free-short : left ≡ 0 → FreeScanned h marks head marks' false
    free-short z = stop marks' (λ rest x. omega (arith, (begins rest x).one))

    pub free-none : GroupAt h link None → FreeScanned h marks head marks' false
    free-none none_at = stop marks' (λ rest x. let y = begins rest x in none_at y.group y.within y.first)

    module _ {group at : ℕ} (is : GroupAt h link (Some group)) (p : at ≡ places_held h + group) {marks'' : List ℕ} {first : Bool}
        (marked-at : Marked marks' at marks'' first) where
      one : Marked marks' (places_held h + group) marks'' first
      one = subst (λ (y : ℕ). Marked marks' y marks'' first) p marked-at

      same : (rest : List ℕ) (x : FreeGood h marks' link left rest) → (begins rest x).group ≡ group
      same rest x = let y = begins rest x in omega (arith, y.first, is.1)

      pub free_seen : first ≡ false → FreeScanned h marks head marks'' false
      free_seen n = stop marks'' (λ rest x. was_marked one n (ap (group_mark h marks') (sym (same rest x)) ∙ (begins rest x).unseen))

      module _ {free : Bool} (told : free ≡ free_words h.nodes group) where
        pub free_bad : free ≡ false → FreeScanned h marks head marks'' false
        free_bad n =
            stop marks''
            (λ rest x. true_false (sym (are_words h.nodes group (subst (Words h.nodes) (same rest x) (begins rest x).words)) ∙ sym told ∙ n))

        module _ (some-left : 0 < left) (f : first ≡ true) (n : free ≡ true) where
          abbrev marked : List ℕ
          marked = set marks' (places_held h + group) 1

          added : Added (group_mark h marks') (group_mark h marked) (groups_held h) (λ j. indicator j group)
          added = group-added marks' group l.ready is.0 (unmarked one f)

          more : (rest : List ℕ) → FreeGood h marked (m.first (child_node group 0)) (left - 1) rest → FreeGood h marks' link left (group ∷ rest)
          more rest x =
              let w = words_are h.nodes group (sym told ∙ n) in
              record {
                listed = (is.1, w.0, w.1, x.listed);
                few = omega (arith, x.few);
                once = once-whole added (λ j. count j rest) (λ j. count j (group ∷ rest)) (λ j. refl)
                    (once-one (group_mark h marks') (groups_held h) group (λ j. l.ready.bits (places_held h + j)) is.0 (unmarked one f)) x.once;
              }

          less : (all : List ℕ) → FreeGood h marks' link left all → (rest : List ℕ) × FreeGood h marked (m.first (child_node group 0)) (left - 1) rest
          less all x =
              let y = begins all x in
              let e = same all x in
              let counts : (j : ℕ) → count j all ≡ indicator j group + count j y.others = λ j.
              y.counts j ∙ ap (λ (v : ℕ). indicator j v + count j y.others) e in (
                y.others,
                record {
                  listed = subst (λ (v : ℕ). FreeGroups m (m.first (child_node v 0)) y.others) e y.listed;
                  few = y.few;
                  once = once-rest added (λ j. count j y.others) (λ j. count j all) counts x.once;
                },
              )

          turned : FreeLeft h marks head marked (m.first (child_node group 0)) (left - 1)
          turned =
              record {
                ready = marks-ready marks' group l.ready is.0 (unmarked one f);
                size = length-set marks' (places_held h + group) 1 ∙ l.size;
                back = λ rest x. let q = l.back (group ∷ rest) (more rest x) in (q.0, q.1, λ j c. omega (arith, q.2 j c, added.added j c));
                forth = λ all x. let q = l.forth all x in less q.0 q.1;
                kept = λ j c. places-kept marks' group l.ready is.0 (unmarked one f) j c ∙ l.kept j c;
              }

          pub free-next : {node : Node} {left' : ℕ} → node ≡ node_at h.nodes (child_node group 0) → left' ≡ left - 1
              → FreeLeft h marks head marks'' node.first left'
          free-next e z = rw (z, one.stored) (subst (λ (x : Node). FreeLeft h marks head marked x.first (left - 1)) (sym e) turned)

  -- after the last turn
  pub free-last : left ≡ 0 → FreeScanned h marks head marks' (eqb link 4294967295)
  free-last z =
      by_bool (eqb link 4294967295) (λ e. rw e (free_end (eqb-true link 4294967295 e))) (λ e. rw e (free-short (eqb-false link 4294967295 e) z))
