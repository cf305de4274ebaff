-- Laws of bytes put into a row.
--     put-none, put_byte, put_then, put_is              nothing, a byte, one thing after another, the same bytes by another name
--     put-copied                                        bytes copied from another row
--     put_field_lem, field_ends                             a field, and where it ends at most
--     put-nothing, put-more, field_then, fields_end     one number more of a row, all of them, a field and the others, where they end at most
--     written_all, written                              bytes at a row's front; an answer's line: its letter, its fields, its LF
--     written_fixed                                     what is written fixes every byte of the row
use Rattle.std.specs.Prelude.{◌≡◌, refl, List, [], ◌∷◌, ◌++◌, map, ℕ, ◌+◌, ◌*◌, ◌<◌, ◌≤◌, ℤ, pos, length, take, drop, get_or, set}
use Rattle.std.proofs.Common.{ap, ap₂, sym, subst, ◌∙◌, append_assoc, append-nil, arith, add-one, length-append, length-take, take-append-drop}
use Rattle.std.proofs.Common.{take-suc-set, take-suc, drop-set-lt, drop-drop}
use Rattle.std.proofs.lemmas.Slice.{take-put_mid, drop-put_mid}
use borrow.Rule.Slice.PartMut.{put_mid}
use Rattle.lines.specs.Text.{decimal, fields, answer}
use Rattle.lines.specs.Reading.{Put, Output, output, Written}
use Rattle.lines.proofs.Laws.Digits.{digits-length}
use Rattle.lines.proofs.Laws.Fields.{fields-append}

pub put-none : (row : List ℕ) (at : ℕ) → Put row at [] row at
put-none row at = record { ends = omega arith; holds = sym (append-nil (take at row)); kept = refl }

pub put_byte : (row : List ℕ) (at b : ℕ) → at < length row → Put row at (b ∷ []) (set row at b) (at + 1)
put_byte row at b h = record { ends = refl; holds = rw add-one (take-suc-set row at b h); kept = drop-set-lt (at + 1) row at b (omega arith) }

pub put_then : {row₀ row row' : List ℕ} {at next next' : ℕ} {bs cs : List ℕ} → Put row₀ at bs row next → Put row next cs row' next'
    → Put row₀ at (bs ++ cs) row' next'
put_then {row₀} {row} {row'} {at} {next} {next'} {bs} {cs} p q = record {
  ends = omega (arith, p.ends, q.ends, length-append bs cs);
  holds = q.holds ∙ ap (λ (l : List ℕ). l ++ cs) p.holds ∙ append_assoc (take at row₀) bs cs;
  kept = q.kept ∙ subst (λ (n : ℕ). drop n row ≡ drop n row₀) (sym q.ends) (drop-further (length cs) p.kept);
}
  where
    drop-further : (k : ℕ) → drop next row ≡ drop next row₀ → drop (next + k) row ≡ drop (next + k) row₀
    drop-further k e = sym (drop-drop k next row) ∙ ap (drop k) e ∙ drop-drop k next row₀

pub put_is : {row₀ row : List ℕ} {at next : ℕ} {bs cs : List ℕ} → bs ≡ cs → Put row₀ at bs row next → Put row₀ at cs row next
put_is {row₀} {row} {at} {next} e p = subst (λ (l : List ℕ). Put row₀ at l row next) e p

-- a part of the row is written with the bytes
pub put-copied : {row bytes part : List ℕ} {at end size : ℕ} → end ≡ at + length bytes → end ≤ length row → size ≡ length bytes → part ≡ bytes
    → Put row at bytes (put_mid at size row part) end
put-copied {row} {bytes} {part} {at} {end} {size} e fits same copied =
    let long : length part ≡ length bytes = ap length copied in
    record {
      ends = e;
      holds = take-put_mid at size row part end (omega arith) (omega arith) ∙ ap (λ (l : List ℕ). take at row ++ l) copied;
      kept = drop-put_mid at size row part end (omega arith) (omega arith) (omega arith);
    }

-- ---- fields

pub put_field_lem : {row₀ row row' : List ℕ} {at next next' : ℕ} (n : ℕ) → Put row₀ at (44 ∷ []) row next → Put row next (decimal n) row' next'
    → Put row₀ at (fields (pos n ∷ [])) row' next'
unfolding fields
put_field_lem n p q = put_is (ap (λ (l : List ℕ). 44 ∷ l) (sym (append-nil (decimal n)))) (put_then p q)

fields-length : (ns : List ℕ) → length (fields (map pos ns)) ≤ 11 * length ns
unfolding fields
fields-length [] = omega arith
fields-length (n ∷ ns) = omega (arith, length-append (decimal n) (fields (map pos ns)), digits-length 10 n, fields-length ns)

-- what omega is handed of a field, or of the fields of numbers, that was put
pub field_ends : {row₀ row : List ℕ} {at next : ℕ} (n : ℕ) → Put row₀ at (fields (pos n ∷ [])) row next → next ≤ at + 11
field_ends n p = omega (arith, p.ends, fields-length (n ∷ []))

pub fields_end : {row₀ row : List ℕ} {at next : ℕ} (ns : List ℕ) → Put row₀ at (fields (map pos ns)) row next → next ≤ at + 11 * length ns
fields_end ns p = omega (arith, p.ends, fields-length ns)

-- a field and then the others
pub field_then : {row₀ row row' : List ℕ} {at next next' : ℕ} (z : ℤ) (zs : List ℤ) → Put row₀ at (fields (z ∷ [])) row next
    → Put row next (fields zs) row' next' → Put row₀ at (fields (z ∷ zs)) row' next'
field_then z zs p q = put_is (sym (fields-append (z ∷ []) zs)) (put_then p q)

pub fields-same : {row₀ row ms ns : List ℕ} {at next : ℕ} → ms ≡ ns → Put row₀ at (fields (map pos ms)) row next
    → Put row₀ at (fields (map pos ns)) row next
fields-same e p = put_is (ap (λ (l : List ℕ). fields (map pos l)) e) p

pub put-nothing : (out : List ℕ) (at : ℕ) → Put out at (fields []) out at
unfolding fields
put-nothing out at = put-none out at

map_snoc : (ns : List ℕ) (n : ℕ) → map pos (ns ++ (n ∷ [])) ≡ map pos ns ++ (pos n ∷ [])
map_snoc [] n = refl
map_snoc (m ∷ ns) n = ap (λ (l : List ℤ). pos m ∷ l) (map_snoc ns n)

-- the field of a row's next number
pub put-more : {out₀ out out' : List ℕ} {at next next' : ℕ} (row : List ℕ) (i : ℕ) → i < length row
    → Put out₀ at (fields (map pos (take i row))) out next → Put out next (fields (pos (get_or row i 0) ∷ [])) out' next'
    → Put out₀ at (fields (map pos (take (i + 1) row))) out' next'
put-more row i below p q =
    let one : take i row ++ (get_or row i 0 ∷ []) ≡ take (i + 1) row = rw add-one (sym (take-suc row i 0 below)) in
    let both : fields (map pos (take i row)) ++ fields (pos (get_or row i 0) ∷ []) ≡ fields (map pos (take i row ++ (get_or row i 0 ∷ []))) =
    rw map_snoc (sym (fields-append (map pos (take i row)) (pos (get_or row i 0) ∷ []))) in
    put_is (both ∙ ap (λ (l : List ℕ). fields (map pos l)) one) (put_then p q)

-- ---- answers

-- bytes put at a row's front
pub written_all : {row₀ row bs : List ℕ} {next : ℕ} → Put row₀ 0 bs row next → Written (output row₀ row next) bs
written_all {row = row} {next = next} p = record {
  ends = omega (arith, p.ends);
  within = omega (arith, p.ends, length-take next row, ap length p.holds);
  holds = sym (take-append-drop next row) ∙ ap₂ (λ (front rest : List ℕ). front ++ rest) p.holds p.kept;
}

-- a line from its letter, its fields and its LF
pub written : {out₀ out out' out'' : List ℕ} {first end next : ℕ} (letter : ℕ) (ns : List ℕ) → Put out₀ 0 (letter ∷ []) out first
    → Put out first (fields (map pos ns)) out' end → Put out' end (10 ∷ []) out'' next
    → Written (output out₀ out'' next) (answer letter ns)
unfolding answer
written letter ns p q r = written_all (put_then p (put_then q r))

-- two rows that were one, with the same bytes written
pub written_fixed : (o p : Output) (bytes : List ℕ) → o.before ≡ p.before → Written o bytes → Written p bytes → o ≡ p
written_fixed o p bytes before v w =
    let next : o.next ≡ p.next = v.ends ∙ sym w.ends in
    let after : o.after ≡ p.after = v.holds ∙ ap₂ (λ (n : ℕ) (row : List ℕ). bytes ++ drop n row) next before ∙ sym w.holds in
    λ i. record { before = before i; after = after i; next = next i }
