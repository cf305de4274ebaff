-- Laws of the batch: the fold of the single operations.
--     batch-words  an answer word for each record
--     batch-append a batch of two lists is the first, then the second
--     record-valid, batch-valid    it keeps the tree
--     record-settings      it keeps the settings
--     insert-record, remove-record, cleanup-record, other_record   a record is its single operation
use Rattle.std.specs.Prelude.{◌≡◌, List, [], ◌∷◌, ◌++◌, Bool, true, false, ℕ, suc, length, ltb}
use Rattle.std.proofs.Math.Path.{refl}
use Rattle.std.proofs.Common.{ap, sym, subst, ⊎_elim}
use borrow.Author.Tests.{ne_eqb}
use Rattle.arithmetic.proofs.Laws.Tests.{by_bool}
use Rattle.model.specs.declared.Dot.{Dot}
use Rattle.model.specs.declared.Record.{Record}
use Rattle.model.specs.declared.Kind.TheVariants as kind
use Rattle.model.specs.Kinds.{kind_of}
use Rattle.model.specs.Shapes.{Shape, Valid, found_by, inserted, removed, cleaned, cleans}
use Rattle.model.specs.Calls.{largest_count, yes_or_no, recorded, refused_word, yes_no, insert_rule, remove_rule, cleanup_rule, carry_out}
use Rattle.model.specs.Calls.{carry_out_as, batch_shape, batch_words}
use Rattle.model.proofs.Laws.Shapes.{inserted-valid, removed-valid, cleaned-valid}
use Rattle.model.proofs.Laws.Calls.{Goes, insert_cases}

pub batch-words : (rs : List Record) (x : Shape) → length (batch_words rs x) ≡ length rs
batch-words [] x = refl
batch-words (r ∷ rs) x = ap suc (batch-words rs (carry_out r x).shape)

pub batch-append : (rs ss : List Record) (x : Shape)
    → (batch_shape (rs ++ ss) x ≡ batch_shape ss (batch_shape rs x)) × (batch_words (rs ++ ss) x ≡ batch_words rs x ++ batch_words ss (batch_shape rs x))
batch-append [] ss x = (refl, refl)
batch-append (r ∷ rs) ss x =
    let rest = batch-append rs ss (carry_out r x).shape in
    (rest.0, ap (λ (words : List ℕ). (carry_out r x).word ∷ words) rest.1)

-- ---- each kind

module _ (r : Record) (x : Shape) where
  pub insert-record : r.kind ≡ 0 → carry_out r x ≡ recorded (λ splits. splits) x (insert_rule r.dot x)
  unfolding carry_out
  insert-record e = rw e refl

  pub remove-record : r.kind ≡ 1 → carry_out r x ≡ recorded yes_no x (remove_rule r.dot.id r.dot.rect x)
  unfolding carry_out
  remove-record e = rw e refl

  pub cleanup-record : r.kind ≡ 2 → carry_out r x ≡ recorded yes_no x (cleanup_rule x)
  unfolding carry_out
  cleanup-record e = rw e refl

  pub other_record : ¬ (r.kind ≡ 0) → ¬ (r.kind ≡ 1) → ¬ (r.kind ≡ 2) → carry_out r x ≡ record { shape = x; word = refused_word 9 }
  unfolding carry_out
  other_record a b c = rw (ne_eqb r.kind 0 a, ne_eqb r.kind 1 b, ne_eqb r.kind 2 c) refl

-- ---- what each single operation keeps, a record keeps

module _ (P : Shape → Type 0) (x : Shape) (p : P x) where
  insert_keeps : (dot : Dot) → Valid x → (Goes dot x → P (inserted dot x)) → P (recorded (λ splits. splits) x (insert_rule dot x)).shape
  insert_keeps dot v after =
      ⊎_elim
      (λ k. subst (λ u. P (recorded (λ (n : ℕ). n) x u).shape) (sym k.1) p)
      (λ g. subst (λ u. P (recorded (λ (n : ℕ). n) x u).shape) (sym g.1) (after g.0))
      (insert_cases dot x v)

  says_keeps : (yes? : Bool) (other : Shape) → (yes? ≡ true → P other) → P (recorded yes_no x (yes_or_no yes? other x)).shape
  says_keeps true other after = by_bool (ltb largest_count other.changes) (λ e. rw e p) (λ e. rw e (after refl))
  says_keeps false other after = p

  record_keeps : (r : Record) → Valid x → (Goes r.dot x → P (inserted r.dot x))
      → (found_by r.dot.id r.dot.rect x ≡ true → P (removed r.dot.id r.dot.rect x)) → P (cleaned x) → P (carry_out r x).shape
  unfolding carry_out remove_rule cleanup_rule
  record_keeps r v put taken clean =
      elim (kind_of r.kind) as (λ k. P (carry_out_as k r.dot x).shape) [
        | kind.Insert ↦ insert_keeps r.dot v put
        | kind.Remove ↦ says_keeps (found_by r.dot.id r.dot.rect x) (removed r.dot.id r.dot.rect x) taken
        | kind.Cleanup ↦ says_keeps (cleans x) (cleaned x) (λ t. clean)
        | kind.Unknown ↦ p
      ]

pub record-valid : (r : Record) (x : Shape) → Valid x → Valid (carry_out r x).shape
record-valid r x v =
    record_keeps Valid x v r v (λ g. inserted-valid r.dot x v g.0 g.1 g.2) (removed-valid r.dot.id r.dot.rect x v) (cleaned-valid x v)

-- a record keeps the settings
pub record-settings : (r : Record) (x : Shape) → Valid x → (carry_out r x).shape.settings ≡ x.settings
unfolding inserted removed cleaned
record-settings r x v = record_keeps (λ y. y.settings ≡ x.settings) x refl r v (λ g. refl) (λ e. refl) refl

pub batch-valid : (rs : List Record) (x : Shape) → Valid x → Valid (batch_shape rs x)
batch-valid [] x v = v
batch-valid (r ∷ rs) x v = batch-valid rs (carry_out r x).shape (record-valid r x v)
