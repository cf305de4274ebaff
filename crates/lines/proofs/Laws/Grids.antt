-- Laws of the line of a grid.
--     grid_none, grid_last     with fields unread, the line is no grid's; a grid whose fields were read
--     grid_of, grid_back        the grid of its numbers
--     grid_text-one            no text is the text of two grids
--     grid_line_one            so a line says one thing
--     grid_not_call            no text is a grid's and a call's
--     grid_unreadable          so a grid's line is unreadable as a call's
use Rattle.std.specs.Prelude.{◌≡◌, refl, List, [], ◌∷◌, ◌++◌, Bool, Option, Some, None, ℕ, ◌≤◌, ℤ, pos, eqb, length, get_or}
use Rattle.std.specs.Bool.{then_some}
use Rattle.std.proofs.Common.{ap, sym, subst, ◌∙◌, arith, eqb-true}
use Rattle.std.proofs.lemmas.Bool.{eqb-false}
use Rattle.arithmetic.proofs.Laws.Tests.{by_bool}
use Rattle.grid.specs.declared.grid.Grid.{Grid}
use Rattle.lines.specs.Text.{Kind, i32, WithinAll, fields}
use Rattle.lines.specs.Reading.{Reads}
use Rattle.lines.specs.Lines.{letter, values, text, four, LineOf}
use Rattle.lines.specs.Grids.{grid_kinds, grid_values, grid_text, GridFits, GridLineOf}
use Rattle.lines.proofs.Laws.Digits.{same-tail, same_head}
use Rattle.lines.proofs.Laws.Fields.{reads_then, reads_less, all-read, unread, overlong}
use Rattle.lines.proofs.Laws.Texts.{fields-one}
use Rattle.lines.specs.declared.line.Call.{Call}
use Rattle.lines.specs.declared.line.Call.TheVariants.{Settings, Insert, InsertInk, Remove, Cleanup, Query}

-- ---- reading

module _ {bytes rest : List ℕ} (few : length bytes ≤ 80) (b : bytes ≡ 71 ∷ rest) where
  -- the numbers' fields of a grid
  after-letter : (g : Grid) → grid_text g ≡ bytes → fields (grid_values g) ≡ rest
  after-letter g e = same-tail 71 71 (fields (grid_values g)) rest (e ∙ b)

  pub grid_none : {ks : List Kind} (ls : List Kind) {rest' : List ℕ} → grid_kinds ≡ ks ++ ls → Reads ks rest None rest' → GridLineOf bytes None
  grid_none ls {rest'} same p = λ few g fits e.
      unread {rest = rest'} (reads_less ls p) (grid_values g) (subst (λ (ks : List Kind). WithinAll ks (grid_values g)) same fits) (after-letter g e)

  -- four integers and two, each as it is read back from its bits
  pub grid_last : {g : Grid} {r₁ r₂ r₃ : List ℕ} {j k l m n o : ℤ} {last : Bool} {r : Option Grid} → r ≡ then_some last g → last ≡ eqb (length r₃) 0
      → Reads four rest (Some (j ∷ k ∷ l ∷ m ∷ [])) r₁ → Reads (i32 ∷ []) r₁ (Some (n ∷ [])) r₂ → Reads (i32 ∷ []) r₂ (Some (o ∷ [])) r₃
      → g.x ≡ j → g.y ≡ k → g.width ≡ l → g.height ≡ m → g.columns ≡ n → g.rows ≡ o → GridLineOf bytes r
  grid_last {g} {r₃ = r₃} is e first columns rows ej ek el em en eo =
      let p : Reads grid_kinds rest (Some (grid_values g)) r₃ = rw (ej, ek, el, em, en, eo) (reads_then first (reads_then columns rows)) in
      by_bool (eqb (length r₃) 0)
      (λ t. let s = all-read p (eqb-true (length r₃) 0 t) in rw (is, e, t) (few, s.0, ap (λ (l : List ℕ). 71 ∷ l) s.1 ∙ sym b))
      (λ f. rw (is, e, f) (λ few h fits e. overlong p (eqb-false (length r₃) 0 f) (grid_values h) fits (after-letter h e)))

-- ---- no text is the text of two

abbrev at : List ℤ → ℕ → ℤ
at zs i = get_or zs i (pos 0)

abbrev pub grid_of : List ℤ → Grid
grid_of zs = record { x = at zs 0; y = at zs 1; width = at zs 2; height = at zs 3; columns = at zs 4; rows = at zs 5 }

pub grid_back : (g : Grid) → grid_of (grid_values g) ≡ g
grid_back g = refl

pub grid_text-one : (g h : Grid) → GridFits g → GridFits h → grid_text g ≡ grid_text h → g ≡ h
grid_text-one g h p q e =
    let numbers = fields-one grid_kinds grid_kinds (grid_values g) (grid_values h) p q (same-tail 71 71 _ _ e) in
    sym (grid_back g) ∙ ap grid_of numbers ∙ grid_back h

pub grid_line_one : (bytes : List ℕ) (l m : Option Grid) → GridLineOf bytes l → GridLineOf bytes m → l ≡ m
grid_line_one bytes (Some g) (Some h) p q = ap Some (grid_text-one g h p.1 q.1 (p.2 ∙ sym q.2))
grid_line_one bytes (Some g) None p q = absurd (q p.0 g p.1 p.2)
grid_line_one bytes None (Some h) p q = absurd (p q.0 h q.1 q.2)
grid_line_one bytes None None p q = refl

-- ---- a grid's line is no call's

-- no letter of a call is G
not_g_lem : (c : Call) → 71 ≡ letter c → ⊥
not_g_lem (Settings s) e = omega arith
not_g_lem (Insert id r) e = omega arith
not_g_lem (InsertInk d) e = omega arith
not_g_lem (Remove id r) e = omega arith
not_g_lem Cleanup e = omega arith
not_g_lem (Query r) e = omega arith

pub grid_not_call : (g : Grid) (c : Call) → grid_text g ≡ text c → ⊥
grid_not_call g c e = not_g_lem c (same_head 71 (letter c) (fields (grid_values g)) (fields (values c)) e)

pub grid_unreadable : (g : Grid) (bytes : List ℕ) → grid_text g ≡ bytes → LineOf bytes None
grid_unreadable g bytes e = λ few c fits t. grid_not_call g c (e ∙ sym t)
