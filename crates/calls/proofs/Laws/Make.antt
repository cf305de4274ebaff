-- The three ways through make.
use Rattle.std.specs.Prelude.{◌≡◌, refl, List, Bool, true, false, not, ℕ, ℤ, length}
use Rattle.std.proofs.Common.{sym, ◌∙◌}
use Rattle.std.proofs.lemmas.Bool.{not-true, not-false}
use Rattle.arithmetic.proofs.Laws.Tests.{true_false}
use Rattle.geometry.specs.declared.settings.Settings.{Settings}
use Rattle.geometry.specs.Settings.{in_range}
use Rattle.model.specs.declared.State.{State}
use Rattle.model.specs.Shapes.{fresh}
use Rattle.model.specs.Layout.{world, groups_in, places_in, layout, lengths_right}
use Rattle.model.specs.Calls.{Make, refused, answered}
use Rattle.memory.specs.Lengths.{lengths_fit}
use Rattle.memory.proofs.Laws.Lengths.{lengths-same}

module _ (s : Settings) (nodes dots : List ℕ) (rects : List ℤ) (marks : List ℕ) {fits : Bool}
    (test : fits ≡ lengths_fit (length nodes) (length dots) (length rects) (length marks)) where
  -- the code's test is the definition's
  right : (before : State) → fits ≡ lengths_right (world before nodes dots rects marks)
  right before = test ∙ lengths-same before nodes dots rects marks

  pub make-lengths : not fits ≡ true → (before : State) → Make (world before nodes dots rects marks) s (world before nodes dots rects marks) (refused 1)
  make-lengths n before =
      let wrong = sym (right before) ∙ not-true fits n in
      record { bad_length = λ _. (refl, refl); bad_settings = λ l _. true_false (sym l ∙ wrong); made = λ l _. true_false (sym l ∙ wrong) }

  module _ (l : not fits ≡ false) {accepts : Bool} (range : accepts ≡ in_range s) where
    pub make-settings : not accepts ≡ true → (before : State) → Make (world before nodes dots rects marks) s (world before nodes dots rects marks) (refused 2)
    make-settings n before =
        let lengths = sym (right before) ∙ not-false fits l in
        let out = sym range ∙ not-true accepts n in
        record { bad_length = λ k. true_false (sym lengths ∙ k); bad_settings = λ _ _. (refl, refl); made = λ _ k. true_false (sym k ∙ out) }

    pub make-made : not accepts ≡ false → {state : State} {nodes' dots' : List ℕ} {rects' : List ℤ} {marks' : List ℕ}
        → world state nodes' dots' rects' marks' ≡ layout (fresh s (groups_in (length nodes)) (places_in (length dots)))
        → (before : State) → Make (world before nodes dots rects marks) s (world state nodes' dots' rects' marks') (answered tt)
    make-made n done before =
        let lengths = sym (right before) ∙ not-false fits l in
        let within = sym range ∙ not-false accepts n in
        record { bad_length = λ k. true_false (sym lengths ∙ k); bad_settings = λ _ k. true_false (sym within ∙ k); made = λ _ _. (done, refl) }
