-- The short texts of operands.
use Rattle.std.specs.Prelude.{◌≡◌, ℕ, ◌<◌, Bool, true, false, List, ◌∷◌, length, slice_index_or, Option, None, IfSome}
use Rattle.rv_io.specs.declared.short_text.ShortText.{ShortText}
use Rattle.rv_io.specs.Writer.{short_bytes}
use Rattle.rv_real.specs.declared.texts.Texts.{Texts}
use Rattle.rv_real.specs.Text.{control_word, name_at}

-- a text that is there is that of its line
abbrev pub AreTextsOf : List (List ℕ) → Bool → List (Option ShortText) → Type 0
AreTextsOf names wanted texts =
    (line : ℕ) → line < 64
    → IfSome (slice_index_or texts line None)
    (λ text. short_bytes text ≡ 32 ∷ control_word (name_at names line) wanted)

pub record AreTexts (names : List (List ℕ)) (texts : Texts) : Type 0 where
  pub plain_sized : length texts.plain ≡ 64
  pub negated_sized : length texts.negated ≡ 64
  pub plain : AreTextsOf names true texts.plain
  pub negated : AreTextsOf names false texts.negated
