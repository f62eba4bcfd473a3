-- The short texts of operands, one line more.
use Rattle.std.proofs.Common.{arith}
use Rattle.std.proofs.Common.{◌≡◌, ℕ, ◌<◌, Bool, List, ◌∷◌, length, set, get_or-set_same, get_or-set_other, get_or, replicate, subst, sym, Option, None, IfSome, MatchOption, inl, inr}
use Rattle.std.proofs.lemmas.Bool.{cases_eq}
use Rattle.std.proofs.lemmas.List.{get_or-replicate}
use Rattle.rv_io.specs.declared.short_text.ShortText.{ShortText}
use Rattle.rv_io.specs.Writer.{short_bytes}
use Rattle.rv_real.specs.Text.{control_word, name_at}
use Rattle.rv_real.specs.inside.Texts.{AreTextsOf}

pub one_more : (names : List (List ℕ)) (wanted : Bool) (texts : List (Option ShortText)) (line : ℕ) (text : Option ShortText) → line < length texts
    → AreTextsOf names wanted texts → IfSome text (λ t. short_bytes t ≡ 32 ∷ control_word (name_at names line) wanted) → AreTextsOf names wanted (set texts line text)
one_more names wanted texts line text inside are is = λ k below. elim (cases_eq k line) [
  | inl here ↦ rw (here, get_or-set_same texts line text None inside) is
  | inr other ↦ rw (get_or-set_other texts line k text None other) (are k below)
]

-- no text
pub none_yet : (names : List (List ℕ)) (wanted : Bool) → AreTextsOf names wanted (replicate 64 None)
none_yet names wanted = λ k below.
    let nothing : get_or {A = Option ShortText} (replicate 64 None) k None ≡ None = get_or-replicate 64 k None None below in
    subst (λ text. IfSome text (λ t. short_bytes t ≡ 32 ∷ control_word (name_at names k) wanted)) (sym nothing) tt

-- a text that was joined, in other words
pub joined_is : (text : Option ShortText) (too_long : Type 0) (bytes same : List ℕ) → MatchOption text too_long (λ t. short_bytes t ≡ bytes) → bytes ≡ same
    → IfSome text (λ t. short_bytes t ≡ same)
joined_is text too_long bytes same h h1 = grind arith
