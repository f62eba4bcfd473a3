-- Laws of what lines give.
use Rattle.std.proofs.Common.{◌≡◌, ℕ, Bool, true, false, List, [], ◌∷◌, ◌++◌, Option, Some, None, refl, sym, ◌∙◌, ap, inl, inr}
use Rattle.std.specs.Option.{option_or}
use Rattle.std.specs.Str.{bytes_eq}
use Rattle.std.proofs.lemmas.Bool.{cases_Bool, true≢false}
use Rattle.std.proofs.lemmas.Slice.Eq.{bytes_eq-Decides}
use Rattle.rv_text.specs.Bytes.{begins_with_dot}
use Rattle.rv_reader.specs.Given.{first_given}

pub option_or-none : {A : Type 0} (a : Option A) → option_or a None ≡ a
option_or-none None = refl
option_or-none (Some x) = refl

pub option_or-after : {A : Type 0} (a b c : Option A) → option_or a (option_or b c) ≡ option_or (option_or a b) c
option_or-after None b c = refl
option_or-after (Some x) b c = refl

pub first_given-more : {L A : Type 0} (value_on : L → Option A) (lines : List L) (line : L)
    → first_given value_on (lines ++ line ∷ []) ≡ option_or (first_given value_on lines) (value_on line)
first_given-more value_on [] line = option_or-none (value_on line)
first_given-more value_on (first ∷ lines) line =
    ap (option_or (value_on first)) (first_given-more value_on lines line)
    ∙ option_or-after (value_on first) (first_given value_on lines) (value_on line)

-- a name is not another one
pub not_both : (bytes name other : List ℕ) → bytes_eq name other ≡ false → bytes_eq bytes name ≡ true
    → bytes_eq bytes other ≡ false
not_both bytes name other apart is = ap (λ b. bytes_eq b other) ((bytes_eq-Decides bytes name).0 is) ∙ apart

-- a word without a dot is no directive
pub no_directive : (bytes name : List ℕ) → begins_with_dot name ≡ true → begins_with_dot bytes ≡ false
    → bytes_eq bytes name ≡ false
no_directive bytes name dot none = elim (cases_Bool (bytes_eq bytes name)) [
  | inl is ↦ absurd (true≢false (sym dot ∙ ap begins_with_dot (sym ((bytes_eq-Decides bytes name).0 is)) ∙ none))
  | inr other ↦ other
]
