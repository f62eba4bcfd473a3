-- What a header keeps when a directive gives more.
use Rattle.std.proofs.Common.{◌≡◌, ℕ, ◌≤◌, false, Option, Some, None, is_some, ap}
use Rattle.std.specs.Prelude.{IfSome}
use Rattle.rv_real.specs.inside.Directives.{Header}
use Rattle.rv_real.specs.inside.Kept.{IsHeader, AreGivenLabels}

-- nothing was given that needs the number of lines
vacuous : {A : Type 0} (o : Option A) (P Q : A → Type 0) → ((x : A) → P x → ⊥) → IfSome o P → IfSome o Q
vacuous None P Q never h = h
vacuous (Some x) P Q never h = absurd (never x h)

not_given : (o : Option ℕ) (n : ℕ) → is_some o ≡ false → o ≡ Some n → ⊥
not_given o n h e = let t = ap is_some e in absurd cc

pub IsHeader-numvars : (h : Header) (lines : ℕ) → IsHeader h → is_some h.numvars ≡ false → 1 ≤ lines → lines ≤ 64 → IsHeader (record h { numvars = Some lines })
IsHeader-numvars h lines kept none some few = record {
  numvars = (some, few);
  names = vacuous h.names _ _ (λ names e. not_given h.numvars _ none e) kept.names;
  input_labels = vacuous h.input_labels (AreGivenLabels h.numvars) (AreGivenLabels (Some lines)) (λ labels e. not_given h.numvars _ none e.0) kept.input_labels;
  output_labels = vacuous h.output_labels (AreGivenLabels h.numvars) (AreGivenLabels (Some lines)) (λ labels e. not_given h.numvars _ none e.0) kept.output_labels;
  constants = vacuous h.constants _ _ (λ row e. not_given h.numvars _ none e) kept.constants;
  garbage = vacuous h.garbage _ _ (λ row e. not_given h.numvars _ none e) kept.garbage;
}
