-- The directives that the fields of a header hold.
use Rattle.std.specs.Prelude.{◌≡◌, ℕ, ◌≤◌, List, length, Option, Some, All, IfSome}
use Rattle.std.specs.Option.{option_map}
use Rattle.rv_gate.specs.declared.word.TheConstants.{MOST_LINES}
use Rattle.rv_gate.specs.Circuit.{IsLabel}
use Rattle.rv_gate.specs.inside.CircuitView.{labels_in}
use Rattle.rv_real.specs.declared.header.Header.TheInside.{Inside}
use Rattle.rv_real.specs.inside.Directives.{Header}

abbrev pub directives_in : Inside → Header
directives_in h =
    record {
      numvars = h.numvars;
      names = h.names;
      input_labels = option_map labels_in h.input_labels;
      output_labels = option_map labels_in h.output_labels;
      constants = option_map (λ row. row.items) h.constants;
      garbage = option_map (λ row. row.items) h.garbage;
    }

-- labels for each of the lines
abbrev pub AreGivenLabels : Option ℕ → List (List ℕ) → Type 0
AreGivenLabels lines labels = (lines ≡ Some (length labels)) × All IsLabel labels

-- what every header keeps: all that was given has an entry for each line
pub record IsHeader (h : Header) : Type 0 where
  pub numvars : IfSome h.numvars (λ lines. (1 ≤ lines) × (lines ≤ MOST_LINES))
  pub names : IfSome h.names (λ names. h.numvars ≡ Some (length names))
  pub input_labels : IfSome h.input_labels (AreGivenLabels h.numvars)
  pub output_labels : IfSome h.output_labels (AreGivenLabels h.numvars)
  pub constants : IfSome h.constants (λ row. h.numvars ≡ Some (length row))
  pub garbage : IfSome h.garbage (λ row. h.numvars ≡ Some (length row))
