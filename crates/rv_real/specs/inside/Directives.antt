-- What the directives of the header gave so far.
use Rattle.std.specs.Prelude.{ℕ, Bool, List, Option, None}
use Rattle.rv_gate.specs.declared.circuit.Mark.{Mark}

pub record Header : Type 0 where
  pub numvars : Option ℕ
  pub names : Option (List (List ℕ))
  pub input_labels : Option (List (List ℕ))
  pub output_labels : Option (List (List ℕ))
  pub constants : Option (List Mark)
  pub garbage : Option (List Bool)

-- a text begins in a header that gave nothing
abbrev pub no_directives : Header
no_directives =
    record { numvars = None; names = None; input_labels = None; output_labels = None; constants = None; garbage = None }
