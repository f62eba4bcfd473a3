-- The templates of a library.
use Rattle.std.specs.Prelude.{List, map}
use Rattle.std.specs.Global.{Vec}
use Rattle.rv_gate.specs.declared.gate.Shape.{Shape}

abbrev pub templates_in : List (Vec Shape) → List (List Shape)
templates_in templates = map (λ template. template.items) templates
