-- What `join` answers.
use Rattle.std.specs.Prelude.{List, [], ◌∷◌, Option, Some, None}
use Rattle.rv_gate.specs.declared.gate.Shape.{Shape}
use Rattle.rv_templ.specs.declared.joining.Joined.{Joined}
use Rattle.rv_templ.specs.declared.joining.Joined.TheVariants.{Apart, Both, One}

abbrev pub option_of : Joined → Option (List Shape)
option_of Apart = None
option_of Both = Some []
option_of (One g) = Some (g ∷ [])
