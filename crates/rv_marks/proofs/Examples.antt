-- Worked examples.
use Rattle.std.proofs.Common.{◌≡◌, true, false, [], ◌∷◌, Some, None, refl}
use Rattle.std.specs.Prelude.{codes}
use Rattle.rv_gate.specs.declared.circuit.Mark.TheVariants.{Input, Zero, One}
use Rattle.rv_marks.specs.Row.{constant_of, garbage_of, row_of_marks}

constants : row_of_marks constant_of 3 (codes "1-0") ≡ Some (One ∷ (Input ∷ (Zero ∷ [])))
constants = refl

garbage : row_of_marks garbage_of 3 (codes "1--") ≡ Some (true ∷ (false ∷ (false ∷ [])))
garbage = refl

zero_is_no_garbage_mark : row_of_marks garbage_of 3 (codes "1-0") ≡ None
zero_is_no_garbage_mark = refl

one_byte_too_few : row_of_marks constant_of 3 (codes "1-") ≡ None
one_byte_too_few = refl
