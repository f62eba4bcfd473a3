-- The mark of a byte that a mark is written as is that mark.
use Rattle.std.specs.Prelude.{◌≡◌, Bool, true, false, Some, refl}
use Rattle.rv_gate.specs.declared.circuit.Mark.{Mark}
use Rattle.rv_gate.specs.declared.circuit.Mark.TheVariants.{Input, Zero, One}
use Rattle.rv_marks.specs.Row.{constant_of, constant_byte, garbage_of, garbage_byte}

pub constant_of-constant_byte : (mark : Mark) → constant_of (constant_byte mark) ≡ Some mark
constant_of-constant_byte Input = refl
constant_of-constant_byte Zero = refl
constant_of-constant_byte One = refl

pub garbage_of-garbage_byte : (mark : Bool) → garbage_of (garbage_byte mark) ≡ Some mark
garbage_of-garbage_byte true = refl
garbage_of-garbage_byte false = refl
