-- What stands on the lines where a word is put in.
use Rattle.std.specs.Prelude.{Bool, true, false}
use Rattle.rv_gate.specs.declared.circuit.Mark.{Mark}
use Rattle.rv_gate.specs.declared.circuit.Mark.TheVariants.{Input, Zero, One}

-- the bit of a line, where this bit of the word is put in
abbrev pub put_bit : Mark → Bool → Bool
put_bit Input bit = bit
put_bit Zero bit = false
put_bit One bit = true
