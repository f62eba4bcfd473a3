use Rattle.std.proofs.Common.{◌≡◌, drop}
use Rattle.std.specs.Prelude.{bit_xor}
use Rattle.rv_gate.specs.Word.{word_of}
use Rattle.rv_cube.specs.Esop.{esop_value}
use Rattle.rv_cube.proofs.value.esop_value.Given as goal

abbrev pub invariant-loop-cube : goal.invariant-loop-cube
invariant-loop-cube l =
    bit_xor l.outs (esop_value (drop l.cube-index l.cubes) (word_of l.inputs l.number)) ≡ esop_value l.cubes (word_of l.inputs l.number)
