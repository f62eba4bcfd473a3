use Rattle.std.proofs.Common.{◌≡◌, length}
use Rattle.rv_resynth.proofs.inside.Blocks.{ArePut}
use Rattle.rv_resynth.proofs.block.put_in.Given as goal

abbrev pub invariant-loop-bit : goal.invariant-loop-bit
invariant-loop-bit l =
    record { lines : length l.rows ≡ length l.initial.rows; words : ArePut l.lines l.block l.rows l.bit }
