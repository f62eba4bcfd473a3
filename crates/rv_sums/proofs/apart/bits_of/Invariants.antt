use Rattle.std.proofs.Common.{◌≡◌, take}
use Rattle.rv_sums.proofs.apart.bits_of.Given as goal

abbrev pub invariant-loop-line : goal.invariant-loop-line
invariant-loop-line l = l.bits.items ≡ take l.line l.word
