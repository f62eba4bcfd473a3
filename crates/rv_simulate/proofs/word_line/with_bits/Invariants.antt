use Rattle.std.proofs.Common.{◌-◌}
use Rattle.rv_simulate.proofs.inside.Taking.{Taking}
use Rattle.rv_simulate.proofs.word_line.with_bits.Given as goal

abbrev pub invariant-loop-octet : goal.invariant-loop-octet
invariant-loop-octet l = Taking l.initial.number l.count l.bytes l.most l.taken l.number

abbrev pub decreases-loop-octet : goal.decreases-loop-octet
decreases-loop-octet l = l.most - l.taken

abbrev pub invariant-loop-taken : goal.invariant-loop-taken
invariant-loop-taken l = Taking l.fn.number l.count l.bytes l.most l.taken l.number

abbrev pub decreases-loop-taken : goal.decreases-loop-taken
decreases-loop-taken l = l.most - l.taken
