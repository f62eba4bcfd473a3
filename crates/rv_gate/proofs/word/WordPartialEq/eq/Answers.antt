use Rattle.std.proofs.Common.{arith}
use Rattle.rv_gate.proofs.inside.WordLemmas.{words}
use Rattle.rv_gate.proofs.word.WordPartialEq.eq.Goals as goal

pub returns : goal.returns
returns c = grind (arith, words)
