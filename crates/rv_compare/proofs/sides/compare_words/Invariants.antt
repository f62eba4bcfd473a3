use Rattle.rv_gate.specs.Word.{word_of}
use Rattle.rv_compare.specs.Compare.{asked, size_of}
use Rattle.rv_compare.proofs.inside.Least.{HoldsTo}
use Rattle.rv_compare.proofs.sides.compare_words.Given as goal

abbrev pub invariant-loop-block : goal.invariant-loop-block
invariant-loop-block g l = HoldsTo l.words (λ k. g.T.Other.Agrees l.all l.other l.circuit (word_of (size_of (asked l.all l.circuit)).inputs k)) l.block
