use Rattle.std.proofs.Common.{◌≡◌, ◌++◌, length, map, take, drop, All}
use Rattle.rv_gate.specs.Gate.{run}
use Rattle.rv_many.proofs.words.run_each.Given as goal

abbrev pub invariant-loop-word : goal.invariant-loop-word
invariant-loop-word l = record {
  lines : All (λ word. length word ≡ length l.circuit.names) l.words;
  words : l.words ≡ map (run l.circuit.gates) (take l.word-index l.initial.words) ++ drop l.word-index l.initial.words;
}
