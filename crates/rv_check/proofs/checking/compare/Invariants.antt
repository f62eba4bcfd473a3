use Rattle.std.proofs.Common.{◌≡◌, ◌<◌, ℕ}
use Rattle.std.specs.Prelude.{None}
use Rattle.rv_gate.specs.FirstAnswer.{first}
use Rattle.rv_check.specs.Check.{difference_at, large_at}
use Rattle.rv_check.specs.inside.View.{HasRoom}
use Rattle.rv_check.proofs.checking.compare.Given as goal

abbrev pub invariant-loop-number : goal.invariant-loop-number
invariant-loop-number l = record {
  room : HasRoom l.net.lines l.kept;
  large : (k : ℕ) → k < l.number → large_at l.net k ≡ None;
  difference : l.difference ≡ first (difference_at l.circuit.gates l.net) 0 l.number;
}
