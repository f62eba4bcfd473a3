use Rattle.std.proofs.Common.{◌≡◌, ◌≤◌, ◌+◌, ◌-◌, length, drop}
use Rattle.rv_blif.specs.declared.logic.TheConstants.{MOST_SIGNALS}
use Rattle.rv_blif.specs.Placing.{with_covers}
use Rattle.rv_blif.proofs.placing.Placing.add_all.Given as goal

abbrev pub invariant-loop-k : goal.invariant-loop-k
invariant-loop-k l = record {
  value : with_covers l.covers l.self (drop l.k-index l.numbers) ≡ with_covers l.covers l.initial.self l.numbers;
  room : l.self.inputs + length l.self.nodes + length l.self.left + (length l.numbers - l.k-index) ≤ MOST_SIGNALS;
  inputs : l.self.inputs ≡ l.initial.self.inputs;
}
