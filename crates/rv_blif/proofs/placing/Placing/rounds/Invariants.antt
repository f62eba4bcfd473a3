use Rattle.std.proofs.Common.{◌≡◌, ◌≤◌, ◌+◌, ◌-◌, length}
use Rattle.rv_blif.specs.declared.logic.TheConstants.{MOST_SIGNALS}
use Rattle.rv_blif.specs.Placing.{rounds}
use Rattle.rv_blif.proofs.placing.Placing.rounds.Given as goal

abbrev pub invariant-loop-count : goal.invariant-loop-count
invariant-loop-count l = record {
  value : rounds (l.most - l.count) l.covers l.self ≡ rounds l.most l.covers l.initial.self;
  room : l.self.inputs + length l.self.nodes + length l.self.left ≤ MOST_SIGNALS;
  inputs : l.self.inputs ≡ l.initial.self.inputs;
}
