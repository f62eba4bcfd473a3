use Rattle.rv_compute.proofs.inside.Signals.{IsReadBy}
use Rattle.rv_compute.proofs.held.place_of.Given as goal

abbrev pub invariant-loop : goal.invariant-loop
invariant-loop l = IsReadBy l.logic l.signal l.at l.on
