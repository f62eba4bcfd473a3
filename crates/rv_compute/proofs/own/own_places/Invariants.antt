use Rattle.std.proofs.Common.{◌≡◌, take}
use Rattle.rv_compute.specs.inside.Own.{own_places}
use Rattle.rv_compute.proofs.own.own_places.Given as goal

abbrev pub invariant-loop-signal : goal.invariant-loop-signal
invariant-loop-signal l = l.places.items ≡ own_places l.logic (take l.signal-index l.signals)
