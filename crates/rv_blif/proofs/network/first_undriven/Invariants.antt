use Rattle.std.proofs.Common.{◌≡◌, drop}
use Rattle.rv_blif.specs.Placing.{first_undriven}
use Rattle.rv_blif.proofs.network.first_undriven.Given as goal

abbrev pub invariant-loop-cover : goal.invariant-loop-cover
invariant-loop-cover l = first_undriven l.driven (drop l.cover-index l.covers) ≡ first_undriven l.driven l.covers
