use Rattle.std.proofs.Common.{◌≡◌, ◌-◌, ◌++◌, take}
use Rattle.rv_dbs.specs.Singles.{flips_of}
use Rattle.rv_dbs.proofs.flips.push_flips.Given as goal

abbrev pub invariant-loop-cube : goal.invariant-loop-cube
invariant-loop-cube l = l.gates.items ≡ l.initial.gates.items ++ flips_of (l.lines - 1 - l.k) (take l.cube-index l.cube-items)
