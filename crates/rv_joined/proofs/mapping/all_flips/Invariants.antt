use Rattle.std.proofs.Common.{◌≡◌, take}
use Rattle.std.specs.List.{flat_map}
use Rattle.rv_mct.specs.Blocks.{flips_of}
use Rattle.rv_joined.proofs.mapping.all_flips.Given as goal

abbrev pub invariant-loop-gate : goal.invariant-loop-gate
invariant-loop-gate l = l.flips.items ≡ flat_map flips_of (take l.gate-index l.gates)
