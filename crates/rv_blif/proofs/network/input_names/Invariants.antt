use Rattle.std.proofs.Common.{◌≡◌, map, take}
use Rattle.rv_blif.specs.Netlist.{name_at}
use Rattle.rv_blif.proofs.network.input_names.Given as goal

abbrev pub invariant-loop-input : goal.invariant-loop-input
invariant-loop-input l = map (λ name. name.items) l.own.items ≡ map (name_at l.names) (take l.input-index l.inputs)
