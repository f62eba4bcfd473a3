-- From a permutation to a network: the steps of other layers, one after the other.
use Rattle.std.specs.Prelude.{Bool, true, false, nat_lt, if◌then◌else◌, Result, Ok, Err}
use Rattle.rv_gate.specs.Circuit.{Cascade}
use Rattle.rv_gate.specs.declared.circuit.TheConstants.{MOST_GATES}
use Rattle.rv_perm.specs.Marked.{Marked}
use Rattle.rv_tbs.specs.Synthesis.{synthesis_of}
use Rattle.rv_dbs.specs.Singles.{single_synthesis_of}
use Rattle.rv_templ.specs.BuiltIn.{built_in}
use Rattle.rv_templ.specs.Simplified.{simplified}
use Rattle.rv_mct.specs.Widened.{decomposed, gate_count}
use Rattle.rv_mct.specs.declared.aux.Aux.{Aux}
use Rattle.rv_net.specs.Network.{expanded, operation_count}
use Rattle.rv_net.specs.Op.{Network}
use Rattle.rv_net.specs.declared.net.TheConstants.{MOST_OPS}
use Rattle.rv_flow.specs.declared.flowing.FlowFault.{FlowFault}
use Rattle.rv_flow.specs.declared.flowing.FlowFault.TheVariants.{Gates, Ops}
use Rattle.rv_flow.specs.declared.synthesis.Synthesis.{Synthesis}
use Rattle.rv_flow.specs.declared.synthesis.Synthesis.TheVariants.{Rows, SingleTargets}

-- the circuit of a permutation by each synthesis
abbrev pub synthesized : Synthesis → Marked → Cascade
synthesized (Rows method) spec = synthesis_of method spec
synthesized SingleTargets spec = single_synthesis_of spec

-- a circuit, simplified by the built-in templates where that is wished
abbrev pub simplified_if : Bool → Cascade → Cascade
simplified_if false c = c
simplified_if true c = record c { gates = simplified built_in c.gates }

-- that circuit, or what is left of it when it is simplified
abbrev pub circuit_for : Synthesis → Bool → Marked → Cascade
circuit_for synthesis simplify spec = simplified_if simplify (synthesized synthesis spec)

-- the network of a circuit's decomposition, or why there is none: too many gates come before too many operations
abbrev pub network_by : Aux → Cascade → Result Network FlowFault
network_by aux c =
    if nat_lt MOST_GATES (gate_count aux c) then Err (Gates (gate_count aux c))
    else (if nat_lt MOST_OPS (operation_count (decomposed aux c).gates)
    then Err (Ops (operation_count (decomposed aux c).gates))
    else Ok (expanded (decomposed aux c)))

-- the network of a permutation
abbrev pub flow_of : Synthesis → Bool → Aux → Marked → Result Network FlowFault
flow_of synthesis simplify aux spec = network_by aux (circuit_for synthesis simplify spec)
