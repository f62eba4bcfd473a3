-- The network of a decomposed circuit carries the circuit.
use Rattle.std.proofs.Common.{◌≡◌, ◌≤◌, ℕ, length, refl, sym, arith}
use Rattle.rv_gate.specs.Circuit.{Cascade, IsCascade}
use Rattle.rv_gate.specs.declared.word.TheConstants.{MOST_LINES}
use Rattle.rv_mct.specs.Widened.{decomposed, helper_count, lines_with_helpers}
use Rattle.rv_mct.specs.declared.aux.Aux.{Aux}
use Rattle.rv_mct.proofs.Decomposition.{decomposed-lines, decomposes}
use Rattle.rv_net.specs.Denotes.{CarriesExtended}
use Rattle.rv_net.specs.Mapping.{Maps}
use Rattle.rv_net.specs.Network.{expanded, network_of, operation_count}
use Rattle.rv_net.specs.declared.net.TheConstants.{MOST_OPS}
use Rattle.rv_net.proofs.Counting.{length-network, network_fits}
use Rattle.rv_net.proofs.inside.Network.{ArePlain, carries-network}

-- the law
pub maps : (aux : Aux) (c : Cascade) → IsCascade c → lines_with_helpers aux c ≤ MOST_LINES → IsCascade (decomposed aux c)
    → operation_count (decomposed aux c).gates ≤ MOST_OPS → Maps aux c (expanded (decomposed aux c))
unfolding CarriesExtended
maps aux c given few valid short =
    let made : Cascade = decomposed aux c in
    let n : ℕ = length made.names in
    let is = decomposes aux c given few in
    let lines : n ≡ lines_with_helpers aux c = decomposed-lines aux c few in
    let plain : ArePlain n made.gates = (valid.valid, valid.fitting, is.plain) in
    let counted : length (network_of made.gates) ≡ operation_count made.gates = length-network n made.gates plain in
    let carries : CarriesExtended n (network_of made.gates) made.gates = carries-network n made.gates valid.names.few plain in record {
      valid = record { some = valid.some; few = valid.names.few; bounded = omega (arith, counted, short); fitting = network_fits n made.gates plain };
      lines = lines;
      ops = refl;
      counted = counted;
      carries = carries aux (length c.names) (helper_count aux c) c.gates (sym lines) is.extends;
    }
