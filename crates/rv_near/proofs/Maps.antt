-- The network of a decomposed circuit carries the circuit, by operations on neighbours where its gates touch consecutive lines.
use Rattle.std.proofs.Common.{◌≡◌, ◌≤◌, ℕ, length, refl, sym}
use Rattle.rv_gate.specs.Circuit.{Cascade, IsCascade}
use Rattle.rv_gate.specs.declared.word.TheConstants.{MOST_LINES}
use Rattle.rv_mct.specs.Widened.{decomposed, helper_count, lines_with_helpers}
use Rattle.rv_mct.specs.declared.aux.Aux.{Aux}
use Rattle.rv_mct.proofs.Decomposition.{decomposed-lines, decomposes}
use Rattle.rv_net.specs.Denotes.{CarriesExtended}
use Rattle.rv_net.specs.declared.net.TheConstants.{MOST_OPS}
use Rattle.rv_net.proofs.inside.Network.{ArePlain}
use Rattle.rv_near.specs.Near.{MapsNear, near_net, near_ops}
use Rattle.rv_near.proofs.Flips.{carries-near}
use Rattle.rv_near.proofs.inside.Operations.{near-fits, on-neighbours}
use Rattle.rv_near.proofs.Routed.{decomposed-near}

-- the law
pub maps-near : (aux : Aux) (c : Cascade) → IsCascade c → lines_with_helpers aux c ≤ MOST_LINES → IsCascade (decomposed aux c)
    → length (near_ops (decomposed aux c).gates) ≤ MOST_OPS → MapsNear aux c (near_net (decomposed aux c))
unfolding CarriesExtended
maps-near aux c given few valid short =
    let made : Cascade = decomposed aux c in
    let n : ℕ = length made.names in
    let is = decomposes aux c given few in
    let lines : n ≡ lines_with_helpers aux c = decomposed-lines aux c few in
    let plain : ArePlain n made.gates = (valid.valid, valid.fitting, is.plain) in
    record {
      valid = record { some = valid.some; few = valid.names.few; bounded = short; fitting = near-fits n made.gates plain };
      lines = lines;
      is = refl;
      near = on-neighbours n made.gates valid.names.few plain;
      routed = λ routed.
          on-neighbours n made.gates valid.names.few plain
          (decomposed-near aux (length c.names) (helper_count aux c) c.gates routed);
      carries = carries-near n made.gates valid.names.few plain aux (length c.names) (helper_count aux c) c.gates (sym lines) is.extends;
    }
