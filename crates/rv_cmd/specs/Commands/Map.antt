-- `map`: the network of a circuit, with exact amplitudes.
use Rattle.std.specs.Prelude.{◌≡◌, ℕ, List, [], ◌∷◌, length, Ok}
use Rattle.rv_gate.specs.Circuit.{Cascade}
use Rattle.rv_gate.specs.declared.word.TheConstants.{MOST_LINES}
use Rattle.rv_mct.specs.Widened.{decomposed, gate_count, lines_with_helpers}
use Rattle.rv_mct.specs.declared.aux.Aux.{Aux}
use Rattle.rv_near.specs.Near.{MapsNear, near_net, near_ops}
use Rattle.rv_net.specs.Mapping.{Maps}
use Rattle.rv_net.specs.Network.{expanded, operation_count}
use Rattle.rv_net.specs.Op.{Network}
use Rattle.rv_joined.specs.Joined.{MapsJoined}
use Rattle.rv_ladder.specs.Counts.{operations, relative_count}
use Rattle.rv_ladder.specs.Relative.{MapsRelative, relative_net}
use Rattle.rv_expand.specs.Toffoli.{MapsToffoli, toffoli_net, toffoli_ops}
use Rattle.rv_qasm.specs.Reading.{in_register_q, qasm_of}
use Rattle.rv_qasm.specs.Text.{text_of}
use Rattle.rv_words.specs.declared.command.Blocks.{Blocks}
use Rattle.rv_words.specs.declared.command.Blocks.TheVariants.{Exact, Joined, Near, Relative, Toffoli}
use Rattle.rv_inputs.specs.Formats.{circuit}
use Rattle.rv_cmd.specs.Limits.{Limit, LimitedText, of_gates, of_lines, of_ops}
use Rattle.rv_cmd.specs.Row.{ReadsFirst, always, finds, one}

-- The network of a circuit, on its lines and the helper lines of its decomposition: each gate of the decomposed circuit
-- becomes operations of its own; or each gate of the circuit a ladder whose phases cancel; or each of the decomposed
-- circuit one operation; or each of these operations on neighbours, where its lines are a row. Joined blocks are found;
-- by a rule their place is taken by ladders.
abbrev pub mapped : Blocks → Aux → Cascade → Network
mapped Exact aux c = expanded (decomposed aux c)
mapped Relative aux c = relative_net aux c
mapped Toffoli aux c = toffoli_net (decomposed aux c)
mapped Near aux c = near_net (decomposed aux c)
mapped Joined aux c = relative_net aux c

-- the gates of the decomposed circuit, where it is made of them, then its operations
abbrev pub network_limits : Blocks → Aux → Cascade → List Limit
network_limits Exact aux c = of_gates (gate_count aux c) ∷ of_ops (operation_count (decomposed aux c).gates) ∷ []
network_limits Relative aux c = of_ops (relative_count operations aux c) ∷ []
network_limits Toffoli aux c = of_gates (gate_count aux c) ∷ of_ops (length (toffoli_ops (decomposed aux c).gates)) ∷ []
network_limits Near aux c = of_gates (gate_count aux c) ∷ of_ops (length (near_ops (decomposed aux c).gates)) ∷ []
network_limits Joined aux c = of_ops (relative_count operations aux c) ∷ []

-- the lines come first
abbrev pub map_limits : Blocks → Aux → Cascade → List Limit
map_limits blocks aux c = of_lines (lines_with_helpers aux c) MOST_LINES ∷ network_limits blocks aux c

abbrev pub map_report : Blocks → Aux → Cascade → LimitedText
map_report blocks aux c = record { limits = map_limits blocks aux c; text = text_of (mapped blocks aux c) }

abbrev pub MapsBy : Blocks → Aux → Cascade → Network → Type 0
MapsBy Exact aux c net = Maps aux c net
MapsBy Relative aux c net = MapsRelative aux c net
MapsBy Toffoli aux c net = MapsToffoli aux c net
MapsBy Near aux c net = MapsNear aux c net
MapsBy Joined aux c net = MapsJoined aux c net

-- Read back, the text is a network, in one register q, that carries the circuit: with the exact amplitudes of its
-- permutation on the lines and helper lines of the decomposed circuit.
pub record IsMapping (blocks : Blocks) (aux : Aux) (c : Cascade) (text : List ℕ) : Type 0 where
  pub net : Network
  pub is : text ≡ text_of net
  pub read_back : qasm_of text ≡ Ok (in_register_q net)
  pub maps : MapsBy blocks aux c net

-- the network of joined blocks is found
abbrev pub map_row : Blocks → Aux → ReadsFirst
map_row Joined aux = finds circuit (map_limits Joined aux) always (IsMapping Joined aux)
map_row blocks aux = one circuit (map_report blocks aux) (IsMapping blocks aux)
