-- `toreal`: the circuit of the network of an OpenQASM text.
use Rattle.std.specs.Prelude.{◌≡◌, ℕ, ◌+◌, List, [], ◌∷◌, length, Ok}
use Rattle.rv_gate.specs.Gate.{run}
use Rattle.rv_real.specs.Reading.{real_of}
use Rattle.rv_real.specs.Text.{text_of}
use Rattle.rv_net.specs.Denotes.{Denotes}
use Rattle.rv_qasm.specs.Back.{circuit_back, classical_length}
use Rattle.rv_qasm.specs.Reading.{Listing}
use Rattle.rv_net.specs.declared.op.Op.{Op}
use Rattle.rv_faults.specs.declared.fault.InputFault.TheVariants.{NotClassical}
use Rattle.rv_inputs.specs.Formats.{program}
use Rattle.rv_cmd.specs.Limits.{Limit, LimitedText, at_most, of_gates}
use Rattle.rv_cmd.specs.Row.{ReadsFirst, one}

-- Each operation is classical: as many stand before the first that is not as there are. Then they are few enough. By
-- `LimitsInTerms` these limits are kept exactly if `AreClassical`.
abbrev pub toreal_limits : List Op → List Limit
toreal_limits ops =
    at_most 0 (length ops) (classical_length ops) (NotClassical (classical_length ops + 1)) ∷ of_gates (length ops) ∷ []

abbrev pub toreal_report : Listing → LimitedText
toreal_report listing = record { limits = toreal_limits listing.net.ops; text = text_of (circuit_back listing.net) }

-- Read back, the text is a circuit with one gate for each operation, and the network denotes its run: the exact
-- amplitudes are those of its permutation.
pub record IsCircuitOf (listing : Listing) (text : List ℕ) : Type 0 where
  pub read_back : real_of text ≡ Ok (circuit_back listing.net)
  pub counted : length (circuit_back listing.net).gates ≡ length listing.net.ops
  pub denotes : Denotes listing.net.lines listing.net.ops (run (circuit_back listing.net).gates)

abbrev pub toreal_row : ReadsFirst
toreal_row = one program toreal_report IsCircuitOf
