-- `decompose`: a circuit of NOT, CNOT and Toffoli gates that does what a circuit does.
use Rattle.std.specs.Prelude.{◌≡◌, ℕ, List, [], ◌∷◌, Ok}
use Rattle.rv_gate.specs.Circuit.{Cascade}
use Rattle.rv_gate.specs.declared.word.TheConstants.{MOST_LINES}
use Rattle.rv_real.specs.Reading.{real_of}
use Rattle.rv_real.specs.Text.{text_of}
use Rattle.rv_mct.specs.Decomposition.{Decomposes}
use Rattle.rv_mct.specs.Widened.{decomposed, gate_count, lines_with_helpers}
use Rattle.rv_mct.specs.declared.aux.Aux.{Aux}
use Rattle.rv_inputs.specs.Formats.{circuit}
use Rattle.rv_cmd.specs.Limits.{Limit, LimitedText, of_gates, of_lines}
use Rattle.rv_cmd.specs.Row.{ReadsFirst, one}

-- the lines of the decomposed circuit, then its gates
abbrev pub decomposition_limits : Aux → Cascade → List Limit
decomposition_limits aux c = of_lines (lines_with_helpers aux c) MOST_LINES ∷ of_gates (gate_count aux c) ∷ []

abbrev pub decompose_report : Aux → Cascade → LimitedText
decompose_report aux c = record { limits = decomposition_limits aux c; text = text_of (decomposed aux c) }

-- Read back, the text is the decomposed circuit: it does what the circuit does and gives each helper line back, by NOT,
-- CNOT and Toffoli gates alone, as many as the costs say.
pub record IsDecomposition (aux : Aux) (c : Cascade) (text : List ℕ) : Type 0 where
  pub read_back : real_of text ≡ Ok (decomposed aux c)
  pub decomposes : Decomposes aux c (decomposed aux c)

abbrev pub decompose_row : Aux → ReadsFirst
decompose_row aux = one circuit (decompose_report aux) (IsDecomposition aux)
