-- `route`: a circuit whose gates touch neighbouring lines alone, which does what a circuit does.
use Rattle.std.specs.Prelude.{◌≡◌, ℕ, Bool, List, [], ◌∷◌, length, All, Ok}
use Rattle.rv_gate.specs.Circuit.{Cascade}
use Rattle.rv_gate.specs.Gate.{run}
use Rattle.rv_real.specs.Reading.{real_of}
use Rattle.rv_real.specs.Text.{text_of}
use Rattle.rv_route.specs.Placement.{IsNear}
use Rattle.rv_route.specs.Routed.{routed}
use Rattle.rv_inputs.specs.Formats.{circuit}
use Rattle.rv_cmd.specs.Limits.{LimitedText, of_gates}
use Rattle.rv_cmd.specs.Row.{ReadsFirst, one}

abbrev pub route_report : Cascade → LimitedText
route_report c = record { limits = of_gates (length (routed c).gates) ∷ []; text = text_of (routed c) }

-- Read back, the text is the routed circuit, with the names, labels and marks of the given one: it does the same to
-- every word, and each of its gates touches consecutive lines.
pub record IsRouting (c : Cascade) (text : List ℕ) : Type 0 where
  pub read_back : real_of text ≡ Ok (routed c)
  pub same : (word : List Bool) → length word ≡ length c.names → run (routed c).gates word ≡ run c.gates word
  pub near : All IsNear (routed c).gates

abbrev pub route_row : ReadsFirst
route_row = one circuit route_report IsRouting
