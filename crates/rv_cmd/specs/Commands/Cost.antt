-- `cost`: what a circuit costs, or the network of an OpenQASM text.
use Rattle.std.specs.Prelude.{◌≡◌, ℕ, List, ◌++◌, codes, decimal}
use Rattle.rv_gate.specs.Circuit.{Cascade}
use Rattle.rv_qasm.specs.Reading.{Listing}
use Rattle.rv_cost.specs.CircuitCost.{circuit_cost}
use Rattle.rv_cost.specs.NetCost.{net_cost}
use Rattle.rv_cost.specs.declared.circuit.CircuitCost.{CircuitCost}
use Rattle.rv_cost.specs.declared.network.NetCost.{NetCost}
use Rattle.rv_words.specs.declared.command.Form.{Form}
use Rattle.rv_words.specs.declared.command.Form.TheVariants as form
use Rattle.rv_words.specs.declared.command.ReportForm.{ReportForm}
use Rattle.rv_words.specs.declared.command.ReportForm.TheVariants.{Csv, Json, Text}
use Rattle.rv_inputs.specs.Formats.{circuit, program}
use Rattle.rv_cmd.specs.Limits.{LimitedText, unlimited}
use Rattle.rv_cmd.specs.Row.{ReadsFirst, one}

-- ---- a line for each number

-- a line of a report: a name, a blank and the number
abbrev pub report_line : List ℕ → ℕ → List ℕ
report_line name number = name ++ (codes " " ++ (decimal number ++ codes "\n"))

abbrev pub circuit_cost_lines : CircuitCost → List ℕ
circuit_cost_lines cost =
    report_line (codes "lines") cost.lines
    ++ (report_line (codes "gates") cost.gates
    ++ (report_line (codes "controls") cost.controls
    ++ (report_line (codes "quantum") cost.quantum
    ++ report_line (codes "depth") cost.depth)))

abbrev pub net_cost_lines : NetCost → List ℕ
net_cost_lines cost =
    report_line (codes "lines") cost.lines
    ++ (report_line (codes "operations") cost.operations
    ++ (report_line (codes "t") cost.t
    ++ (report_line (codes "h") cost.h
    ++ (report_line (codes "cnot") cost.cnot
    ++ (report_line (codes "depth") cost.depth
    ++ report_line (codes "t-depth") cost.t_depth)))))

-- ---- an object of JSON (RFC 8259), in a line

-- a name and its number, after the brace or the comma before it
abbrev pub json_field : List ℕ → List ℕ → ℕ → List ℕ
json_field before name number = before ++ (name ++ (codes "\":" ++ decimal number))

abbrev pub circuit_cost_json : CircuitCost → List ℕ
circuit_cost_json cost =
    json_field (codes "{\"") (codes "lines") cost.lines
    ++ (json_field (codes ",\"") (codes "gates") cost.gates
    ++ (json_field (codes ",\"") (codes "controls") cost.controls
    ++ (json_field (codes ",\"") (codes "quantum") cost.quantum
    ++ (json_field (codes ",\"") (codes "depth") cost.depth
    ++ codes "}\n"))))

abbrev pub net_cost_json : NetCost → List ℕ
net_cost_json cost =
    json_field (codes "{\"") (codes "lines") cost.lines
    ++ (json_field (codes ",\"") (codes "operations") cost.operations
    ++ (json_field (codes ",\"") (codes "t") cost.t
    ++ (json_field (codes ",\"") (codes "h") cost.h
    ++ (json_field (codes ",\"") (codes "cnot") cost.cnot
    ++ (json_field (codes ",\"") (codes "depth") cost.depth
    ++ (json_field (codes ",\"") (codes "t-depth") cost.t_depth
    ++ codes "}\n"))))))

-- ---- comma-separated values (RFC 4180, but for the ends of its lines): a line of names and one of numbers

abbrev pub csv_number : ℕ → List ℕ → List ℕ
csv_number number after = decimal number ++ after

abbrev pub circuit_cost_csv : CircuitCost → List ℕ
circuit_cost_csv cost =
    codes "lines,gates,controls,quantum,depth\n"
    ++ (csv_number cost.lines (codes ",")
    ++ (csv_number cost.gates (codes ",")
    ++ (csv_number cost.controls (codes ",")
    ++ (csv_number cost.quantum (codes ",")
    ++ csv_number cost.depth (codes "\n")))))

abbrev pub net_cost_csv : NetCost → List ℕ
net_cost_csv cost =
    codes "lines,operations,t,h,cnot,depth,t-depth\n"
    ++ (csv_number cost.lines (codes ",")
    ++ (csv_number cost.operations (codes ",")
    ++ (csv_number cost.t (codes ",")
    ++ (csv_number cost.h (codes ",")
    ++ (csv_number cost.cnot (codes ",")
    ++ (csv_number cost.depth (codes ",")
    ++ csv_number cost.t_depth (codes "\n")))))))

-- ---- the report

abbrev pub circuit_cost_text : ReportForm → CircuitCost → List ℕ
circuit_cost_text Text cost = circuit_cost_lines cost
circuit_cost_text Json cost = circuit_cost_json cost
circuit_cost_text Csv cost = circuit_cost_csv cost

abbrev pub net_cost_text : ReportForm → NetCost → List ℕ
net_cost_text Text cost = net_cost_lines cost
net_cost_text Json cost = net_cost_json cost
net_cost_text Csv cost = net_cost_csv cost

abbrev pub circuit_cost_report : ReportForm → Cascade → LimitedText
circuit_cost_report form c = unlimited (circuit_cost_text form (circuit_cost c))

abbrev pub program_cost_report : ReportForm → Listing → LimitedText
program_cost_report form listing = unlimited (net_cost_text form (net_cost listing.net))

-- the report tells the costs of what was read
abbrev pub TellsCircuitCost : ReportForm → Cascade → List ℕ → Type 0
TellsCircuitCost form c text = text ≡ circuit_cost_text form (circuit_cost c)

abbrev pub TellsNetCost : ReportForm → Listing → List ℕ → Type 0
TellsNetCost form listing text = text ≡ net_cost_text form (net_cost listing.net)

-- by the form of the input, in the form that is asked for
abbrev pub cost_row : Form → ReportForm → ReadsFirst
cost_row form.Qasm how = one program (program_cost_report how) (TellsNetCost how)
cost_row _ how = one circuit (circuit_cost_report how) (TellsCircuitCost how)
