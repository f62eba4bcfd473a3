-- What a BLIF text denotes: a logic network, or its first fault.
use Rattle.std.specs.Prelude.{ℕ, List, [], ◌∷◌, Option, Result, Ok}
use Rattle.std.specs.Result.{result_err}
use Rattle.rv_text.specs.declared.fault.TextFault.{TextFault}
use Rattle.rv_reader.specs.Feeding.{faulted, object_of}
use Rattle.rv_reader.specs.Rules.{◌>>=◌, on_line, lines_read}
use Rattle.rv_reader.specs.declared.text_refusal.TextRefusal.{TextRefusal}
use Rattle.rv_reader.specs.declared.text_refusal.TextRefusal.TheVariants as refusals
use Rattle.rv_reader.specs.declared.whole.Whole.{Whole}
use Rattle.rv_blif.specs.declared.fault.BlifFault.{BlifFault}
use Rattle.rv_blif.specs.declared.fault.BlifFault.TheVariants as faults
use Rattle.rv_blif.specs.Logic.{Logic}
use Rattle.rv_blif.specs.Given.{Given, closed, line_rules, netlist_of, whole_line}
use Rattle.rv_blif.specs.Placing.{ordered}

-- why a text was refused, before its end
abbrev pub as_fault : TextRefusal → BlifFault
as_fault (refusals.Text fault) = faults.Text fault
as_fault refusals.Mem = faults.Mem

-- what was begun is a line too
abbrev pub begun_read : ℕ → Given → List ℕ → Result Given TextFault
begun_read lines given [] = Ok given
begun_read lines given (byte ∷ bytes) = on_line lines (whole_line given lines [])

-- a text of so many lines ends
abbrev pub end_of : Whole Given → Result Logic BlifFault
end_of whole =
    faulted faults.Text
    (begun_read whole.lines whole.state whole.state.begun >>= λ given.
    ordered whole.lines (closed given).driven (netlist_of (closed given)))

-- the first fault in lines
abbrev pub fault_in : List (List ℕ) → Option TextFault
fault_in lines = result_err (lines_read line_rules 0 line_rules.start lines)

-- the network that a text denotes, or its first fault
abbrev pub logic_of : List ℕ → Result Logic BlifFault
logic_of text = object_of line_rules as_fault end_of text
