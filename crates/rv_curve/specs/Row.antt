-- What a circuit costs, in a row of a report.
use Rattle.std.specs.Prelude.{ℕ, nat_lt, Option, Some, None, if◌then◌else◌}
use Rattle.rv_gate.specs.Circuit.{Cascade}
use Rattle.rv_gate.specs.declared.word.TheConstants.{MOST_LINES}
use Rattle.rv_mct.specs.Widened.{lines_with_helpers}
use Rattle.rv_mct.specs.declared.aux.Aux.TheVariants.{Clean}
use Rattle.rv_net.specs.Op.{Network}
use Rattle.rv_net.specs.declared.net.TheConstants.{MOST_OPS}
use Rattle.rv_ladder.specs.Counts.{operations, relative_count}
use Rattle.rv_ladder.specs.Relative.{relative_net}
use Rattle.rv_cost.specs.CircuitCost.{circuit_cost}
use Rattle.rv_cost.specs.NetCost.{net_cost}
use Rattle.rv_curve.specs.declared.row.Counts.{Counts}
use Rattle.rv_curve.specs.declared.row.Row.{Row}

-- T and CNOT of a network, as its cost has them
abbrev pub counts_of : Network → Counts
counts_of net = record { t = (net_cost net).t; cnot = (net_cost net).cnot }

-- of the network of ladders over lines that hold 0, if that has few lines and operations enough
abbrev pub network_counts : Cascade → Option Counts
network_counts c =
    if nat_lt MOST_LINES (lines_with_helpers Clean c) then None
    else (if nat_lt MOST_OPS (relative_count operations Clean c) then None
    else Some (counts_of (relative_net Clean c)))

-- the row of a circuit that was asked for on at most so many lines, with so much effort
abbrev pub row_of : ℕ → ℕ → Cascade → Row
row_of most effort c =
    record {
      lines = (circuit_cost c).lines;
      counts = network_counts c;
      quantum = (circuit_cost c).quantum;
      gates = (circuit_cost c).gates;
      most = most;
      effort = effort;
    }
