-- How many lines and gates are enough for a logic network.
use Rattle.std.specs.Prelude.{ℕ, ◌+◌, ◌*◌, ◌^◌, length}
use Rattle.std.specs.List.{sum_by}
use Rattle.rv_blif.specs.Logic.{Logic, Node}

-- a line for each input, output and node
abbrev pub line_bound : Logic → ℕ
line_bound logic = length logic.inputs + length logic.outputs + length logic.nodes

-- a flip for each word of a node's operands, once to make the node and once to take it back
abbrev pub node_bound : Node → ℕ
node_bound node = 2 * 2 ^ length node.operands

-- those of all nodes, and a flip for each output
abbrev pub gate_bound : Logic → ℕ
gate_bound logic = sum_by node_bound logic.nodes + length logic.outputs
