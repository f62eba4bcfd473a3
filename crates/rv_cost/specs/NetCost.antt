-- What a network costs.
use Rattle.std.specs.Prelude.{ℕ, ◌^◌, Bool, true, false, List, length, map, reverse, count_by, if◌then◌else◌, bit_or}
use Rattle.rv_net.specs.Amplitude.{count_h}
use Rattle.rv_net.specs.Op.{Network, is_t}
use Rattle.rv_net.specs.declared.op.Op.{Op}
use Rattle.rv_net.specs.declared.op.Op.TheVariants.{X, Y, Z, H, S, Sdg, T, Tdg, Cx, Cz, Ccx, Swap, Cswap}
use Rattle.rv_cost.specs.Levels.{Task, schedule_of, depth_of}
use Rattle.rv_cost.specs.declared.network.NetCost.{NetCost}

abbrev pub is_cnot : Op → Bool
is_cnot (Cx a b) = true
is_cnot op = false

-- the set of the lines on which an operation acts
abbrev pub op_lines : Op → ℕ
op_lines (X q) = 2 ^ q
op_lines (Y q) = 2 ^ q
op_lines (Z q) = 2 ^ q
op_lines (H q) = 2 ^ q
op_lines (S q) = 2 ^ q
op_lines (Sdg q) = 2 ^ q
op_lines (T q) = 2 ^ q
op_lines (Tdg q) = 2 ^ q
op_lines (Cx a b) = bit_or (2 ^ a) (2 ^ b)
op_lines (Cz a b) = bit_or (2 ^ a) (2 ^ b)
op_lines (Swap a b) = bit_or (2 ^ a) (2 ^ b)
op_lines (Ccx a b c) = bit_or (bit_or (2 ^ a) (2 ^ b)) (2 ^ c)
op_lines (Cswap c a b) = bit_or (bit_or (2 ^ c) (2 ^ a)) (2 ^ b)

-- one level above the earlier operations that share a line
abbrev pub op_task : Op → Task
op_task op = record { lines = op_lines op; steps = 1 }

-- at the level of the earlier operations that share a line, and one above them where it is a T
abbrev pub t_task : Op → Task
t_task op = record { lines = op_lines op; steps = if is_t op then 1 else 0 }

abbrev pub op_depth : List Op → ℕ
op_depth ops = depth_of (schedule_of (reverse (map op_task ops)))

abbrev pub op_t_depth : List Op → ℕ
op_t_depth ops = depth_of (schedule_of (reverse (map t_task ops)))

abbrev pub net_cost : Network → NetCost
net_cost net =
    record {
      lines = net.lines;
      operations = length net.ops;
      t = count_by is_t net.ops;
      h = count_h net.ops;
      cnot = count_by is_cnot net.ops;
      depth = op_depth net.ops;
      t_depth = op_t_depth net.ops;
    }
