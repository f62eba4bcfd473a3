-- Toffoli and Fredkin gates by their exact blocks of Clifford and T operations.
use Rattle.std.specs.Prelude.{nat_lt, Bool, false, not, List, [], ◌∷◌, ◌++◌, length, if◌then◌else◌}
use Rattle.rv_net.specs.Network.{toffoli}
use Rattle.rv_net.specs.Op.{Network}
use Rattle.rv_net.specs.declared.net.TheConstants.{MOST_OPS}
use Rattle.rv_net.specs.declared.op.Op.{Op}
use Rattle.rv_net.specs.declared.op.Op.TheVariants.{Cx, Ccx, Cswap}
use Rattle.rv_reduce.specs.declared.goal.Goal.{Goal}
use Rattle.rv_reduce.specs.declared.goal.Goal.TheVariants.{Ops}

-- A Toffoli gate is the block that `map` writes, with 7 T, 6 CNOT and 2 H; a Fredkin gate is one between two CNOT.
abbrev pub block_of : Op → List Op
block_of (Ccx a b c) = toffoli a b c
block_of (Cswap c a b) = Cx b a ∷ (toffoli c a b ++ Cx b a ∷ [])
block_of op = op ∷ []

-- all of them by their blocks
unfoldable pub in_blocks : List Op → List Op
in_blocks [] = []
in_blocks (op ∷ rest) = block_of op ++ in_blocks rest

-- whether a goal begins with blocks: not where operations count, nor where there would be too many
abbrev pub takes_blocks : Goal → List Op → Bool
takes_blocks Ops ops = false
takes_blocks goal ops = not (nat_lt MOST_OPS (length (in_blocks ops)))

-- the network that a goal begins with
abbrev pub begun : Goal → Network → Network
begun goal net = if takes_blocks goal net.ops then record net { ops = in_blocks net.ops } else net
