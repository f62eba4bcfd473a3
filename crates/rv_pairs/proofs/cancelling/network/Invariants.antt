use Rattle.std.proofs.Common.{◌≡◌, take}
use Rattle.rv_pairs.specs.inside.Cells.{present}
use Rattle.rv_pairs.proofs.cancelling.network.Given as goal

abbrev pub invariant-loop-cell : goal.invariant-loop-cell
invariant-loop-cell l = l.result ≡ record { lines = l.net.lines; ops = present (take l.cell-index l.cells) }
