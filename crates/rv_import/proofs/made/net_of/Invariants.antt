use Rattle.std.proofs.Common.{◌≡◌, All, take}
use Rattle.rv_import.specs.Calls.{calls_ops, IsRight}
use Rattle.rv_import.proofs.made.net_of.Given as goal

abbrev pub invariant-loop-call : goal.invariant-loop-call
invariant-loop-call l =
    (l.net ≡ record { lines = l.lines; ops = calls_ops (take l.call-index l.calls) })
    × All (IsRight l.lines) (take l.call-index l.calls)
