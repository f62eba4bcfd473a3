use Rattle.std.proofs.Common.{◌≡◌, take}
use Rattle.rv_fold.specs.Folded.{part, parts}
use Rattle.rv_fold.proofs.folding.fold.Given as goal

abbrev pub invariant-loop-place : goal.invariant-loop-place
invariant-loop-place l = l.folded ≡ record { lines = l.net.lines; ops = parts (part l.net.lines l.net.ops) 0 (take l.place l.net.ops) }
