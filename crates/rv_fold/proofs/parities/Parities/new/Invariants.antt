use Rattle.std.proofs.Common.{◌≡◌, length}
use Rattle.rv_fold.specs.Parities.{alone}
use Rattle.rv_fold.specs.inside.Shown.{parities_of}
use Rattle.rv_fold.proofs.parities.Parities.new.Given as goal

abbrev pub invariant-loop-line : goal.invariant-loop-line
invariant-loop-line l = (parities_of l.parities.items ≡ alone) × (length l.parities.items ≡ l.line)
