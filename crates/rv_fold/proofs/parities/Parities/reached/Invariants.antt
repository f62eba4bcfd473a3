use Rattle.std.proofs.Common.{◌+◌, ◌-◌, ◌*◌, ◌^◌, length}
use Rattle.rv_fold.specs.inside.Shown.{parities_of}
use Rattle.rv_fold.proofs.inside.Mixed.{Reaches}
use Rattle.rv_fold.proofs.parities.Parities.reached.Given as goal

abbrev pub invariant-loop-left : goal.invariant-loop-left
invariant-loop-left l = Reaches (length l.self.parities.items) (parities_of l.self.parities.items) l.self.mixed l.first l.set l.left

abbrev pub decreases-loop-left : goal.decreases-loop-left
decreases-loop-left l = (2 ^ 64 - l.set) * 2 ^ 64 + l.left
