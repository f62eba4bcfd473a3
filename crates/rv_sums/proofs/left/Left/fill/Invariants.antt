use Rattle.std.proofs.Common.{◌≡◌}
use Rattle.rv_sums.specs.inside.State.{left_of}
use Rattle.rv_sums.proofs.left.Left.fill.Given as goal

abbrev pub invariant-more : goal.invariant-more
invariant-more l = left_of l.flips l.self ≡ left_of l.flips l.fn.self
