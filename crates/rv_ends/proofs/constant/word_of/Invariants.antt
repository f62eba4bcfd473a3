use Rattle.std.proofs.Common.{◌≡◌, Bool, List, take}
use Rattle.rv_ends.specs.Ends.{word_at}
use Rattle.rv_ends.proofs.constant.word_of.Given as goal

abbrev pub invariant-loop-sum : goal.invariant-loop-sum
invariant-loop-sum l = (x v : List Bool) → word_at (take l.sum-index l.sums) x v ≡ l.word.items
