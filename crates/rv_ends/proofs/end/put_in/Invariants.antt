use Rattle.std.proofs.Common.{◌≡◌, ◌<◌, Bool, List, take, set, length}
use Rattle.rv_terms.specs.Products.{odd}
use Rattle.rv_ends.specs.Ends.{word_at}
use Rattle.rv_ends.proofs.end.put_in.Given as goal

abbrev pub invariant-loop-sum : goal.invariant-loop-sum
invariant-loop-sum l =
    (x v : List Bool) → l.path < length v
    → word_at l.made.items x v ≡ word_at (take l.sum-index l.sums) x (set v l.path (odd l.with x v))
