use Rattle.std.proofs.Common.{◌≡◌, Bool, true, cond, List}
use Rattle.rv_gate.specs.Gate.{all_below, same}
use Rattle.rv_gate.specs.Word.{bit_of, has}
use Rattle.rv_terms.specs.Products.{odd}
use Rattle.rv_sums.proofs.gates.holding.Given as goal

abbrev pub invariant-loop-line : goal.invariant-loop-line
invariant-loop-line l =
    (x v : List Bool)
    → odd l.sum x v ≡ all_below (λ line. cond (has l.care line) (same (bit_of x line) (has l.want line)) true) l.line
