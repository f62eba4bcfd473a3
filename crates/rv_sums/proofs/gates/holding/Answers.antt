use Rattle.std.proofs.Common.{◌≡◌, ℕ, Bool, true, cond, length, ap, ◌∙◌, arith}
use Rattle.rv_gate.specs.Gate.{all_below, holds, same}
use Rattle.rv_gate.specs.Word.{bit_of, has}
use Rattle.rv_sums.proofs.gates.holding.Goals as goal

pub returns : goal.returns
unfolding holds
returns c x v len =
    let p : ℕ → Bool = λ line. cond (has c.args.care line) (same (bit_of x line) (has c.args.want line)) true in
    let whole : c.loop-line.line ≡ length x = omega arith in
    c.loop-line.invariant x v ∙ ap (all_below p) whole
