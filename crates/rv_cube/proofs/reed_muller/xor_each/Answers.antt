use Rattle.std.proofs.Common.{◌≢◌, ◌<◌, ℕ, length, get_or, arith, ◌∙◌, ap, get_or-set_other, get_or-set_same, below_more}
use Rattle.std.specs.Prelude.{bit_xor}
use Rattle.std.proofs.lemmas.Nat.{xor_comm}
use Rattle.rv_cube.proofs.reed_muller.xor_each.Goals as goal

pub loop-i-preserved : goal.loop-i-preserved
loop-i-preserved c =
    let i : ℕ = c.loop-i.i in
    let lt : c.loop-i.i < length c.loop-i.high = omega arith in
    record {
      done = below_more _ _
          (λ k h. let ne : k ≢ c.loop-i.i = omega arith in rw get_or-set_other (c.loop-i.invariant.done k h))
          (rw get_or-set_same (xor_comm (get_or c.loop-i.high c.loop-i.i 0) (get_or c.args.low.now c.loop-i.i 0) ∙ ap (bit_xor (get_or c.args.low.now c.loop-i.i 0)) (c.loop-i.invariant.rest c.loop-i.i (omega arith))));
      rest = λ k h. let ne : k ≢ c.loop-i.i = omega arith in rw get_or-set_other (c.loop-i.invariant.rest k (omega arith));
    }
