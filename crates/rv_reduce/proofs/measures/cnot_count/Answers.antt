use Rattle.std.proofs.Common.{◌≡◌, ℕ, ◌+◌, ◌<◌, List, [], ◌∷◌, length, take, get_or, ap, ◌∙◌, arith}
use Rattle.std.proofs.lemmas.List.{take_more}
use Rattle.std.proofs.lemmas.List.Sums.{sum_by-append}
use Rattle.rv_net.specs.declared.op.Op.{Op}
use Rattle.rv_net.specs.declared.op.Op.TheVariants.{X}
use Rattle.rv_reduce.specs.Cnots.{cnot_count, cnots_of}
use Rattle.rv_reduce.proofs.measures.cnot_count.Goals as goal

one_more : (ops : List Op) (k : ℕ) (d : Op) → k < length ops → cnot_count (take (k + 1) ops) ≡ cnot_count (take k ops) + cnots_of (get_or ops k d)
one_more ops k d h =
    let split = ap cnot_count (take_more ops k d h) ∙ sum_by-append cnots_of (take k ops) (get_or ops k d ∷ []) in
    omega (arith, split)

pub loop-op-preserved : goal.loop-op-preserved
loop-op-preserved c =
    let more = one_more c.args.ops.now c.loop-op.op-index (X 0) c.loop-op-test.true in
    let value = c.cnots_of-count.ensures.value in
    record { value = omega (arith, more, value); few = omega arith }
