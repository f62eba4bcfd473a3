use Rattle.std.proofs.Common.{ℕ, get_or, arith, sym, ◌∙◌, refl}
use Rattle.rv_simulate.proofs.inside.Taking.{taking_fits, taking_more, taking_none, taking_octet}
use Rattle.rv_simulate.proofs.word_line.with_bits.Goals as goal

pub loop-octet-init : goal.loop-octet-init
loop-octet-init c = taking_none c.args.number c.args.count c.args.bytes.now c.min-most.result c.requires.small

pub loop-octet-preserved : goal.loop-octet-preserved
loop-octet-preserved c =
    rw c.from-in-Some.ensures
    (taking_octet c.args.number c.args.count c.args.bytes.now c.min-most.result c.loop-octet.taken c.loop-octet.number c.in-Some.octet (omega arith) c.in-Some.ensures c.loop-octet.invariant)

pub overflow_mul-number : goal.overflow_mul-number
overflow_mul-number c =
    let next = taking_octet _ _ _ c.min-most.result c.loop-octet.taken c.loop-octet.number c.in-Some.octet (omega arith) c.in-Some.ensures c.loop-octet.invariant in
    omega (arith, taking_fits _ _ _ _ _ _ (omega arith) next)

pub overflow_add-number : goal.overflow_add-number
overflow_add-number c =
    let next = taking_octet _ _ _ c.min-most.result c.loop-octet.taken c.loop-octet.number c.in-Some.octet (omega arith) c.in-Some.ensures c.loop-octet.invariant in
    omega (arith, c.from-in-Some.ensures, taking_fits _ _ _ _ _ _ (omega arith) next)

pub loop-taken-preserved : goal.loop-taken-preserved
loop-taken-preserved c =
    let byte : ℕ = get_or c.args.bytes.now c.loop-taken.taken 0 in
    rw c.from-in-loop-taken.ensures
    (taking_more c.args.number c.args.count c.args.bytes.now c.min-most.result c.loop-taken.taken c.loop-taken.number byte c.loop-taken-test.true (omega arith) refl
    (sym c.is_bit.ensures ∙ c.if-is_bit.true) c.loop-taken.invariant)
